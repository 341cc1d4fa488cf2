-- Signed numbers of 16 bits: two's complement, and the elements of an array of them. Assumes nothing.
use Prim.Native.Nat.{ℕ, zero, suc, ◌-◌, ◌≤◌, ◌<◌, ◌^◌}
use mathlib.Core.Path.{◌≡◌, ap, ◌∙◌}
use mathlib.Core.List.{List, [], ◌∷◌}
use native.Mathlib.Omega.{arith}
use lib.ListN.{get_or}
use lib.IntN.{ℤ, pos, negsuc}
use lib.Dec.{lit<}
use mir.Syntax.{w16}
use mir.Val.{Val, SFits, to_z, of_z}
use mir.Facts.{to_z-of_z, of_z-to_z, to_z_pos, to_z-neg, Fits-of_z}
use mir.ValLaws.{to_z-Fits}
use denote.Array.{each}
use denote.Signed.{SInt}
use denote.Shadow.{shadow}
use Rattle.words.specs.Words.{signed16, bits16}

-- an element of an array of i16 fits, and is read back from its bits as it is
pub each_fits : (xs : List ℤ) (us : List Val) (i : ℕ) → shadow (each ℤ (SInt w16).own_val xs us) → SFits w16 (get_or xs i (pos 0))
each_fits [] us i p = record { sfits = lit< tt }
each_fits (x ∷ xs) [] i p = absurd p
each_fits (x ∷ xs) (u ∷ us) zero p = record { sfits = p.0.1 }
each_fits (x ∷ xs) (u ∷ us) (suc i) p = each_fits xs us i p.1

pub element : (xs : List ℤ) (us : List Val) (i : ℕ) → shadow (each ℤ (SInt w16).own_val xs us)
    → to_z w16 (of_z w16 (get_or xs i (pos 0))) ≡ get_or xs i (pos 0)
element xs us i p = to_z-of_z (each_fits xs us i p)

-- ---- two's complement

-- below 32,768 the number itself
pub signed_low : (v : ℕ) → v < 2 ^ 15 → signed16 v ≡ pos v
signed_low v h = to_z_pos w16 h

-- from 32,768 on 65,536 less: `negsuc n` is -1 - n
pub signed_high : (v : ℕ) → 2 ^ 15 ≤ v → v < 2 ^ 16 → signed16 v ≡ negsuc (65535 - v)
signed_high v h k = ap (to_z w16) {x = v} {y = 65536 - suc (65535 - v)} (omega arith) ∙ to_z-neg w16 (65535 - v) (omega arith)

pub signed_bits : (z : ℤ) → SFits w16 z → signed16 (bits16 z) ≡ z
signed_bits z f = to_z-of_z f

pub bits_signed : (v : ℕ) → v < 2 ^ 16 → bits16 (signed16 v) ≡ v
bits_signed v h = of_z-to_z {w = w16} (record { fits = h })

pub bits_lt : (z : ℤ) → SFits w16 z → bits16 z < 2 ^ 16
bits_lt z f = (Fits-of_z {w = w16} {z = z} f).fits

pub signed_fits : (v : ℕ) → v < 2 ^ 16 → SFits w16 (signed16 v)
signed_fits v h = to_z-Fits w16 v (record { fits = h })

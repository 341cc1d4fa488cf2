-- A 0 bit of "FB" that is not programmed is a scar of the 256-byte page. Assumes nothing.
use Prim.Native.Nat.{ℕ, zero, suc, ◌+◌, ◌<◌, ◌^◌}
use mathlib.Core.Path.{◌≡◌, refl, sym, ap, ◌∙◌}
use Rattle.std.specs.Prelude.{None}
use mathlib.Core.List.{List, [], ◌∷◌}
use native.Mathlib.Nat.{one-mul}
use native.Mathlib.Omega.{arith}
use lib.Bits.{bit_or}
use lib.Pow.{pow-lt, shl-shr}
use lib.ListN.{get_or, take, drop, get_or-replicate}
use lib.Seq.{get_or-take, get_or-drop}
use Rattle.laws.specs.Answers.{Answer, gives, refuses}
use Rattle.laws.specs.Bits.{bit}
use Rattle.laws.proofs.Bits.{bit_lt, bit_and_lem, bit_or_lem, program_blank}
use Rattle.words.proofs.Same.{same_equal}
use Rattle.store.specs.Store.{programmed_bytes}
use Rattle.blackbox.specs.Page.{blank_page, magic, decoded_as, decoded}
use Rattle.blackbox.specs.declared.PageMetadata.{PageMetadata}
use Rattle.blackbox.proofs.Decoding.{whole}
use Rattle.power_pages.specs.Store.{content_in, content}
use Rattle.power_pages.specs.Spared.{MagicBit, Unprogrammed, SparedMagic, MagicScars}

-- ---- bytes

own_bit : (k : ℕ) → bit k (2 ^ k) ≡ 1
unfolding bit
own_bit k = let one = rw (one-mul (2 ^ k)) at (shl-shr 1 k) in omega (arith, one)

-- every bit of a blank byte is 1
blank_bit : (k : ℕ) → k < 8 → bit k 255 ≡ 1
blank_bit k h = omega (arith, bit_and_lem k 255 (2 ^ k), ap (bit k) (program_blank (2 ^ k) (pow-lt h)), own_bit k, bit_lt k 255)

behind : (keep : List ℕ) (i : ℕ) → get_or (drop 1 keep) i 0 ≡ get_or keep (suc i) 0
behind [] i = refl
behind (x ∷ keep) i = refl

-- a bit that is 1 stays so under a mask that has it
bit_stays : (k i : ℕ) (old target keep : List ℕ) → bit k (get_or old i 0) ≡ 1 → bit k (get_or keep i 0) ≡ 1
    → bit k (get_or (programmed_bytes old target keep) i 0) ≡ 1
unfolding programmed_bytes
bit_stays k i [] target keep h s = h
bit_stays k i (b ∷ old) [] keep h s = h
bit_stays k zero (b ∷ old) (t ∷ target) keep h s =
    omega (arith, bit_and_lem k b (bit_or t (get_or keep 0 0)), bit_or_lem k t (get_or keep 0 0), bit_lt k t)
bit_stays k (suc i) (b ∷ old) (t ∷ target) keep h s = bit_stays k i old target (drop 1 keep) h (ap (bit k) (behind keep i) ∙ s)

-- ---- pages

module _ (b : MagicBit) where
  -- a page that decodes has "FB" at 240
  unprogrammed_refused : (page : List ℕ) (m : PageMetadata) → Unprogrammed b page → decoded_as 1 5 page ≡ gives m → ⊥
  unprogrammed_refused page m h e = omega (arith, b.zero, h, ap (bit b.place) there)
    where
      there : get_or page (240 + b.byte) 0 ≡ get_or magic b.byte 0
      there =
          sym (get_or-drop 240 page b.byte 0) ∙ sym (get_or-take 2 (drop 240 page) b.byte 0 b.in_magic)
          ∙ ap (λ (l : List ℕ). get_or l b.byte 0) (same_equal (take 2 (drop 240 page)) magic (whole 1 5 page m e).marked)

  unprogrammed_undecoded : (page : List ℕ) → Unprogrammed b page → content page ≡ None
  unfolding content decoded
  unprogrammed_undecoded page h = go (decoded_as 1 5 page) refl
    where
      go : (a : Answer PageMetadata) → decoded_as 1 5 page ≡ a → content_in page a ≡ None
      go (gives m) e = absurd (unprogrammed_refused page m h e)
      go (refuses n x) e = refl

  blank_unprogrammed : Unprogrammed b blank_page
  blank_unprogrammed = ap (bit b.place) (get_or-replicate 256 (240 + b.byte) 255 0 (omega (arith, b.in_magic))) ∙ blank_bit b.place b.in_byte

pub magic_scars : MagicScars
magic_scars b =
    record {
      on_blank = blank_unprogrammed b;
      stays = λ old target keep h s. bit_stays b.place (240 + b.byte) old target keep h s;
      undecoded = unprogrammed_undecoded b;
    }

pub spared_magic : SparedMagic
spared_magic b target keep s =
    (magic_scars b).undecoded (programmed_bytes blank_page target keep) ((magic_scars b).stays blank_page target keep (blank_unprogrammed b) s)

-- there is such a bit, the lowest of the first byte
unfoldable pub lowest : MagicBit
unfolding bit
lowest = record { byte = 0; place = 0; in_magic = omega arith; in_byte = omega arith; zero = refl }

-- Two lists of bytes, compared from the front. Assumes nothing.
use mathlib.Core.Path.{◌≡◌, refl, sym, ap, ◌∙◌}
use mathlib.Core.Bool.{Bool, true, false, cond}
use mathlib.Core.List.{List, [], ◌∷◌}
use Prim.Native.Nat.{ℕ}
use native.Mathlib.Omega.{arith}
use borrow.Author.Tests.{eq-eqb, ne_eqb, eqb-true, eqb-false}
use lib.Bits.{bit_or, bit_xor, and_le_l, and_le_r, or_add_and, or_zero_r, xor_add_and, xor_self}
use lib.Dec.{eqb}
use lib.ListN.{length}
use Rattle.words.specs.Words.{same_bytes}

-- the lists are equal exactly if the comparison says so
pub same_refl : (a : List ℕ) → same_bytes a a ≡ true
unfolding same_bytes
same_refl [] = refl
same_refl (x ∷ a) = rw (eq-eqb x x refl) (same_refl a)

pub same_equal : (a b : List ℕ) → same_bytes a b ≡ true → a ≡ b
unfolding same_bytes
same_equal [] [] e = refl
same_equal [] (y ∷ b) e = absurd (let z : ◌≡◌ {A = ℕ} 0 1 = cc in omega arith)
same_equal (x ∷ a) [] e = absurd (let z : ◌≡◌ {A = ℕ} 0 1 = cc in omega arith)
same_equal (x ∷ a) (y ∷ b) e = go (eqb x y) refl e (λ r. same_equal a b r)
  where
    go : (q : Bool) → eqb x y ≡ q → cond q (same_bytes a b) false ≡ true → (same_bytes a b ≡ true → a ≡ b) → x ∷ a ≡ y ∷ b
    go true w r k = let p = eqb-true x y w in let s = k r in cc
    go false w r k = absurd (let z : ◌≡◌ {A = ℕ} 0 1 = cc in omega arith)

pub other_length : (a b : List ℕ) → (length a ≡ length b → ⊥) → same_bytes a b ≡ false
other_length a b h = go (same_bytes a b) refl
  where
    go : (q : Bool) → same_bytes a b ≡ q → same_bytes a b ≡ false
    go true e = absurd (h (ap length (same_equal a b e)))
    go false e = e

-- ---- the differences of the bytes so far, put together

none_differs : (d x y : ℕ) → bit_or d (bit_xor x y) ≡ 0 → x ≡ y
none_differs d x y e =
    let z : bit_xor x y ≡ 0 = omega (arith, e, or_add_and d (bit_xor x y), and_le_l d (bit_xor x y), and_le_r d (bit_xor x y)) in
    omega (arith, z, xor_add_and x y, and_le_l x y, and_le_r x y)

-- what is left decides, unless a byte before it differs
abbrev pub left_same : ℕ → List ℕ → List ℕ → Bool
left_same d a b = cond (eqb d 0) (same_bytes a b) false

-- a turn of the loop, and its end
pub left_next : (a b : List ℕ) (d x y : ℕ) → left_same (bit_or d (bit_xor x y)) a b ≡ left_same d (x ∷ a) (y ∷ b)
unfolding same_bytes
left_next a b d x y = go (eqb x y) refl
  where
    shut : (q : Bool) → cond q false false ≡ false
    shut true = refl
    shut false = refl

    go : (q : Bool) → eqb x y ≡ q → left_same (bit_or d (bit_xor x y)) a b ≡ cond (eqb d 0) (cond (eqb x y) (same_bytes a b) false) false
    go true e =
        let none : bit_xor x y ≡ 0 = ap (λ (v : ℕ). bit_xor v y) (eqb-true x y e) ∙ xor_self y in
        ap (λ (n : ℕ). left_same n a b) (ap (bit_or d) none ∙ or_zero_r d)
        ∙ ap (λ (r : Bool). cond (eqb d 0) (cond r (same_bytes a b) false) false) (sym e)
    go false e =
        let n = eqb-false x y e in
        ap (λ (r : Bool). cond r (same_bytes a b) false) (ne_eqb (bit_or d (bit_xor x y)) 0 (λ z. n (none_differs d x y z)))
        ∙ sym (ap (λ (r : Bool). cond (eqb d 0) (cond r (same_bytes a b) false) false) e ∙ shut (eqb d 0))

pub left_none : (a b : List ℕ) (d : ℕ) → length a ≡ 0 → length b ≡ 0 → left_same d a b ≡ eqb d 0
unfolding same_bytes
left_none [] [] d h k = kept (eqb d 0)
  where
    kept : (b : Bool) → cond b true false ≡ b
    kept true = refl
    kept false = refl
left_none (x ∷ a) b d h k = absurd (omega (arith, h))
left_none [] (y ∷ b) d h k = absurd (omega (arith, k))

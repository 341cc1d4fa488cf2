-- Bits under `&` and `|`: each bit by itself, a mask of one bit, a byte with one bit cleared; and the absorption laws that
-- programming a byte a second time goes by. Assumes nothing.
use Prim.Native.Nat.{ℕ, zero, suc, ◌+◌, ◌-◌, ◌*◌, ◌/◌, ◌%◌, ◌≤◌, ◌<◌, ◌^◌, min, max}
use mathlib.Core.Path.{◌≡◌, refl, sym, ap, ap₂, ◌∙◌}
use mathlib.Core.Bool.{Bool, true, false, cond}
use native.Mathlib.Omega.{arith}
use native.Mathlib.Nat.{mod-eq_of_lt, zero-mul}
use borrow.Author.Tests.{eq-eqb, ne_eqb, eqb-true, eqb-false}
use lib.Dec.{eqb}
use lib.Bits.{bit_and, bit_or, and_step, or_step, and_comm, and_mask, and_zero_l, and_zero_r, and_shr, or_shr, and_high}
use lib.Pow.{pow_pos, pow-add}
use Rattle.laws.specs.Bits.{bit, bit_clear, cleared}

-- ---- each bit by itself

pub bit_lt : (k a : ℕ) → bit k a < 2
unfolding bit
bit_lt k a = omega arith

pub bit_and_lem : (k a b : ℕ) → bit k (bit_and a b) ≡ min (bit k a) (bit k b)
unfolding bit
bit_and_lem k a b =
    let x = a / 2 ^ k in
    let y = b / 2 ^ k in
    let low : min (x % 2) (y % 2) < 2 = omega arith in
    ap (λ (n : ℕ). n % 2) (and_shr a b k) ∙ omega (arith, and_step x y)

pub bit_or_lem : (k a b : ℕ) → bit k (bit_or a b) ≡ max (bit k a) (bit k b)
unfolding bit
bit_or_lem k a b =
    let x = a / 2 ^ k in
    let y = b / 2 ^ k in
    let low : max (x % 2) (y % 2) < 2 = omega arith in
    ap (λ (n : ℕ). n % 2) (or_shr a b k) ∙ omega (arith, or_step x y)

-- ---- whether a bit is clear

pub clear_is : (k a : ℕ) → bit k a ≡ 0 → bit_clear k a ≡ true
unfolding bit_clear
clear_is k a h = eq-eqb (bit k a) 0 h

pub is_clear : (k a : ℕ) → bit_clear k a ≡ true → bit k a ≡ 0
unfolding bit_clear
is_clear k a h = eqb-true (bit k a) 0 h

pub same_clear : (k a b : ℕ) → bit k a ≡ bit k b → bit_clear k a ≡ bit_clear k b
unfolding bit_clear
same_clear k a b h = ap (λ (n : ℕ). eqb n 0) h

-- what was clear stays so under `&`
pub clear_and : (k a b : ℕ) → bit_clear k a ≡ true → bit_clear k (bit_and a b) ≡ true
clear_and k a b h = clear_is k (bit_and a b) (omega (arith, bit_and_lem k a b, is_clear k a h))

-- ---- a mask of one bit

shifted : (k n : ℕ) → n < 2 → n * 2 ^ k ≡ 0 → n ≡ 0
shifted k zero h e = refl
shifted k (suc zero) h e = let x : 1 * 2 ^ k ≡ 0 = e in absurd (omega (arith, pow_pos k))
shifted k (suc (suc n)) h e = absurd (omega arith)

-- `b & 1 << k` is 0 exactly if the bit is clear
pub mask_clear : (k b : ℕ) → eqb (bit_and b (2 ^ k)) 0 ≡ bit_clear k b
unfolding bit bit_clear
mask_clear k b = ap (λ (n : ℕ). eqb n 0) one ∙ test (bit k b) (bit_lt k b)
  where
    one : bit_and b (2 ^ k) ≡ bit k b * 2 ^ k
    one =
        let power : 2 ^ (1 + k) - 2 ^ k ≡ 2 ^ k = omega (arith, pow-add 2 1 k) in
        rw power at (and_high b 1 k)

    test : (n : ℕ) → n < 2 → eqb (n * 2 ^ k) 0 ≡ eqb n 0
    test n h = go (eqb n 0) refl
      where
        go : (q : Bool) → eqb n 0 ≡ q → eqb (n * 2 ^ k) 0 ≡ eqb n 0
        go true e = let z = eqb-true n 0 e in eq-eqb (n * 2 ^ k) 0 (rw z (zero-mul (2 ^ k))) ∙ sym e
        go false e = ne_eqb (n * 2 ^ k) 0 (λ z. eqb-false n 0 e (shifted k n h z)) ∙ sym e

-- ---- one bit cleared

-- a test of every number below a bound, and what it says of each
abbrev each : ℕ → (ℕ → Bool) → Bool
each zero p = true
each (suc n) p = cond (p n) (each n p) false

at_each : (n : ℕ) (p : ℕ → Bool) → each n p ≡ true → (i : ℕ) → i < n → p i ≡ true
at_each zero p e i h = absurd (omega arith)
at_each (suc n) p e i h = go (p n) refl e (eqb i n) refl (λ r l. at_each n p r i l)
  where
    below : eqb i n ≡ false → i < n
    below t = go_on (λ x. let z = eq-eqb i n x in let w : ◌≡◌ {A = ℕ} 0 1 = cc in omega arith)
      where
        go_on : (i ≡ n → ⊥) → i < n
        go_on d = omega arith

    go : (q : Bool) → p n ≡ q → cond q (each n p) false ≡ true → (s : Bool) → eqb i n ≡ s
        → (each n p ≡ true → i < n → p i ≡ true) → p i ≡ true
    go true w r true t k = let x = eqb-true i n t in rw x w
    go true w r false t k = k r (below t)
    go false w r s t k = absurd (let z : ◌≡◌ {A = ℕ} 0 1 = cc in omega arith)

-- the bits of `!(1 << k)`: 0 at k, 1 elsewhere
abbrev mask_right : ℕ → ℕ → Bool
mask_right k j = eqb ((255 - 2 ^ k) / 2 ^ j % 2) (cond (eqb j k) 0 1)

mask_bits : (k j : ℕ) → k < 8 → j < 8 → bit j (255 - 2 ^ k) ≡ cond (eqb j k) 0 1
unfolding bit
mask_bits k j h l =
    eqb-true ((255 - 2 ^ k) / 2 ^ j % 2) (cond (eqb j k) 0 1) (at_each 8 (mask_right k) (at_each 8 (λ k. each 8 (mask_right k)) refl k h) j l)

pub cleared_bit : (k b : ℕ) → k < 8 → bit k (cleared k b) ≡ 0
unfolding cleared
cleared_bit k b h =
    let one : ◌≡◌ {A = ℕ} (cond (eqb k k) 0 1) 0 = rw (eq-eqb k k refl) refl in
    omega (arith, bit_and_lem k b (255 - 2 ^ k), mask_bits k k h h, one)

pub other_bit : (j k b : ℕ) → j < 8 → k < 8 → (j ≡ k → ⊥) → bit j (cleared k b) ≡ bit j b
unfolding cleared
other_bit j k b l h n =
    let one : ◌≡◌ {A = ℕ} (cond (eqb j k) 0 1) 1 = rw (ne_eqb j k n) refl in
    omega (arith, bit_and_lem j b (255 - 2 ^ k), mask_bits k j h l, one, bit_lt j b)

-- ---- programming a byte: old AND (target OR keep)

-- numbers by their halves
halves : (P : ℕ → Type 0) → P 0 → ((a : ℕ) → P (a / 2) → P a) → (j a : ℕ) → a ≤ j → P a
halves P z s zero a h = let e : a ≡ 0 = omega arith in rw e z
halves P z s (suc j) a h = s a (halves P z s j (a / 2) (omega arith))

half : (x q r : ℕ) → x ≡ q * 2 + r → r < 2 → (x / 2 ≡ q) × (x % 2 ≡ r)
half x q r e h = (omega arith, omega arith)

and_of : (x q r y s u : ℕ) → x ≡ q * 2 + r → r < 2 → y ≡ s * 2 + u → u < 2 → bit_and x y ≡ bit_and q s * 2 + min r u
and_of x q r y s u e h f l = and_step x y ∙ rw ((half x q r e h).0, (half x q r e h).1, (half y s u f l).0, (half y s u f l).1) refl

whole : (x : ℕ) → x ≡ x / 2 * 2 + x % 2
whole x = omega arith

digit : (c t k : ℕ) → min (min (c % 2) (max (t % 2) (k % 2))) (t % 2) ≡ min (c % 2) (t % 2)
digit c t k = omega arith

-- whatever a first program kept, a second leaves what one alone would have
pub program_again : (t c k : ℕ) → bit_and (bit_and c (bit_or t k)) t ≡ bit_and c t
program_again t = halves (λ t. (c k : ℕ) → bit_and (bit_and c (bit_or t k)) t ≡ bit_and c t) base step t t (omega arith)
  where
    base : (c k : ℕ) → bit_and (bit_and c (bit_or 0 k)) 0 ≡ bit_and c 0
    base c k = and_zero_r (bit_and c (bit_or 0 k)) ∙ sym (and_zero_r c)

    step : (a : ℕ) → ((c k : ℕ) → bit_and (bit_and c (bit_or (a / 2) k)) (a / 2) ≡ bit_and c (a / 2))
        → (c k : ℕ) → bit_and (bit_and c (bit_or a k)) a ≡ bit_and c a
    step a ih c k =
        let kept = bit_or (a / 2) (k / 2) in
        let low = max (a % 2) (k % 2) in
        let inner = and_of c (c / 2) (c % 2) (bit_or a k) kept low (whole c) (omega arith) (or_step a k) (omega arith) in
        and_of (bit_and c (bit_or a k)) (bit_and (c / 2) kept) (min (c % 2) low) a (a / 2) (a % 2) inner (omega arith) (whole a) (omega arith)
        ∙ ap₂ (λ (x y : ℕ). x * 2 + y) (ih (c / 2) (k / 2)) (digit c a k)
        ∙ sym (and_step c a)

-- what was programmed stays so, whatever a further try keeps
pub program_same : (t k : ℕ) → bit_and t (bit_or t k) ≡ t
program_same t = halves (λ t. (k : ℕ) → bit_and t (bit_or t k) ≡ t) (λ k. and_zero_l (bit_or 0 k)) step t t (omega arith)
  where
    step : (a : ℕ) → ((k : ℕ) → bit_and (a / 2) (bit_or (a / 2) k) ≡ a / 2) → (k : ℕ) → bit_and a (bit_or a k) ≡ a
    step a ih k =
        let same : min (a % 2) (max (a % 2) (k % 2)) ≡ a % 2 = omega arith in
        and_of a (a / 2) (a % 2) (bit_or a k) (bit_or (a / 2) (k / 2)) (max (a % 2) (k % 2)) (whole a) (omega arith) (or_step a k) (omega arith)
        ∙ ap₂ (λ (x y : ℕ). x * 2 + y) (ih (k / 2)) same
        ∙ sym (whole a)

-- an erased byte takes any byte
pub program_blank : (t : ℕ) → t < 256 → bit_and 255 t ≡ t
program_blank t h = and_comm 255 t ∙ and_mask t 8 ∙ mod-eq_of_lt h

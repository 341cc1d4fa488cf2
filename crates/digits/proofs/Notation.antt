-- Decimal notation: it writes its number, nothing else does, and how many digits it has. Each by the digits from the last to the
-- first. Assumes nothing.
use Prim.Native.Nat.{ℕ, zero, suc, ◌+◌, ◌-◌, ◌*◌, ◌/◌, ◌%◌, ◌^◌, ◌≤◌, ◌<◌}
use mathlib.Core.Path.{◌≡◌, refl, sym, ap, ap₂, ◌∙◌}
use mathlib.Core.Bool.{Bool, true, false}
use mathlib.Core.Logic.{◌⊎◌, inl, inr, ⊎_elim}
use mathlib.Core.List.{List, [], ◌∷◌, ◌++◌}
use native.Mathlib.Omega.{arith}
use borrow.Author.Tests.{lt-ltb, le-ltb, ltb-true, ltb-false}
use lib.Dec.{ltb}
use lib.ListN.{length, get_or, length-append, get_or-append}
use Rattle.std.specs.Fmt.{decimal}
use Rattle.std.proofs.lemmas.Fmt.{decimal_by_steps}
use Rattle.digits.specs.Decimal.{digit, digits_in, decimal_of}
use Rattle.digits.specs.Laws.{EachDigit, value_from, Writes, DecimalWrites, DecimalAlone, DecimalShort}

-- ---- one digit, or a tenth and the last digit

sides : (b : Bool) → (b ≡ true) ⊎ (b ≡ false)
sides true = inl refl
sides false = inr refl

pub below_ten : (n : ℕ) → (n < 10) ⊎ (10 ≤ n)
below_ten n = ⊎_elim (λ e. inl (ltb-true n 10 e)) (λ e. inr (ltb-false n 10 e)) (sides (ltb n 10))

in_small : (k n : ℕ) → n < 10 → digits_in (suc k) n ≡ digit n ∷ []
unfolding digits_in
in_small k n h = rw (lt-ltb n 10 h) refl

in_more : (k n : ℕ) → 10 ≤ n → digits_in (suc k) n ≡ digits_in k (n / 10) ++ digit (n % 10) ∷ []
unfolding digits_in
in_more k n h = rw (le-ltb n 10 h) refl

-- any bound above the number gives the same digits
in_any : (a b n : ℕ) → n < a → n < b → digits_in a n ≡ digits_in b n
in_any zero b n h k = absurd (omega arith)
in_any (suc a) zero n h k = absurd (omega arith)
in_any (suc a) (suc b) n h k =
    ⊎_elim (λ (s : n < 10). in_small a n s ∙ sym (in_small b n s))
    (λ (s : 10 ≤ n).
    in_more a n s ∙ ap (λ (l : List ℕ). l ++ digit (n % 10) ∷ []) (in_any a b (n / 10) (omega arith) (omega arith)) ∙ sym (in_more b n s))
    (below_ten n)

pub decimal_small : (n : ℕ) → n < 10 → decimal_of n ≡ digit n ∷ []
unfolding decimal_of
decimal_small n h = in_small n n h

pub decimal_more : (n : ℕ) → 10 ≤ n → decimal_of n ≡ decimal_of (n / 10) ++ digit (n % 10) ∷ []
unfolding decimal_of
decimal_more n h =
    in_more n n h ∙ ap (λ (l : List ℕ). l ++ digit (n % 10) ∷ []) (in_any n (suc (n / 10)) (n / 10) (omega arith) (omega arith))

-- ---- what digits write

digits_end : (l : List ℕ) (b : ℕ) → EachDigit l → 48 ≤ b → b ≤ 57 → EachDigit (l ++ b ∷ [])
digits_end [] b h x y = (x, y, tt)
digits_end (a ∷ l) b h x y = (h.0, h.1, digits_end l b h.2 x y)

digits_front : (l : List ℕ) (b : ℕ) → EachDigit (l ++ b ∷ []) → EachDigit l × (48 ≤ b) × (b ≤ 57)
digits_front [] b h = (tt, h.0, h.1)
digits_front (a ∷ l) b h = let r = digits_front l b h.2 in ((h.0, h.1, r.0), r.1, r.2)

value_end : (v : ℕ) (l : List ℕ) (b : ℕ) → value_from v (l ++ b ∷ []) ≡ 10 * value_from v l + (b - 48)
unfolding value_from
value_end v [] b = refl
value_end v (a ∷ l) b = value_end (10 * v + (a - 48)) l b

value_grows : (v : ℕ) (l : List ℕ) → v ≤ value_from v l
unfolding value_from
value_grows v [] = omega arith
value_grows v (a ∷ l) = omega (arith, value_grows (10 * v + (a - 48)) l)

-- a first digit other than '0' counts
value_some : (a : ℕ) (l : List ℕ) → 48 ≤ a → (a ≡ 48 → ⊥) → 0 < value_from 0 (a ∷ l)
unfolding value_from
value_some a l h n = omega (arith, value_grows (10 * 0 + (a - 48)) l)

-- ---- decimal notation writes its number

module _ (n : ℕ) (h : 10 ≤ n) (l : List ℕ) (w : Writes (n / 10) l) where
  writes_front : get_or (l ++ digit (n % 10) ∷ []) 0 0 ≡ 48 → l ++ digit (n % 10) ∷ [] ≡ 48 ∷ []
  unfolding value_from
  writes_front e =
      let only : l ≡ 48 ∷ [] = w.front (sym (get_or-append l (digit (n % 10) ∷ []) 0 0 w.some_digit) ∙ e) in
      let none : n / 10 ≡ 0 = sym w.value ∙ ap (value_from 0) only in
      absurd (omega arith)

  writes_more : Writes n (l ++ digit (n % 10) ∷ [])
  writes_more =
      record {
        some_digit = omega (arith, length-append l (digit (n % 10) ∷ []));
        digits = digits_end l (digit (n % 10)) w.digits (omega arith) (omega arith);
        value = value_end 0 l (digit (n % 10)) ∙ ap (λ (v : ℕ). 10 * v + (digit (n % 10) - 48)) w.value ∙ omega arith;
        front = writes_front;
      }

writes_one : (n : ℕ) → n < 10 → Writes n (digit n ∷ [])
unfolding value_from
writes_one n h =
    record {
      some_digit = omega arith;
      digits = (omega arith, omega arith, tt);
      value = omega arith;
      front = λ e. ap (λ (b : ℕ). b ∷ []) e;
    }

writes_to : (k n : ℕ) → n ≤ k → Writes n (decimal_of n)
writes_to zero n h = let s : n < 10 = omega arith in rw (decimal_small n s) (writes_one n s)
writes_to (suc k) n h =
    ⊎_elim (λ (s : n < 10). rw (decimal_small n s) (writes_one n s))
    (λ (s : 10 ≤ n). rw (decimal_more n s) (writes_more n s (decimal_of (n / 10)) (writes_to k (n / 10) (omega arith))))
    (below_ten n)

pub decimal_writes : DecimalWrites
decimal_writes n = writes_to n n (omega arith)

-- ---- nothing else writes it

-- a list that is not empty has a last element
last_of : (l : List ℕ) → 0 < length l → (xs : List ℕ) × (b : ℕ) × (l ≡ xs ++ b ∷ [])
last_of [] h = absurd (omega arith)
last_of (a ∷ []) h = ([], a, refl)
last_of (a ∷ b ∷ l) h = let r = last_of (b ∷ l) (omega arith) in (a ∷ r.0, r.1, ap {B = List ℕ} (λ (m : List ℕ). a ∷ m) r.2)

module _ (n b : ℕ) where
  -- one digit
  alone_one : Writes n (b ∷ []) → b ∷ [] ≡ decimal_of n
  unfolding value_from
  alone_one w =
      let low : 48 ≤ b = w.digits.0 in
      let high : b ≤ 57 = w.digits.1 in
      let v : 10 * 0 + (b - 48) ≡ n = w.value in
      ap {B = List ℕ} (λ (d : ℕ). d ∷ []) {x = b} {y = digit n} (omega arith) ∙ sym (decimal_small n (omega arith))

  module _ (a : ℕ) (l : List ℕ) (w : Writes n ((a ∷ l) ++ b ∷ [])) where
    longer : 0 < length (l ++ b ∷ [])
    longer = omega (arith, length-append l (b ∷ []))

    not_zero : a ≡ 48 → ⊥
    not_zero e = omega (arith, longer, ap length (w.front e))

    last_value : 10 * value_from 0 (a ∷ l) + (b - 48) ≡ n
    last_value = sym (value_end 0 (a ∷ l) b) ∙ w.value

    ends : EachDigit (a ∷ l) × (48 ≤ b) × (b ≤ 57)
    ends = digits_front (a ∷ l) b w.digits

    tenth : value_from 0 (a ∷ l) ≡ n / 10
    tenth = omega (arith, last_value, ends.1, ends.2)

    rest : Writes (n / 10) (a ∷ l)
    rest = record { some_digit = omega arith; digits = ends.0; value = tenth; front = λ e. absurd (not_zero e) }

    big : 10 ≤ n
    big = omega (arith, last_value, value_some a l ends.0.0 not_zero)

    alone_more : a ∷ l ≡ decimal_of (n / 10) → (a ∷ l) ++ b ∷ [] ≡ decimal_of n
    alone_more e =
        let last : b ≡ digit (n % 10) = omega (arith, last_value, ends.1, ends.2) in
        ap₂ (λ (m : List ℕ) (d : ℕ). m ++ d ∷ []) e last ∙ sym (decimal_more n big)

-- where nothing else writes a tenth
alone_step : (n : ℕ) → (10 ≤ n → (m : List ℕ) → Writes (n / 10) m → m ≡ decimal_of (n / 10))
    → (xs : List ℕ) (b : ℕ) → Writes n (xs ++ b ∷ []) → xs ++ b ∷ [] ≡ decimal_of n
alone_step n ih [] b w = alone_one n b w
alone_step n ih (a ∷ l) b w = alone_more n b a l w (ih (big n b a l w) (a ∷ l) (rest n b a l w))

alone_to : (k n : ℕ) → n ≤ k → (l : List ℕ) → Writes n l → l ≡ decimal_of n
alone_to zero n h l w =
    let r = last_of l w.some_digit in
    r.2 ∙ alone_step n (λ g. absurd (omega arith)) r.0 r.1 (rw r.2 at w)
alone_to (suc k) n h l w =
    let r = last_of l w.some_digit in
    r.2 ∙ alone_step n (λ g. alone_to k (n / 10) (omega arith)) r.0 r.1 (rw r.2 at w)

pub decimal_alone : DecimalAlone
decimal_alone n = alone_to n n (omega arith)

-- ---- how many digits

short_to : (k n : ℕ) → n < 10 ^ suc k → length (decimal_of n) ≤ suc k
short_to zero n h = rw (decimal_small n (omega arith)) (omega arith)
short_to (suc k) n h =
    ⊎_elim (λ (s : n < 10). rw (decimal_small n s) (omega arith))
    (λ (s : 10 ≤ n).
    rw (decimal_more n s)
    (omega (arith, length-append (decimal_of (n / 10)) (digit (n % 10) ∷ []), short_to k (n / 10) (omega arith))))
    (below_ten n)

pub decimal_short : DecimalShort
decimal_short zero n p h = absurd (omega arith)
decimal_short (suc k) n p h = short_to k n h

-- as many as ten for 32 bits
pub decimal_ten : (n : ℕ) → n < 2 ^ 32 → length (decimal_of n) ≤ 10
decimal_ten n h = short_to 9 n (omega arith)

-- ---- the library's notation is this one

pub same_decimal : (n : ℕ) → n < 2 ^ 32 → decimal n ≡ decimal_of n
same_decimal n h =
    decimal_by_steps (λ (m : ℕ) (l : List ℕ). l ≡ decimal_of m) (λ m s. sym (decimal_small m s))
    (λ m l s e. ap (λ (x : List ℕ). x ++ digit (m % 10) ∷ []) e ∙ sym (decimal_more m s)) n (omega arith)

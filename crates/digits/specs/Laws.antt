-- What decimal notation keeps to; proofs/ shows it.
use Rattle.std.specs.Prelude.{ℕ, ◌+◌, ◌-◌, ◌*◌, ◌≤◌, ◌<◌, ◌^◌, ◌≡◌, List, [], ◌∷◌, length, get_or}
use Rattle.digits.specs.Decimal.{decimal_of}

-- every byte is '0' to '9'
abbrev pub EachDigit : List ℕ → Type 0
EachDigit [] = Unit {0}
EachDigit (b ∷ l) = (48 ≤ b) × (b ≤ 57) × EachDigit l

-- the number that digits write behind a number already read
unfoldable pub value_from : ℕ → List ℕ → ℕ
value_from v [] = v
value_from v (b ∷ l) = value_from (10 * v + (b - 48)) l

-- what writes a number: at least one digit, digits alone, which read back as the number, and no '0' in front but that of "0"
pub record Writes (n : ℕ) (l : List ℕ) : Type 0 where
  pub some_digit : 0 < length l
  pub digits : EachDigit l
  pub value : value_from 0 l ≡ n
  pub front : get_or l 0 0 ≡ 48 → l ≡ 48 ∷ []

abbrev pub DecimalWrites : Type 0
DecimalWrites = (n : ℕ) → Writes n (decimal_of n)

-- nothing else writes it
abbrev pub DecimalAlone : Type 0
DecimalAlone = (n : ℕ) (l : List ℕ) → Writes n l → l ≡ decimal_of n

-- a number below 10 ^ k has at most k digits
abbrev pub DecimalShort : Type 0
DecimalShort = (k n : ℕ) → 0 < k → n < 10 ^ k → length (decimal_of n) ≤ k

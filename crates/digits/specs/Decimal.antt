-- Numbers in decimal notation, as Rust's `{}` prints them: ASCII digits, the most significant first, no leading zeros, "0" for 0.
use Rattle.std.specs.Prelude.{ℕ, zero, suc, ◌+◌, ◌/◌, ◌%◌, cond, List, [], ◌∷◌, ◌++◌, ltb}

-- the ASCII code of a digit: '0' is 48
abbrev pub digit : ℕ → ℕ
digit d = 48 + d

-- a number below ten is its digit; any other is a tenth of it, written the same way, and its last digit. The first argument bounds
-- the digits.
unfoldable pub digits_in : ℕ → ℕ → List ℕ
digits_in zero n = []
digits_in (suc most) n = cond (ltb n 10) (digit n ∷ []) (digits_in most (n / 10) ++ digit (n % 10) ∷ [])

-- a number in decimal notation: n has at most n + 1 digits
unfoldable pub decimal_of : ℕ → List ℕ
decimal_of n = digits_in (suc n) n

-- Single bits of a number, counted from the least significant.
use Rattle.std.specs.Prelude.{ℕ, ◌-◌, ◌/◌, ◌%◌, ◌^◌, Bool, eqb}
use Rattle.std.specs.Int.Bits.{bit_and}

-- bit k of a number: 0 or 1
unfoldable pub bit : ℕ → ℕ → ℕ
bit k b = b / 2 ^ k % 2

-- bit k of a byte is clear
unfoldable pub bit_clear : ℕ → ℕ → Bool
bit_clear k b = eqb (bit k b) 0

-- a byte with bit k cleared and every other as it was
unfoldable pub cleared : ℕ → ℕ → ℕ
cleared k b = bit_and b (255 - 2 ^ k)

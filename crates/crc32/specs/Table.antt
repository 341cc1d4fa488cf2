-- A table of 64 bit steps: what they make of each hexadecimal digit at each of the 16 places of a number.
use Rattle.std.specs.Prelude.{◌≡◌, List, ℕ, ◌*◌, ◌/◌, ◌%◌, ◌^◌, ◌<◌, length, get_or}
use Rattle.crc32.specs.Crc.{bit_steps}

-- a digit at a place, 64 bit steps later
abbrev pub digit_steps : ℕ → ℕ → ℕ
digit_steps place d = bit_steps 64 (d * 2 ^ (4 * place))

-- at 16 * place + digit stands what 64 bit steps make of that digit at that place
unfoldable pub Tabled : List ℕ → Type 0
Tabled t = (length t ≡ 256) × ((k : ℕ) → k < 256 → get_or t k 0 ≡ digit_steps (k / 16) (k % 16))

-- CRC-32 as IEEE Std 802.3 defines it in clause 3.2.9, on the frame check sequence; in our own words, since the standard is not at hand.
-- A remainder is a number whose bit k is the coefficient of x^(31 - k): each byte enters with its least significant bit
-- first, as it goes out on the wire, and the checksum is stored as such a number, its low byte first.
use Rattle.std.specs.Prelude.{List, [], ◌∷◌, ℕ, zero, suc, ◌+◌, ◌-◌, ◌/◌, ◌%◌, ◌^◌}
use Rattle.std.specs.Int.Bits.{bit_xor}

-- the generating polynomial x^32 + x^26 + x^23 + x^22 + x^16 + x^12 + x^11 + x^10 + x^8 + x^7 + x^5 + x^4 + x^2 + x + 1, below x^32
abbrev pub exponents : List ℕ
exponents = 26 ∷ 23 ∷ 22 ∷ 16 ∷ 12 ∷ 11 ∷ 10 ∷ 8 ∷ 7 ∷ 5 ∷ 4 ∷ 2 ∷ 1 ∷ 0 ∷ []

-- the number of a polynomial below x^32 with these exponents
abbrev pub polynomial : List ℕ → ℕ
polynomial [] = 0
polynomial (e ∷ es) = 2 ^ (31 - e) + polynomial es

-- x^32 is G(x) - x^32 modulo G(x): what a coefficient that leaves at x^31 brings back
abbrev pub returned : ℕ → ℕ
returned zero = 0
returned (suc b) = polynomial exponents

-- times x, modulo G(x)
unfoldable pub bit_step : ℕ → ℕ
bit_step s = bit_xor (s / 2) (returned (s % 2))

-- times x^n, modulo G(x)
unfoldable pub bit_steps : ℕ → ℕ → ℕ
bit_steps zero s = s
bit_steps (suc n) s = bit_steps n (bit_step s)

-- eight more bits of the message
unfoldable pub byte_step : ℕ → ℕ → ℕ
byte_step s b = bit_steps 8 (bit_xor s b)

-- the remainder after the bytes of a message
unfoldable pub remainder : ℕ → List ℕ → ℕ
remainder s [] = s
remainder s (b ∷ bs) = remainder (byte_step s b) bs

-- the first 32 bits of the message are complemented, which a beginning of all ones does; the remainder is complemented too, and is then the
-- checksum
unfoldable pub crc32_of : List ℕ → ℕ
crc32_of bytes = bit_xor (remainder 0xffffffff bytes) 0xffffffff

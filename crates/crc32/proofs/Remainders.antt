-- The remainder over the rest of a message, one byte at a time, and its range. Assumes nothing.
use mathlib.Core.Path.{◌≡◌, sym, ap, ◌∙◌}
use mathlib.Core.List.{List, [], ◌∷◌}
use Prim.Native.Nat.{ℕ, zero, suc, ◌+◌, ◌/◌, ◌%◌, ◌≤◌, ◌<◌, ◌^◌}
use native.Mathlib.Numerals.{add-one}
use native.Mathlib.Omega.{arith}
use lib.Bits.{bit_xor, xor_lt}
use lib.ListN.{length, drop, get_or, drop_of_length-le}
use lib.Seq.{drop-cons}
use Rattle.words.specs.Words.{Bytes}
use Rattle.crc32.specs.Crc.{returned, bit_step, bit_steps, byte_step, remainder, crc32_of}

pub remainder_next : (s : ℕ) (l : List ℕ) (i : ℕ) → i < length l
    → remainder s (drop i l) ≡ remainder (byte_step s (get_or l i 0)) (drop (i + 1) l)
unfolding remainder
remainder_next s l i h = rw (drop-cons l i 0, add-one)

pub remainder_end : (s : ℕ) (l : List ℕ) (i : ℕ) → length l ≤ i → remainder s (drop i l) ≡ s
unfolding remainder
remainder_end s l i h = rw (drop_of_length-le l {i = i} h)

-- a turn of the loop that goes byte by byte, and its end
pub byte_turn : (s r : ℕ) (l : List ℕ) (i whole : ℕ) → i < length l → r ≡ byte_step s (get_or l i 0) → remainder s (drop i l) ≡ whole
    → remainder r (drop (i + 1) l) ≡ whole
byte_turn s r l i whole h e t = ap (λ (x : ℕ). remainder x (drop (i + 1) l)) e ∙ sym (remainder_next s l i h) ∙ t

pub bytes_end : (s : ℕ) (l : List ℕ) (i whole : ℕ) → length l ≤ i → remainder s (drop i l) ≡ whole → s ≡ whole
bytes_end s l i whole h t = sym (remainder_end s l i h) ∙ t

-- ---- a checksum has 32 bits

returned_lt : (b : ℕ) → returned b < 2 ^ 32
returned_lt zero = omega arith
returned_lt (suc b) = omega arith

step_lt : (s : ℕ) → s < 2 ^ 32 → bit_step s < 2 ^ 32
unfolding bit_step
step_lt s h = xor_lt 32 (s / 2) (returned (s % 2)) (omega arith) (returned_lt (s % 2))

steps_lt : (n s : ℕ) → s < 2 ^ 32 → bit_steps n s < 2 ^ 32
unfolding bit_steps
steps_lt zero s h = h
steps_lt (suc n) s h = steps_lt n (bit_step s) (step_lt s h)

remainder_lt : (l : List ℕ) (s : ℕ) → Bytes l → s < 2 ^ 32 → remainder s l < 2 ^ 32
unfolding remainder byte_step
remainder_lt [] s h k = k
remainder_lt (b ∷ l) s h k =
    let low : b < 256 = h 0 in
    remainder_lt l (byte_step s b) (λ i. h (suc i)) (steps_lt 8 (bit_xor s b) (xor_lt 32 s b k (omega arith)))

pub crc_lt : (l : List ℕ) → Bytes l → crc32_of l < 2 ^ 32
unfolding crc32_of
crc_lt l h = xor_lt 32 (remainder 0xffffffff l) 0xffffffff (remainder_lt l 0xffffffff h (omega arith)) (omega arith)

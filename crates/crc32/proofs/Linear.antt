-- Bit steps are linear, so the steps of a number are those of its digits, put together. Assumes nothing.
use mathlib.Core.Path.{◌≡◌, refl, sym, ap, ap₂, ◌∙◌}
use mathlib.Core.List.{List}
use Prim.Native.Nat.{ℕ, zero, suc, ◌+◌, ◌-◌, ◌*◌, ◌/◌, ◌%◌, ◌^◌, ◌≤◌, ◌<◌}
use native.Mathlib.Nat.{add-zero, mul_assoc, mul_comm}
use native.Mathlib.Omega.{arith}
use lib.Arith.{bin_ind, digits_mod, digits_div}
use lib.Bits.{bit_xor, differ, xor_step, xor_comm, xor_zero_r, xor_shifted, xor_block}
use lib.ListN.{length, take, drop, get_or, length-take, length-drop}
use lib.Seq.{drop-drop, take_all}
use lib.Pow.{pow-add, pow_pos, shr-shr}
use Rattle.std.specs.Int.{w64, from_le_bytes}
use Rattle.std.specs.Simd.{first_chunks}
use Rattle.words.specs.Words.{Bytes, le_value, le_at}
use Rattle.words.proofs.Numbers.{at_none, at_more}
use Rattle.crc32.specs.Crc.{returned, bit_step, bit_steps, byte_step, remainder}
use Rattle.crc32.proofs.Remainders.{remainder_next}

-- ---- exclusive or

digit_differ : (x y : ℕ) → x < 2 → y < 2 → differ x y < 2
digit_differ zero y h k = k
digit_differ (suc x) zero h k = h
digit_differ (suc zero) (suc zero) h k = omega arith
digit_differ (suc zero) (suc (suc y)) h k = absurd (omega arith)
digit_differ (suc (suc x)) (suc y) h k = absurd (omega arith)

xor_low : (a b : ℕ) → bit_xor a b % 2 ≡ differ (a % 2) (b % 2)
xor_low a b =
    ap (λ (x : ℕ). x % 2) (xor_step a b)
    ∙ digits_mod (bit_xor (a / 2) (b / 2)) (digit_differ (a % 2) (b % 2) (omega arith) (omega arith))

xor_half : (a b : ℕ) → bit_xor a b / 2 ≡ bit_xor (a / 2) (b / 2)
xor_half a b =
    ap (λ (x : ℕ). x / 2) (xor_step a b)
    ∙ digits_div (bit_xor (a / 2) (b / 2)) (digit_differ (a % 2) (b % 2) (omega arith) (omega arith))

differ_assoc : (x y z : ℕ) → x < 2 → y < 2 → z < 2 → differ (differ x y) z ≡ differ x (differ y z)
differ_assoc zero y z hx hy hz = refl
differ_assoc (suc zero) zero z hx hy hz = refl
differ_assoc (suc zero) (suc zero) zero hx hy hz = refl
differ_assoc (suc zero) (suc zero) (suc zero) hx hy hz = refl
differ_assoc (suc zero) (suc zero) (suc (suc z)) hx hy hz = absurd (omega arith)
differ_assoc (suc zero) (suc (suc y)) z hx hy hz = absurd (omega arith)
differ_assoc (suc (suc x)) y z hx hy hz = absurd (omega arith)

pub xor_assoc : (a b c : ℕ) → bit_xor (bit_xor a b) c ≡ bit_xor a (bit_xor b c)
xor_assoc a =
    bin_ind (λ (n : ℕ). (b c : ℕ) → bit_xor (bit_xor n b) c ≡ bit_xor n (bit_xor b c)) (λ b c. refl)
    (λ n ih b c.
    xor_step (bit_xor n b) c
    ∙ ap₂ (λ (x y : ℕ). bit_xor x (c / 2) * 2 + differ y (c % 2)) (xor_half n b) (xor_low n b)
    ∙ ap₂ (λ (x y : ℕ). x * 2 + y) (ih (b / 2) (c / 2))
    (differ_assoc (n % 2) (b % 2) (c % 2) (omega arith) (omega arith) (omega arith))
    ∙ sym (ap₂ (λ (x y : ℕ). bit_xor (n / 2) x * 2 + differ (n % 2) y) (xor_half b c) (xor_low b c))
    ∙ sym (xor_step n (bit_xor b c))) a

four : (a b c d : ℕ) → bit_xor (bit_xor a b) (bit_xor c d) ≡ bit_xor (bit_xor a c) (bit_xor b d)
four a b c d =
    xor_assoc a b (bit_xor c d)
    ∙ ap (bit_xor a) (sym (xor_assoc b c d) ∙ ap (λ (x : ℕ). bit_xor x d) (xor_comm b c) ∙ xor_assoc c b d)
    ∙ sym (xor_assoc a c (bit_xor b d))

-- ---- bit steps are linear

returned_xor : (x y : ℕ) → x < 2 → y < 2 → returned (differ x y) ≡ bit_xor (returned x) (returned y)
returned_xor zero y hx hy = refl
returned_xor (suc zero) zero hx hy = refl
returned_xor (suc zero) (suc zero) hx hy = refl
returned_xor (suc zero) (suc (suc y)) hx hy = absurd (omega arith)
returned_xor (suc (suc x)) y hx hy = absurd (omega arith)

step_xor : (a b : ℕ) → bit_step (bit_xor a b) ≡ bit_xor (bit_step a) (bit_step b)
unfolding bit_step
step_xor a b =
    ap₂ (λ (x y : ℕ). bit_xor x (returned y)) (xor_half a b) (xor_low a b)
    ∙ ap (bit_xor (bit_xor (a / 2) (b / 2))) (returned_xor (a % 2) (b % 2) (omega arith) (omega arith))
    ∙ four (a / 2) (b / 2) (returned (a % 2)) (returned (b % 2))

pub steps_xor : (n a b : ℕ) → bit_steps n (bit_xor a b) ≡ bit_xor (bit_steps n a) (bit_steps n b)
unfolding bit_steps
steps_xor zero a b = refl
steps_xor (suc n) a b = ap (bit_steps n) (step_xor a b) ∙ steps_xor n (bit_step a) (bit_step b)

pub steps_add : (m n s : ℕ) → bit_steps (m + n) s ≡ bit_steps n (bit_steps m s)
unfolding bit_steps
steps_add zero n s =
    let none : zero + n ≡ n = omega arith in
    ap (λ (k : ℕ). bit_steps k s) none
steps_add (suc m) n s =
    let next : suc m + n ≡ suc (m + n) = omega arith in
    ap (λ (k : ℕ). bit_steps k s) next ∙ steps_add m n (bit_step s)

step_even : (a : ℕ) → bit_step (a * 2) ≡ a
unfolding bit_step
step_even a =
    let even : a * 2 % 2 ≡ 0 = omega arith in
    let half : a * 2 / 2 ≡ a = omega arith in
    ap₂ (λ (x y : ℕ). bit_xor x (returned y)) half even ∙ xor_zero_r a

-- eight steps take away eight digits that are zero
steps_shift : (a : ℕ) → bit_steps 8 (a * 256) ≡ a
unfolding bit_steps
steps_shift a =
    let one : a * 256 ≡ a * 2 * 2 * 2 * 2 * 2 * 2 * 2 * 2 = omega arith in
    ap (bit_steps 8) one
    ∙ ap (bit_steps 7) (step_even (a * 2 * 2 * 2 * 2 * 2 * 2 * 2))
    ∙ ap (bit_steps 6) (step_even (a * 2 * 2 * 2 * 2 * 2 * 2))
    ∙ ap (bit_steps 5) (step_even (a * 2 * 2 * 2 * 2 * 2))
    ∙ ap (bit_steps 4) (step_even (a * 2 * 2 * 2 * 2))
    ∙ ap (bit_steps 3) (step_even (a * 2 * 2 * 2))
    ∙ ap (bit_steps 2) (step_even (a * 2 * 2))
    ∙ ap (bit_steps 1) (step_even (a * 2))
    ∙ step_even a

-- ---- k bytes at once

-- a byte and what is above it, eight steps later
byte_in : (s b w : ℕ) → b < 256 → bit_steps 8 (bit_xor s (b + 256 * w)) ≡ bit_xor (byte_step s b) w
unfolding byte_step
byte_in s b w h =
    let sum : b + 256 * w ≡ w * 2 ^ 8 + b = omega arith in
    ap (λ (x : ℕ). bit_steps 8 (bit_xor s x)) (sum ∙ sym (xor_shifted w 8 b h) ∙ xor_comm (w * 256) b)
    ∙ ap (bit_steps 8) (sym (xor_assoc s b (w * 256)))
    ∙ steps_xor 8 (bit_xor s b) (w * 256)
    ∙ ap (bit_xor (bit_steps 8 (bit_xor s b))) (steps_shift w)

pub many : (k s : ℕ) (l : List ℕ) (i : ℕ) → Bytes l → i + k ≤ length l
    → remainder s (drop i l) ≡ remainder (bit_steps (8 * k) (bit_xor s (le_at k l i))) (drop (i + k) l)
unfolding bit_steps
many zero s l i h n =
    ap₂ (λ (x j : ℕ). remainder x (drop j l)) (sym (xor_zero_r s) ∙ ap (bit_xor s) (sym (at_none l i))) (sym (add-zero i))
many (suc k) s l i h n =
    let more : 8 * suc k ≡ 8 + 8 * k = omega arith in
    let end : i + 1 + k ≡ i + suc k = omega arith in
    let next : suc i ≡ i + 1 = omega arith in
    let w = le_at k l (i + 1) in
    remainder_next s l i (omega arith)
    ∙ many k (byte_step s (get_or l i 0)) l (i + 1) h (omega arith)
    ∙ ap₂ (λ (x j : ℕ). remainder x (drop j l))
    (ap (bit_steps (8 * k)) (sym (byte_in s (get_or l i 0) w (h i)))
    ∙ sym (steps_add 8 (8 * k) (bit_xor s (get_or l i 0 + 256 * w)))
    ∙ ap₂ (λ (m x : ℕ). bit_steps m (bit_xor s x)) (sym more)
    (sym (at_more k l i ∙ ap (λ (j : ℕ). get_or l i 0 + 256 * le_at k l j) next)))
    end

-- ---- eight bytes as one number

eight : (bs : List ℕ) → le_at 8 bs 0 ≡ from_le_bytes w64 bs
eight bs =
    rw (at_more 7 bs 0, at_more 6 bs 1, at_more 5 bs 2, at_more 4 bs 3, at_more 3 bs 4, at_more 2 bs 5, at_more 1 bs 6, at_more 0 bs 7, at_none)
    (omega arith)

chunk_at : (k i : ℕ) (l d : List ℕ) → i < k → get_or (first_chunks 8 k l) i d ≡ take 8 (drop (i * 8) l)
chunk_at zero i l d h = absurd (omega arith)
chunk_at (suc k) zero l d h = refl
chunk_at (suc k) (suc i) l d h =
    let on : 8 + i * 8 ≡ suc i * 8 = omega arith in
    chunk_at k i (drop 8 l) d (omega arith) ∙ ap (take 8) (drop-drop (i * 8) 8 l ∙ ap (λ (j : ℕ). drop j l) on)

-- a turn of the loop that goes by eights
pub word_turn : (s r a w : ℕ) (l : List ℕ) (words : List (List ℕ)) (i whole : ℕ) (d : List ℕ) → Bytes l → words ≡ first_chunks 8 (length l / 8) l
    → i < length l / 8 → a ≡ s → w ≡ from_le_bytes w64 (get_or words i d) → r ≡ bit_steps 64 (bit_xor a w)
    → remainder s (drop (i * 8) l) ≡ whole → remainder r (drop ((i + 1) * 8) l) ≡ whole
unfolding le_at
word_turn s r a w l words i whole d h e n ea ew er t =
    let bs = take 8 (drop (i * 8) l) in
    let long : length bs ≡ 8 = omega (arith, length-take 8 (drop (i * 8) l), length-drop (i * 8) l) in
    let next : i * 8 + 8 ≡ (i + 1) * 8 = omega arith in
    let this = ew ∙ ap (λ (ws : List (List ℕ)). from_le_bytes w64 (get_or ws i d)) e ∙ ap (from_le_bytes w64) (chunk_at (length l / 8) i l d n)
    ∙ sym (eight bs) ∙ ap le_value (take_all 8 bs (omega arith)) in
    ap₂ (λ (x j : ℕ). remainder x (drop j l)) (er ∙ ap (bit_steps 64) (ap₂ bit_xor ea this)) (sym next)
    ∙ sym (many 8 s l (i * 8) h (omega arith)) ∙ t

-- ---- a number, digit by digit

-- a number's digits from a place on, with zeros below
abbrev pub above : ℕ → ℕ → ℕ
above place v = v / 2 ^ (4 * place) * 2 ^ (4 * place)

-- a number of 64 bits has none from the place 16 on
pub none_above : (v : ℕ) → v < 2 ^ 64 → 0 ≡ bit_steps 64 (above 16 v)
unfolding bit_steps bit_step
none_above v h =
    let none : above 16 v ≡ 0 = omega arith in
    ap (bit_steps 64) (sym none)

-- and all its digits from the place 0 on
pub all_above : (left v s : ℕ) → left ≡ 0 → s ≡ bit_steps 64 (above left v) → s ≡ bit_steps 64 v
all_above left v s none h =
    let all : above 0 v ≡ v = omega arith in
    h ∙ ap (λ (n : ℕ). bit_steps 64 (above n v)) none ∙ ap (bit_steps 64) all

next_above : (place v : ℕ) → above (place + 1) v ≡ v / 2 ^ (4 * place) / 16 * 16 * 2 ^ (4 * place)
next_above place v =
    let e = 4 * place in
    let four_more : 4 * (place + 1) ≡ e + 4 = omega arith in
    ap (λ (n : ℕ). v / 2 ^ n * 2 ^ n) four_more
    ∙ ap₂ (λ (x y : ℕ). x * y) (sym (shr-shr v e 4)) (pow-add 2 e 4 ∙ mul_comm (2 ^ e) 16)
    ∙ sym (mul_assoc (v / 2 ^ e / 16) 16 (2 ^ e))

-- the digits from a place on are those above it and the one that stands there
digit_in : (place v s p : ℕ) → s ≡ bit_steps 64 (above (place + 1) v) → p ≡ bit_steps 64 (v / 2 ^ (4 * place) % 16 * 2 ^ (4 * place))
    → bit_xor s p ≡ bit_steps 64 (above place v)
digit_in place v s p hs hp =
    let e = 4 * place in
    let w = v / 2 ^ e in
    let zeros : 0 < 2 ^ e = pow_pos e in
    let low : w % 16 < 2 ^ 4 = omega arith in
    let both : w / 16 * 2 ^ 4 + w % 16 ≡ w = omega arith in
    ap₂ bit_xor (hs ∙ ap (bit_steps 64) (next_above place v)) hp
    ∙ sym (steps_xor 64 (w / 16 * 16 * 2 ^ e) (w % 16 * 2 ^ e))
    ∙ ap (bit_steps 64)
    (ap₂ bit_xor (sym (add-zero (w / 16 * 16 * 2 ^ e))) (sym (add-zero (w % 16 * 2 ^ e)))
    ∙ xor_block e (w / 16 * 16) (w % 16) 0 0 zeros zeros
    ∙ add-zero (bit_xor (w / 16 * 16) (w % 16) * 2 ^ e)
    ∙ ap (λ (x : ℕ). x * 2 ^ e) (xor_shifted (w / 16) 4 (w % 16) low ∙ both))

pub digit_down : (left v s p : ℕ) → 0 < left → s ≡ bit_steps 64 (above left v)
    → p ≡ bit_steps 64 (v / 2 ^ (4 * (left - 1)) % 16 * 2 ^ (4 * (left - 1))) → bit_xor s p ≡ bit_steps 64 (above (left - 1) v)
digit_down left v s p h hs hp =
    let one : left ≡ left - 1 + 1 = omega arith in
    digit_in (left - 1) v s p (hs ∙ ap (λ (n : ℕ). bit_steps 64 (above n v)) one) hp

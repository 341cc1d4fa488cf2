-- Little-endian numbers: what stands at an offset, byte by byte; writing and reading back, both ways, at any width.
-- Assumes nothing.
use mathlib.Core.Path.{◌≡◌, refl, sym, ap, ap₂, ◌∙◌}
use mathlib.Core.List.{List, [], ◌∷◌, ◌++◌, append_assoc}
use Prim.Native.Nat.{ℕ, zero, suc, ◌+◌, ◌*◌, ◌/◌, ◌%◌, ◌^◌, ◌≤◌, ◌<◌}
use native.Mathlib.Omega.{arith}
use native.Mathlib.Nat.{add-zero, add_assoc}
use native.Mathlib.Numerals.{add-one, add-two, add-three, unary_clauses}
use lib.ListN.{length, take, drop, get_or, replicate, length-append, drop_of_length-le}
use borrow.Author.Tests.{le-leb, lt-leb}
use lib.Seq.{get_or-drop, drop-drop, take-nil, take-length, paste, length-paste, take-paste, drop-paste}
use Rattle.std.specs.Int.{byte_at, bytes_low_first}
use Rattle.std.proofs.Math.Nat.{div-div-eq-div-mul}
use Rattle.words.specs.Words.{Bytes, le_value, le_bytes, le_at, u16_at, u32_at, placed}

-- ---- bytes

pub bytes_nil : Bytes []
bytes_nil i = omega arith

pub bytes_cons : (b : ℕ) (l : List ℕ) → b < 256 → Bytes l → Bytes (b ∷ l)
bytes_cons b l h k zero = h
bytes_cons b l h k (suc i) = k i

pub bytes_append : (l m : List ℕ) → Bytes l → Bytes m → Bytes (l ++ m)
bytes_append [] m h k = k
bytes_append (b ∷ l) m h k = bytes_cons b (l ++ m) (h 0) (bytes_append l m (λ i. h (suc i)) k)

pub bytes_drop : (n : ℕ) (l : List ℕ) → Bytes l → Bytes (drop n l)
bytes_drop n l h i = rw (get_or-drop n l i 0) (h (n + i))

pub bytes_take : (n : ℕ) (l : List ℕ) → Bytes l → Bytes (take n l)
bytes_take zero l h i = omega arith
bytes_take (suc n) [] h i = omega arith
bytes_take (suc n) (b ∷ l) h zero = h 0
bytes_take (suc n) (b ∷ l) h (suc i) = bytes_take n l (λ j. h (suc j)) i

pub bytes_replicate : (n b : ℕ) → b < 256 → Bytes (replicate n b)
bytes_replicate zero b h = bytes_nil
bytes_replicate (suc n) b h = bytes_cons b (replicate n b) h (bytes_replicate n b h)

-- ---- the number at an offset, byte by byte

value_take : (k : ℕ) (l : List ℕ) → le_value (take (suc k) l) ≡ get_or l 0 0 + 256 * le_value (take k (drop 1 l))
unfolding le_value
value_take k [] = rw (take-nil {A = ℕ} k) refl
value_take k (b ∷ l) = refl

pub at_none : (l : List ℕ) (at : ℕ) → le_at 0 l at ≡ 0
unfolding le_at le_value
at_none l at = refl

pub at_more : (k : ℕ) (l : List ℕ) (at : ℕ) → le_at (suc k) l at ≡ get_or l at 0 + 256 * le_at k l (suc at)
unfolding le_at
at_more k l at =
    value_take k (drop at l)
    ∙ ap₂ (λ (b : ℕ) (m : List ℕ). b + 256 * le_value (take k m))
    (get_or-drop at l 0 0 ∙ ap (λ (j : ℕ). get_or l j 0) (add-zero at))
    (drop-drop 1 at l ∙ ap (λ (j : ℕ). drop j l) (add-one at))

pub u16_bytes : (l : List ℕ) (at : ℕ) → u16_at l at ≡ get_or l at 0 + 256 * get_or l (at + 1) 0
u16_bytes l at = rw (at_more 1 l at, at_more 0 l (suc at), at_none, add-one) (omega arith)

pub u32_bytes : (l : List ℕ) (at : ℕ)
    → u32_at l at ≡ get_or l at 0 + 256 * (get_or l (at + 1) 0 + 256 * (get_or l (at + 2) 0 + 256 * get_or l (at + 3) 0))
u32_bytes l at =
    rw (at_more 3 l at, at_more 2 l (suc at), at_more 1 l (suc (suc at)), at_more 0 l (suc (suc (suc at))), at_none, add-one, add-two, add-three)
    (omega arith)

halves : (l : List ℕ) (at : ℕ) → le_at 8 l at ≡ u32_at l at + 2 ^ 32 * u32_at l (at + 4)
halves l at =
    let after : suc (suc (suc (suc at))) ≡ at + 4 = omega arith in
    rw (
      at_more 7 l at,
      at_more 6 l (suc at),
      at_more 5 l (suc (suc at)),
      at_more 4 l (suc (suc (suc at))),
      at_more 3 l at,
      at_more 2 l (suc at),
      at_more 1 l (suc (suc at)),
      at_more 0 l (suc (suc (suc at))),
      at_none,
      after,
    )
    (omega arith)

pub u64_bytes : (l : List ℕ) (at : ℕ)
    → le_at 8 l at ≡ u32_at l at + 2 ^ 32 * (get_or l (at + 4) 0 + 256 * (get_or l (at + 5) 0 + 256 * (get_or l (at + 6) 0 + 256 * get_or l (at + 7) 0)))
u64_bytes l at =
    let five : at + 4 + 1 ≡ at + 5 = omega arith in
    let six : at + 4 + 2 ≡ at + 6 = omega arith in
    let seven : at + 4 + 3 ≡ at + 7 = omega arith in
    rw (halves l at, u32_bytes l (at + 4), five, six, seven)

-- ---- writing and reading back

-- what a number's own `to_le_bytes` gives, from byte i on
from_byte : (i k v : ℕ) → bytes_low_first i k v ≡ le_bytes k (v / 256 ^ i)
unfolding le_bytes
from_byte i zero v = refl
from_byte i (suc k) v =
    let rest : v / 256 ^ i / 256 ≡ v / 256 ^ suc i = simp unary_clauses (div-div-eq-div-mul v (256 ^ i) 256) in
    ap₂ {C = List ℕ} (λ (b : ℕ) (l : List ℕ). b ∷ l) (this i) (from_byte (suc i) k v ∙ ap (le_bytes k) (sym rest))
  where
    this : (j : ℕ) → byte_at j v ≡ v / 256 ^ j % 256
    this zero = omega arith
    this (suc j) = refl

pub bytes_written : (k v : ℕ) → bytes_low_first 0 k v ≡ le_bytes k v
bytes_written k v = from_byte 0 k v ∙ ap (le_bytes k) {x = v / 1} {y = v} (omega arith)

pub length_le_bytes : (k v : ℕ) → length (le_bytes k v) ≡ k
unfolding le_bytes
length_le_bytes zero v = refl
length_le_bytes (suc k) v = ap suc (length_le_bytes k (v / 256))

pub bytes_le_bytes : (k v : ℕ) → Bytes (le_bytes k v)
unfolding le_bytes
bytes_le_bytes zero v = bytes_nil
bytes_le_bytes (suc k) v = bytes_cons (v % 256) (le_bytes k (v / 256)) (omega arith) (bytes_le_bytes k (v / 256))

-- a number that fits its bytes is read back
pub value_le_bytes : (k v : ℕ) → v < 256 ^ k → le_value (le_bytes k v) ≡ v
unfolding le_bytes le_value
value_le_bytes zero v h = omega arith
value_le_bytes (suc k) v h =
    let below : v / 256 < 256 ^ k = omega arith in
    rw (value_le_bytes k (v / 256) below) (omega arith)

pub bytes_laid : (l new bs : List ℕ) (at k v : ℕ) → new ≡ placed l at bs → bs ≡ bytes_low_first 0 k v → new ≡ placed l at (le_bytes k v)
bytes_laid l new bs at k v e h = e ∙ ap (placed l at) (h ∙ bytes_written k v)

-- bytes are written back as they were
pub le_bytes_value : (k : ℕ) (l : List ℕ) → length l ≡ k → Bytes l → le_bytes k (le_value l) ≡ l
unfolding le_bytes le_value
le_bytes_value zero [] n h = refl
le_bytes_value zero (b ∷ l) n h = absurd (omega arith)
le_bytes_value (suc k) [] n h = absurd (omega arith)
le_bytes_value (suc k) (b ∷ l) n h =
    let low : b < 256 = h 0 in
    let first : (b + 256 * le_value l) % 256 ≡ b = omega arith in
    let rest : (b + 256 * le_value l) / 256 ≡ le_value l = omega arith in
    ap₂ {C = List ℕ} (λ (c : ℕ) (v : ℕ). c ∷ le_bytes k v) first rest
    ∙ ap {B = List ℕ} (λ (m : List ℕ). b ∷ m) (le_bytes_value k l (omega arith) (λ i. h (suc i)))

pub value_lt : (k : ℕ) (l : List ℕ) → length l ≤ k → Bytes l → le_value l < 256 ^ k
unfolding le_value
value_lt zero [] n h = omega arith
value_lt zero (b ∷ l) n h = absurd (omega arith)
value_lt (suc k) [] n h = omega (arith, value_lt k [] (omega arith) h)
value_lt (suc k) (b ∷ l) n h = omega (arith, h 0, value_lt k l (omega arith) (λ i. h (suc i)))

-- past the end there is nothing, which is 0
pub past_end : (k : ℕ) (l : List ℕ) (at : ℕ) → length l ≤ at → le_at k l at ≡ 0
unfolding le_at le_value
past_end k l at h = rw (drop_of_length-le l {i = at} h, take-nil {A = ℕ} k) refl

-- ---- bytes placed in a list

pub placed_fits : (l : List ℕ) (at : ℕ) (b : List ℕ) → at + length b ≤ length l → placed l at b ≡ paste l at b (length b)
unfolding placed
placed_fits l at b h = rw (le-leb (at + length b) (length l) h) refl

pub placed_short : (l : List ℕ) (at : ℕ) (b : List ℕ) → length l < at + length b → placed l at b ≡ l
unfolding placed
placed_short l at b h = rw (lt-leb (at + length b) (length l) h) refl

-- what is placed where the bytes before it end, is placed with them
pub placed_next : (l a b : List ℕ) (at next : ℕ) → at + length a ≡ next → next + length b ≤ length l → placed (placed l at a) next b ≡ placed l at (a ++ b)
placed_next l a b at next e h =
    ap (λ (m : List ℕ). placed m next b) (placed_fits l at a (omega arith))
    ∙ ap (λ (k : ℕ). placed (paste l at a (length a)) k b) (sym e)
    ∙ placed_fits (paste l at a (length a)) (at + length a) b (omega (arith, length-paste l at a (length a) (omega arith) (omega arith)))
    ∙ ap₂ (λ (x y : List ℕ). x ++ take (length b) b ++ y) (take-paste l at a (length a) (omega arith) (omega arith)) rest
    ∙ ap (λ (x : List ℕ). x ++ drop (at + length (a ++ b)) l) front
    ∙ sym (placed_fits l at (a ++ b) (omega (arith, length-append a b)))
  where
    rest : drop (at + length a + length b) (paste l at a (length a)) ≡ drop (at + length (a ++ b)) l
    rest =
        sym (drop-drop (length b) (at + length a) (paste l at a (length a)))
        ∙ ap (drop (length b)) (drop-paste l at a (length a) (omega arith) (omega arith))
        ∙ drop-drop (length b) (at + length a) l
        ∙ ap (λ (k : ℕ). drop k l) {x = at + length a + length b} {y = at + length (a ++ b)} (omega (arith, length-append a b))

    front : take at l ++ take (length a) a ++ take (length b) b ≡ take at l ++ take (length (a ++ b)) (a ++ b)
    front = rw (take-length a, take-length b, take-length (a ++ b)) (append_assoc (take at l) a b)

-- stores one after another, each with its offset
abbrev pub stores : List ℕ → List (ℕ × List ℕ) → List ℕ
stores l [] = l
stores l (s ∷ rest) = stores (placed l s.0 s.1) rest

-- each begins where the one before ended, and ends within n bytes
abbrev pub Follow : ℕ → ℕ → List (ℕ × List ℕ) → Type 0
Follow n at [] = Unit {0}
Follow n at (s ∷ rest) = (at ≡ s.0) × (at + length s.1 ≤ n) × Follow n (at + length s.1) rest

abbrev pub stored : List ℕ → List (ℕ × List ℕ) → List ℕ
stored p [] = p
stored p (s ∷ rest) = stored (p ++ s.1) rest

pub stores_follow : (l : List ℕ) (at : ℕ) (p : List ℕ) (ss : List (ℕ × List ℕ)) → Follow (length l) (at + length p) ss
    → stores (placed l at p) ss ≡ placed l at (stored p ss)
stores_follow l at p [] h = refl
stores_follow l at p (s ∷ rest) h =
    ap (λ (m : List ℕ). stores m rest) (placed_next l p s.1 at s.0 h.0 (omega (arith, h.0, h.1)))
    ∙ stores_follow l at (p ++ s.1) rest (rw (length-append p s.1, ← add_assoc at (length p) (length s.1)) h.2)

-- Bytes and the numbers they write. Document 01, "Bytes on flash": "Integers are little-endian; signed fields are two's
-- complement."
use Rattle.std.specs.Prelude.{ℕ, zero, suc, ◌+◌, ◌*◌, ◌/◌, ◌%◌, ◌<◌, Bool, true, false, cond, List, [], ◌∷◌, eqb, leb, ℤ, length, get_or, take, drop}
use Prim.Native.Char.{code}
use Prim.Native.String.{String, [] as []ᵗ, ◌∷◌ as ◌∷ᵗ◌}
use Rattle.std.proofs.Math.Seq.{paste}
use Rattle.std.specs.Int.{w16}
use Rattle.std.proofs.Common.{to_z, of_z}

-- every element is a byte
abbrev pub Bytes : List ℕ → Type 0
Bytes l = (i : ℕ) → get_or l i 0 < 256

-- the bytes of an ASCII text: the code of each character
abbrev pub ascii : String → List ℕ
ascii []ᵗ = []
ascii (c ∷ᵗ s) = code c ∷ ascii s

-- the number that bytes write, the low byte first
unfoldable pub le_value : List ℕ → ℕ
le_value [] = 0
le_value (b ∷ bs) = b + 256 * le_value bs

-- the first k bytes that a number is written as, the low byte first
unfoldable pub le_bytes : ℕ → ℕ → List ℕ
le_bytes zero v = []
le_bytes (suc k) v = v % 256 ∷ le_bytes k (v / 256)

-- the number of k bytes at an offset
unfoldable pub le_at : ℕ → List ℕ → ℕ → ℕ
le_at k l at = le_value (take k (drop at l))

abbrev pub u16_at : List ℕ → ℕ → ℕ
u16_at = le_at 2

abbrev pub u32_at : List ℕ → ℕ → ℕ
u32_at = le_at 4

-- the signed number that 16 bits write: below 32,768 the number itself, else 65,536 less
abbrev pub signed16 : ℕ → ℤ
signed16 v = to_z w16 v

-- the 16 bits that a signed number is written as
abbrev pub bits16 : ℤ → ℕ
bits16 z = of_z w16 z

-- a list with other bytes from an offset on, where they fit; else the list as it was
unfoldable pub placed : List ℕ → ℕ → List ℕ → List ℕ
placed l at b = cond (leb (at + length b) (length l)) (paste l at b (length b)) l

-- whether two lists of bytes are the same
unfoldable pub same_bytes : List ℕ → List ℕ → Bool
same_bytes [] [] = true
same_bytes [] (b ∷ bs) = false
same_bytes (a ∷ l) [] = false
same_bytes (a ∷ l) (b ∷ bs) = cond (eqb a b) (same_bytes l bs) false

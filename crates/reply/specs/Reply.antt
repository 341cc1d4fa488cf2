-- How a C call answers. Document 01, "Port order and changes of shape": "exported calls take numbers and byte slices only". An answer
-- is told as one number and a row of bytes.
use Rattle.std.specs.Prelude.{ℕ, ◌+◌, ◌*◌, Bool, true, false, cond, not, Option, None, Some, List, [], ◌∷◌, eqb, length}
use Rattle.laws.specs.Refusals.{invalid_layout, bad_length}
use Rattle.laws.specs.Answers.{Answer, gives, refuses, must}
use Rattle.store.specs.Store.{leaves}
use Rattle.words.specs.Words.{le_bytes}

-- the number that a call returns: the refusal in its low byte, 0 where there is none, and the fault byte above it
abbrev pub reply_of : {A : Type 0} → Answer A → ℕ
reply_of (gives a) = 0
reply_of (refuses number fault) = number + 256 * fault

-- a value as its bytes
abbrev pub laid : {A : Type 0} → (A → List ℕ) → Answer A → Answer (List ℕ)
laid bytes (gives a) = gives (bytes a)
laid bytes (refuses number fault) = refuses number fault

-- "Order: 5, then 17, then the Rust's own order": a row of another length than the call's is refused 17, after 5 and before any other
unfoldable pub rowed : ℕ → ℕ → Answer (List ℕ) → Answer (List ℕ)
rowed wanted given (gives row) = must (eqb given wanted) bad_length (gives row)
rowed wanted given (refuses number fault) =
    cond (eqb number invalid_layout) (refuses number fault) (must (eqb given wanted) bad_length (refuses number fault))

-- what a call with a row returns, and what it leaves there: "state and lent bytes stay" where it is refused
abbrev pub row_reply : ℕ → List ℕ → Answer (List ℕ) → ℕ
row_reply wanted old answer = reply_of (rowed wanted (length old) answer)

abbrev pub row_after : ℕ → List ℕ → Answer (List ℕ) → List ℕ
row_after wanted old answer = leaves old (rowed wanted (length old) answer)

-- a flag that is handed in: C may pass any byte, and every byte but 0 is true
abbrev pub is_set : ℕ → Bool
is_set flag = not (eqb flag 0)

-- a flag in a row
abbrev pub flag_of : Bool → ℕ
flag_of true = 1
flag_of false = 0

-- a number in a row
abbrev pub number_row : ℕ → List ℕ
number_row n = le_bytes 4 n

-- an Option in a row: a flag, and the value or 0
abbrev pub some_row : ℕ → List ℕ
some_row n = 1 ∷ le_bytes 4 n

abbrev pub option_row : Option ℕ → List ℕ
option_row None = 0 ∷ 0 ∷ 0 ∷ 0 ∷ 0 ∷ []
option_row (Some n) = some_row n

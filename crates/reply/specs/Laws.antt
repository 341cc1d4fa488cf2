-- What holds of every call that answers in a number and a row; proofs/ shows it.
use Rattle.std.specs.Prelude.{ℕ, ◌/◌, ◌%◌, ◌<◌, ◌≡◌, List, length}
use Rattle.laws.specs.Refusals.{invalid_layout, bad_length}
use Rattle.laws.specs.Answers.{Answer, refuses}
use Rattle.reply.specs.Reply.{reply_of, rowed, row_after}

-- the refusal is read off the low byte, the fault byte off the one above it
abbrev pub ReplyTells : Type 0
ReplyTells = (answer : Answer (List ℕ)) (number fault : ℕ) → number < 256 → answer ≡ refuses number fault
    → (reply_of answer % 256 ≡ number) × (reply_of answer / 256 ≡ fault)

-- "a refusal alters no lent byte": the row of a call that is refused, by its answer or for its length, is left as it was
abbrev pub RefusedLeaves : Type 0
RefusedLeaves = (wanted : ℕ) (old : List ℕ) (answer : Answer (List ℕ)) (number fault : ℕ)
    → rowed wanted (length old) answer ≡ refuses number fault → row_after wanted old answer ≡ old

-- "Order: 5, then 17, then the Rust's own order"
pub record Ordered (wanted given number fault : ℕ) : Type 0 where
  pub layout_first : number ≡ invalid_layout → rowed wanted given (refuses number fault) ≡ refuses number fault
  pub length_next : (number ≡ invalid_layout → ⊥) → (given ≡ wanted → ⊥) → rowed wanted given (refuses number fault) ≡ refuses bad_length 0
  pub other_last : given ≡ wanted → rowed wanted given (refuses number fault) ≡ refuses number fault

abbrev pub RowOrder : Type 0
RowOrder = (wanted given number fault : ℕ) → Ordered wanted given number fault

-- The laws of a call that answers in a number and a row. Assumes nothing.
use Prim.Native.Nat.{ℕ, ◌+◌, ◌*◌}
use mathlib.Core.Path.{◌≡◌, refl, ap}
use mathlib.Core.Bool.{Bool, true, false, cond}
use mathlib.Core.List.{List}
use native.Mathlib.Omega.{arith}
use borrow.Author.Tests.{eq-eqb, ne_eqb}
use lib.Dec.{eqb}
use Rattle.laws.specs.Refusals.{invalid_layout}
use Rattle.laws.specs.Answers.{Answer, refuses}
use Rattle.store.specs.Store.{leaves}
use Rattle.reply.specs.Reply.{reply_of, rowed}
use Rattle.reply.specs.Laws.{ReplyTells, RefusedLeaves, RowOrder}

pub reply_tells : ReplyTells
reply_tells answer number fault low e =
    let is : reply_of answer ≡ number + 256 * fault = ap reply_of e in
    (omega (arith, is), omega (arith, is))

pub refused_leaves : RefusedLeaves
refused_leaves wanted old answer number fault e = ap (leaves old) e

-- the row's length is looked at, and the refusal stays
same_refusal : (number fault : ℕ) (b : Bool) → cond {A = Answer (List ℕ)} b (refuses number fault) (refuses number fault) ≡ refuses number fault
same_refusal number fault true = refl
same_refusal number fault false = refl

pub row_order : RowOrder
unfolding rowed
row_order wanted given number fault =
    record {
      layout_first = λ h. rw (eq-eqb number invalid_layout h) refl;
      length_next = λ n l. rw (ne_eqb number invalid_layout n, ne_eqb given wanted l) refl;
      other_last = λ l. rw (eq-eqb given wanted l) (same_refusal number fault (eqb number invalid_layout));
    }

-- `words::put_bytes` meets its contract. Assumes nothing.
use mathlib.Core.Path.{refl, sym, ◌∙◌}
use lib.ListN.{length}
use native.Mathlib.Omega.{arith}
use Rattle.std.proofs.lemmas.Slice.{put_mid-paste}
use Rattle.words.proofs.Numbers.{placed_fits, placed_short}
use Rattle.words.proofs.put_bytes.Goals as goal
use Rattle.words.proofs.put_bytes.Goals.{else-at-out-via-then-at-out+else-b-out, else-at-out-via-else-at-out}

pub returns-then-b-out : goal.returns-then-b-out
returns-then-b-out c =
    put_mid-paste _ _ c.args.out.now _ c.args.b.now (length c.args.b.now) c.copy_from_slice.ensures.after (omega arith) refl
    ∙ sym (placed_fits c.args.out.now c.args.at c.args.b.now (omega arith))

pub returns-else-at-out : goal.returns-else-at-out
returns-else-at-out c =
    elim c.else-at-out.branch [
      | else-at-out-via-then-at-out+else-b-out w ↦ sym (placed_short c.args.out.now c.args.at c.args.b.now (omega arith))
      | else-at-out-via-else-at-out w ↦ sym (placed_short c.args.out.now c.args.at c.args.b.now (omega arith))
    ]

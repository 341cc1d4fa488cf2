-- `script::is_script` meets its contract. The loop's invariant: every row before it is one. Assumes nothing.
use mathlib.Core.Path.{◌≡◌}
use lib.ListN.{length}
use Rattle.std.specs.Slice.Iter.{chunks_exact_rest, chunks_exact_size}
use Rattle.script.proofs.Rows.{Tested}
use Rattle.script.proofs.is_script.Given as goal

abbrev pub invariant-loop-row : goal.invariant-loop-row
invariant-loop-row l =
    record {
      tested : Tested l.script (length l.yielded) (chunks_exact_rest l.row-iterator);
      size : chunks_exact_size l.row-iterator ≡ 288;
    }

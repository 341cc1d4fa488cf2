-- `store::program_bytes` meets its contract. The loop's invariant: the first i bytes are programmed. Assumes nothing.
use mathlib.Core.Path.{◌≡◌}
use lib.ListN.{length}
use Rattle.store.specs.Store.{mask}
use Rattle.store.proofs.Bytes.{so_far}
use Rattle.store.proofs.program_bytes.Given as goal

abbrev pub invariant-loop-i : goal.invariant-loop-i
invariant-loop-i l =
    (length l.image ≡ length l.initial.image) × (l.image ≡ so_far l.initial.image l.at l.target (mask l.succeeds l.keep) l.i)

-- `store::copy_bytes` meets its contract. The loop's invariant: the first i bytes are copied. Assumes nothing.
use Rattle.std.proofs.Common.{◌≡◌, ◌++◌, take, drop, length}
use Rattle.store.proofs.copy_bytes.Given as goal

abbrev pub invariant-loop-i : goal.invariant-loop-i
invariant-loop-i l = (length l.output ≡ length l.initial.output) × (l.output ≡ take l.i l.bytes ++ drop l.i l.initial.output)

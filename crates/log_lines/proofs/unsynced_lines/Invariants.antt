-- `log_lines::unsynced_lines` meets its contract. The loop's invariant: the count line and the lines of the flights so far. Assumes nothing.
use mathlib.Core.Path.{◌≡◌}
use Prim.Native.Nat.{◌+◌, ◌*◌, ◌≤◌}
use lib.ListN.{length}
use Rattle.log_lines.proofs.Listing.{listing}
use Rattle.log_lines.proofs.unsynced_lines.Given as goal

abbrev pub invariant-loop-flight : goal.invariant-loop-flight
invariant-loop-flight l =
    (l.lines ≡ listing l.count l.more l.fn.flights l.flight-index) × (length (listing l.count l.more l.fn.flights l.flight-index) ≤ 24 + 56 * l.flight-index)

-- `log_lines::unsynced_lines` meets its contract. The loop's invariant: the count line and the lines of the flights so far. Assumes nothing.
use mathlib.Core.Path.{◌≡◌}
use Prim.Native.Nat.{◌<◌}
use native.Mathlib.Omega.{arith}
use lib.ListN.{length, take}
use lib.Seq.{length-take-le, get_or-take}
use Rattle.log_lines.proofs.Listing.{absent, listed_first, listed_next, listed_all}
use Rattle.log_lines.proofs.unsynced_lines.Goals as goal

pub loop-flight-init : goal.loop-flight-init
loop-flight-init c =
    listed_first c.args.count c.args.more c.args.flights (omega arith) _ _ _ _ c.new-lines.ensures c.count_line.ensures c.as_slice.ensures c.push.ensures

pub loop-flight-preserved : goal.loop-flight-preserved
loop-flight-preserved c =
    let l = c.loop-flight in
    let part : length (take c.args.count c.args.flights) ≡ c.args.count = length-take-le c.args.count c.args.flights (omega arith) in
    let here : l.flight-index < c.args.count = omega arith in
    listed_next c.args.count c.args.more c.args.flights (omega arith) l.flight-index _ _ _ _ _ here (omega arith)
    (get_or-take c.args.count c.args.flights l.flight-index absent here) l.invariant.0 l.invariant.1
    c.flight_line.ensures.0 c.flight_line.ensures.1 c.as_slice-in-loop-flight.ensures c.push-in-loop-flight.ensures

pub returns : goal.returns
returns c =
    let part : length (take c.args.count c.args.flights) ≡ c.args.count = length-take-le c.args.count c.args.flights (omega arith) in
    listed_all c.args.count c.args.more c.args.flights (omega arith) c.loop-flight.flight-index _ (omega arith) (omega arith) c.loop-flight.invariant.0

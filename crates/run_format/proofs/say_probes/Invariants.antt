-- `run_format::say_probes` is safe and ends. Assumes nothing.
use Prim.Native.Nat.{◌-◌, ◌≤◌}
use Rattle.run_format.proofs.say_probes.Given as goal

abbrev pub invariant-loop-low : goal.invariant-loop-low
invariant-loop-low g l = (l.low ≤ l.high) × (l.high ≤ 16)

abbrev pub decreases-loop-low : goal.decreases-loop-low
decreases-loop-low g l = l.high - l.low

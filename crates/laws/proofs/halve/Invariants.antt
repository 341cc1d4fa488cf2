-- `laws::halve` meets its contract. The loop's invariant: what is left to halve is what was. Assumes nothing.
use Prim.Native.Nat.{ℕ, ◌-◌, ◌≤◌, ◌<◌}
use mathlib.Core.Path.{◌≡◌}
use mathlib.Core.Bool.{Bool}
use Rattle.laws.specs.Answers.{Answer, told}
use Rattle.laws.specs.Halving.{halve, halving}
use Rattle.laws.proofs.halve.Given as goal

abbrev pub invariant-loop-low : goal.invariant-loop-low
invariant-loop-low g l =
    (l.low ≤ l.high)
    × (l.high ≤ l.count)
    × ((t : ℕ → Answer Bool) → ((i : _) (r : _) → i < l.count → goal.F-post g l.test i r → told r ≡ t i) → halve l.count t l.low l.high ≡ halving t l.count)

abbrev pub decreases-loop-low : goal.decreases-loop-low
decreases-loop-low g l = l.high - l.low

-- `laws::halve` meets its contract. Assumes nothing.
use mathlib.Core.Path.{refl, sym, ap, ◌∙◌}
use native.Mathlib.Omega.{arith}
use Rattle.laws.specs.Answers.{gives}
use Rattle.laws.specs.Halving.{halving}
use Rattle.laws.proofs.Chain.{goes_out}
use Rattle.laws.proofs.Halving.{turned_down, turned_up, turn_refused, turned_out}
use Rattle.laws.proofs.halve.Goals as goal

pub loop-low-init : goal.loop-low-init
unfolding halving
loop-low-init g c = (omega arith, omega arith, λ t h. refl)

pub returns-in_err-test : goal.returns-in_err-test
returns-in_err-test g c =
    let i = c.loop-low.invariant in
    let k = c.loop-low-test.true in
    λ t h. goes_out _ _ _ c.from_residual.ensures.1 (turn_refused t _ _ _ k i.1 (i.2 t h) _ _ (sym (h _ _ (omega (arith, k, i.1)) c.in_err-test.ensures)))

pub loop-low-preserved-then-branch : goal.loop-low-preserved-then-branch
loop-low-preserved-then-branch g c =
    let i = c.loop-low.invariant in
    let k = c.loop-low-test.true in (
      omega arith,
      omega (arith, k, i.1),
      λ t h. turned_down t _ _ _ k i.1 (i.2 t h) (sym (h _ _ (omega (arith, k, i.1)) c.in_ok-test.ensures) ∙ ap gives c.if-branch.true),
    )

pub loop-low-preserved : goal.loop-low-preserved
loop-low-preserved g c =
    let i = c.loop-low.invariant in
    let k = c.loop-low-test.true in (
      omega (arith, k),
      i.1,
      λ t h. turned_up t _ _ _ k i.1 (i.2 t h) (sym (h _ _ (omega (arith, k, i.1)) c.in_ok-test.ensures) ∙ ap gives c.if-branch.false),
    )

pub returns : goal.returns
returns g c = let i = c.loop-low.invariant in λ t h. turned_out t _ _ _ (omega (arith, c.loop-low-test.false)) (i.2 t h)

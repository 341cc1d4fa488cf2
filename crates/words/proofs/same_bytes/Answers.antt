-- `words::same_bytes` meets its contract. The loop's invariant: what is left decides, unless a byte before it differs. Assumes nothing.
use native.Mathlib.Omega.{arith}
use mathlib.Core.Path.{sym}
use Rattle.words.proofs.Same.{other_length, left_next, left_none}
use Rattle.words.proofs.same_bytes.Goals as goal

pub returns-then-a-b : goal.returns-then-a-b
returns-then-a-b c = sym (other_length c.args.a.now c.args.b.now c.if-a-b.true)

pub loop-x-init : goal.loop-x-init
loop-x-init c = grind (arith, c.if-a-b.false)

pub loop-x-preserved : goal.loop-x-preserved
loop-x-preserved c =
    let first = c.in-Some.ensures.steps.0 in
    let second = c.in-Some.ensures.steps.1 in
    (grind (arith, first, second), grind (arith, first, second, left_next))

pub returns : goal.returns
returns c = grind (arith, c.in-None.ensures.steps, left_none)

-- `crc32::byte_step` meets its contract. The loop's invariant: the steps that are left lead to the byte's end. Assumes nothing.
use mathlib.Core.Path.{◌≡◌, ap, ◌∙◌}
use Prim.Native.Nat.{ℕ, suc, ◌+◌, ◌-◌}
use Rattle.crc32.specs.Crc.{bit_steps, byte_step}
use borrow.Author.Rules.{rules}
use native.Mathlib.Omega.{arith}
use Rattle.crc32.proofs.byte_step.Goals as goal

pub loop-init : goal.loop-init
unfolding byte_step
loop-init c = search rules

pub loop-preserved : goal.loop-preserved
unfolding bit_steps
loop-preserved c =
    let l = c.loop in
    let one_less : suc (8 - (l.counter + 1)) ≡ 8 - l.counter = omega arith in
    ap (bit_steps (8 - (l.counter + 1))) c.bit_step-state.ensures ∙ ap (λ (n : ℕ). bit_steps n l.state) one_less ∙ l.invariant

pub returns : goal.returns
unfolding bit_steps
returns c =
    let l = c.loop in
    let none_left : 0 ≡ 8 - l.counter = omega arith in
    ap (λ (n : ℕ). bit_steps n l.state) none_left ∙ l.invariant

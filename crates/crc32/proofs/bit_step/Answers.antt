-- `crc32::bit_step` meets its contract: the low bit is the coefficient that leaves. Assumes nothing.
use mathlib.Core.Path.{◌≡◌, sym, ap, ◌∙◌}
use Prim.Native.Nat.{ℕ, ◌/◌, ◌%◌}
use lib.Bits.{bit_xor, and_mask, xor_zero_r}
use Rattle.crc32.specs.Crc.{returned, bit_step}
use native.Mathlib.Omega.{arith}
use Rattle.crc32.proofs.bit_step.Goals as goal

pub returns-then-crc-eq1 : goal.returns-then-crc-eq1
unfolding bit_step
returns-then-crc-eq1 c =
    let s = c.args.crc in
    ap (λ (x : ℕ). bit_xor (s / 2) (returned x)) (sym (sym (and_mask s 1) ∙ c.if-crc-eq1.true))

pub returns-else-crc-eq1 : goal.returns-else-crc-eq1
unfolding bit_step
returns-else-crc-eq1 c =
    let s = c.args.crc in
    let even : s % 2 ≡ 0 = omega (arith, and_mask s 1, c.if-crc-eq1.false) in
    sym (ap (λ (x : ℕ). bit_xor (s / 2) (returned x)) even ∙ xor_zero_r (s / 2))

-- `crc32::byte_step` meets its contract. The loop's invariant: the steps that are left lead to the byte's end. Assumes nothing.
use mathlib.Core.Path.{◌≡◌}
use Prim.Native.Nat.{◌-◌}
use Rattle.crc32.specs.Crc.{bit_steps, byte_step}
use Rattle.crc32.proofs.byte_step.Given as goal

abbrev pub invariant-loop : goal.invariant-loop
invariant-loop l = bit_steps (8 - l.counter) l.state ≡ byte_step l.crc l.byte

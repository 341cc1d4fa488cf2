-- `crc32::word_step` meets its contract. The loop's invariant: the digits so far are a number of their own, and bit steps are linear. Assumes nothing.
use mathlib.Core.Path.{◌≡◌}
use Rattle.crc32.specs.Crc.{bit_steps}
use Rattle.crc32.proofs.Linear.{above}
use Rattle.crc32.proofs.word_step.Given as goal

abbrev pub invariant-loop-place : goal.invariant-loop-place
invariant-loop-place l = l.crc ≡ bit_steps 64 (above l.place l.v)

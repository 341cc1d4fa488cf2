-- `crc32::word_step` meets its contract. The loop's invariant: the digits so far are a number of their own, and bit steps are linear. Assumes nothing.
use Rattle.crc32.proofs.Linear.{none_above, digit_down}
use borrow.Author.Rules.{rules}
use Rattle.crc32.proofs.word_step.Goals as goal

pub loop-place-init : goal.loop-place-init
loop-place-init c = search (none_above, rules)

pub loop-place-preserved : goal.loop-place-preserved
loop-place-preserved c = search (digit_down, rules)

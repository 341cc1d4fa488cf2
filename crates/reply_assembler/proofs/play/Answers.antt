-- `reply_assembler::play` meets its contract. Assumes nothing.
use Rattle.std.proofs.Common.{rules}
use Rattle.reply_assembler.proofs.Turns.{sound_turn, play_turn}
use Rattle.reply_assembler.proofs.play.Goals as goal

pub loop-row-preserved : goal.loop-row-preserved
loop-row-preserved c = let step = c.in-Some.ensures.steps in search (sound_turn, play_turn, step.1.0, step.1.1, rules)

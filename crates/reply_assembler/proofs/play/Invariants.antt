-- The loop of `reply_assembler::play`: what is left takes the last answer to the script's.
use Rattle.std.proofs.Common.{◌≡◌, ◌/◌, length}
use Rattle.std.specs.Slice.Iter.{chunks_exact_rest, chunks_exact_size}
use Rattle.assembler.specs.WellFormed.{SoundAssembler}
use Rattle.reply_assembler.specs.Script.{play_from, play_script}
use Rattle.reply_assembler.proofs.play.Given as goal

abbrev pub invariant-loop-row : goal.invariant-loop-row
invariant-loop-row l =
    let rest = chunks_exact_rest l.row-iterator in
    record {
      size : chunks_exact_size l.row-iterator ≡ 54;
      sound : SoundAssembler l.played.assembler;
      left : play_from (length rest / 54) l.played rest ≡ play_script l.script;
    }

-- `reply_codec::records_of` meets its contract. Assumes nothing.
use Rattle.std.proofs.Common.{arith}
use Rattle.std.proofs.lemmas.Grind.{common_steps}
use Rattle.std.proofs.lemmas.List.Edits.{fill_by_more}
use Rattle.blackbox.specs.Record.{absent}
use Rattle.reply_codec.proofs.Rows.{row_record}
use Rattle.reply_codec.proofs.records_of.Goals as goal

pub loop-i-preserved : goal.loop-i-preserved
loop-i-preserved c =
    record {
      five = grind (arith, common_steps);
      read = rw c.record_at.ensures (fill_by_more (row_record c.args.rows.now) c.loop-i.records c.loop-i.i absent (omega arith) c.loop-i.invariant.read);
    }

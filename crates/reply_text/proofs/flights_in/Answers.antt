-- `reply_text::flights_in` meets its contract. Assumes nothing.
use Rattle.std.proofs.Common.{◌*◌, arith}
use Rattle.std.proofs.lemmas.Grind.{common_steps}
use Rattle.std.proofs.lemmas.List.Edits.{fill_by_more}
use Rattle.reply_text.specs.TextRows.{stored_at}
use Rattle.reply_text.proofs.Rows.{no_flight}
use Rattle.reply_text.proofs.flights_in.Goals as goal

pub loop-i-preserved : goal.loop-i-preserved
loop-i-preserved c =
    record {
      eight = grind (arith, common_steps);
      read = rw c.stored_at.ensures (fill_by_more (λ k. stored_at c.args.bytes.now (12 * k)) c.loop-i.flights c.loop-i.i no_flight (omega arith) c.loop-i.invariant.read);
    }

-- The loop of `reply_codec::records_of`: the records so far are those of the rows.
use Rattle.std.proofs.Common.{◌≡◌, ℕ, ◌<◌, length, get_or}
use Rattle.blackbox.specs.Record.{absent}
use Rattle.reply_codec.proofs.Rows.{row_record}
use Rattle.reply_codec.proofs.records_of.Given as goal

abbrev pub invariant-loop-i : goal.invariant-loop-i
invariant-loop-i l =
    record {
      five : length l.records ≡ 5;
      read : (k : ℕ) → k < l.i → get_or l.records k absent ≡ row_record l.rows k;
    }

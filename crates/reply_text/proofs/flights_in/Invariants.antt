-- The loop of `reply_text::flights_in`: the flights so far are those of the bytes.
use Rattle.std.proofs.Common.{◌≡◌, ℕ, ◌*◌, ◌<◌, length, get_or}
use Rattle.reply_text.specs.TextRows.{stored_at}
use Rattle.reply_text.proofs.Rows.{no_flight}
use Rattle.reply_text.proofs.flights_in.Given as goal

abbrev pub invariant-loop-i : goal.invariant-loop-i
invariant-loop-i l =
    record {
      eight : length l.flights ≡ 8;
      read : (k : ℕ) → k < l.i → get_or l.flights k no_flight ≡ stored_at l.bytes (12 * k);
    }

-- What a caller may conclude from a reply, shown of every export's answer. Assumes nothing.
use Prim.Native.Nat.{ℕ, ◌%◌}
use mathlib.Core.Path.{refl}
use mathlib.Core.List.{List, []}
use native.Mathlib.Omega.{arith}
use lib.Dec.{eqb}
use lib.ListN.{length}
use Rattle.std.specs.Prelude.{Result, Ok, Err}
use Rattle.laws.specs.Refusals as Number
use Rattle.laws.specs.Answers.{gives, refuses, number_of, fault_of, told}
use Rattle.laws.specs.declared.Refusal.{Refusal}
use Rattle.laws.specs.declared.Refusal.TheVariants as Why
use Rattle.reply.specs.Reply.{rowed}
use Rattle.reply_assembler.specs.Script.{play_script, last_played}
use Rattle.reply_laws.specs.Laws.{Anything, Listed, Proper, RowProper, ZeroGives, EveryAnswer}
use Rattle.reply_laws.proofs.Answers as Each

pub row_proper : RowProper
unfolding rowed
row_proper A bytes wanted given (gives a) h = Each.test Anything (eqb given wanted) Number.bad_length _ Each.seventeen (Each.any (bytes a))
row_proper A bytes wanted given (refuses number fault) h =
    let same = Each.no number fault (h.refused number fault refl) in
    Each.choice Anything (eqb number Number.invalid_layout) _ _ same (Each.test Anything (eqb given wanted) Number.bad_length _ Each.seventeen same)

pub zero_gives : ZeroGives
zero_gives A (gives a) h e = (a, refl)
zero_gives A (refuses number fault) h e = absurd (omega (arith, (h.refused number fault refl).some))

-- ---- the assembler: what it answers is told of a `Result`

listed : (r : Refusal) → Listed (number_of r) (fault_of r)
listed Why.InvalidRecordCount = Each.plain 1 (omega arith) (omega arith)
listed Why.InvalidMagic = Each.plain 2 (omega arith) (omega arith)
listed Why.UnsupportedVersion = Each.plain 3 (omega arith) (omega arith)
listed Why.CrcMismatch = Each.plain 4 (omega arith) (omega arith)
listed Why.InvalidLayout = Each.plain 5 (omega arith) (omega arith)
listed (Why.Device fault) = Each.faulty fault
listed Why.Corrupt = Each.plain 7 (omega arith) (omega arith)
listed Why.OutOfRange = Each.plain 8 (omega arith) (omega arith)
listed Why.NotRecording = Each.plain 9 (omega arith) (omega arith)
listed Why.PageNotConsumed = Each.plain 10 (omega arith) (omega arith)
listed Why.Format = Each.plain 11 (omega arith) (omega arith)
listed Why.NoSuchFlight = Each.plain 12 (omega arith) (omega arith)
listed Why.Recording = Each.plain 13 (omega arith) (omega arith)
listed Why.LengthChanged = Each.plain 14 (omega arith) (omega arith)
listed Why.LedgerFull = Each.plain 15 (omega arith) (omega arith)
listed Why.QueueFull = Each.plain 16 (omega arith) (omega arith)
listed Why.BadLength = Each.plain 17 (omega arith) (omega arith)

told_proper : {A : Type 0} (a : Result A Refusal) → Proper (told a)
told_proper (Ok a) = Each.any a
told_proper (Err r) = Each.no (number_of r) (fault_of r) (listed r)

assembles : (script : List ℕ) → Proper (last_played script)
unfolding last_played
assembles script =
    Each.test Anything (eqb (length script % 54) 0) Number.bad_length _ Each.seventeen (told_proper (play_script script).answer)

pub every_answer : EveryAnswer
every_answer =
    record {
      record_decode = Each.record_decoding;
      encode_page = Each.rows_encoding;
      decode_page = Each.decoding;
      from_page = Each.from_page;
      storage_layout = Each.laying;
      page_address = Each.paging;
      sector_count = Each.counting;
      ledger_address = Each.placing;
      erase_address = Each.erasing;
      reads = Each.reading_bytes;
      programs = Each.programming;
      erases = Each.erasing_sector;
      scan_log = Each.scan;
      explains = Each.explain;
      page_flight_lem = Each.page_flight_lem;
      find_flight = Each.find;
      older_flight_lem = Each.walk_down;
      header = Each.header;
      bit = λ c f. Each.bit c [] [] f;
      synced = Each.synced;
      mark_step = Each.mark_step;
      starts_step = Each.starting;
      unsynced_list = Each.list;
      all_acknowledged_lem = Each.all;
      acknowledges = Each.ack;
      lines = Each.lining;
      assembles = assembles;
    }

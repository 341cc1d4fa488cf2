-- What a caller may conclude from a reply. Document 01, "Refusal numbers": "A refused answer carries its number, the fault byte for 6, and
-- zeros elsewhere"; so a reply of 0 says that nothing is refused. proofs/ shows it of every answer that an export gives.
use Rattle.std.specs.Prelude.{ℕ, ◌<◌, ◌≤◌, ◌≡◌, Option, List}
use Rattle.laws.specs.Refusals.{device}
use Rattle.laws.specs.Answers.{Answer, gives, refuses}
use Rattle.blackbox.specs.Record.{record_decoded}
use Rattle.blackbox.specs.Page.{decoded, record_from_page}
use Rattle.layout.specs.Layout.{layout_of, log_page_address, log_sector_count, sync_ledger_address, log_erase_sector_address}
use Rattle.store.specs.Store.{read_told, program_told, erase_told}
use Rattle.records.specs.Pages.{flight_of_page}
use Rattle.records.specs.Scan.{scanned}
use Rattle.records.specs.Explain.{explained}
use Rattle.sync_ledger.specs.Ledger.{read_header, bit_location, is_synced, next_mark_step, step_told}
use Rattle.sync_ledger.specs.declared.MarkStep.{MarkStep}
use Rattle.log_search.specs.Search.{found_flight, older_flight}
use Rattle.log_sync.specs.Sync.{unsynced_flights, all_synced, ack_checked}
use Rattle.reply.specs.Reply.{reply_of, laid, rowed}
use Rattle.reply_codec.specs.CodecRows.{encoded_rows}
use Rattle.reply_text.specs.TextRows.{lines_of}
use Rattle.reply_assembler.specs.Script.{last_played}

-- a number of document 01's table, and a fault byte for 6 alone
pub record Listed (number fault : ℕ) : Type 0 where
  pub some : 0 < number
  pub known : number ≤ 17
  pub quiet : (number ≡ device → ⊥) → fault ≡ 0

-- what an answer gives has a property, and what it refuses has a number of the table
pub record Holds {A : Type 0} (P : A → Type 0) (answer : Answer A) : Type 0 where
  pub given : (a : A) → answer ≡ gives a → P a
  pub refused : (number fault : ℕ) → answer ≡ refuses number fault → Listed number fault

abbrev pub Anything : {A : Type 0} → A → Type 0
Anything a = Unit {0}

abbrev pub Proper : {A : Type 0} → Answer A → Type 0
Proper answer = Holds Anything answer

-- the row's own refusal is one of the table too
abbrev pub RowProper : Type 1
RowProper = (A : Type 0) (bytes : A → List ℕ) (wanted given : ℕ) (answer : Answer A) → Proper answer → Proper (rowed wanted given (laid bytes answer))

-- a reply of 0 says that a value was given
abbrev pub ZeroGives : Type 1
ZeroGives = (A : Type 0) (answer : Answer A) → Proper answer → reply_of answer ≡ 0 → (a : A) × (answer ≡ gives a)

-- every answer that an export gives
pub record EveryAnswer : Type 0 where
  pub record_decode : (row : List ℕ) → Proper (record_decoded row)
  pub encode_page : (flight sequence : ℕ) (rows : List ℕ) (count : ℕ) → Proper (encoded_rows flight sequence rows count)
  pub decode_page : (page : List ℕ) → Proper (decoded page)
  pub from_page : (page : List ℕ) (index : ℕ) → Proper (record_from_page page index)
  pub storage_layout : (capacity : ℕ) → Proper (layout_of capacity)
  pub page_address : (capacity i : ℕ) → Proper (log_page_address capacity i)
  pub sector_count : (capacity : ℕ) → Proper (log_sector_count capacity)
  pub ledger_address : (capacity : ℕ) → Proper (sync_ledger_address capacity)
  pub erase_address : (capacity k : ℕ) → Proper (log_erase_sector_address capacity k)
  pub reads : (capacity : ℕ) (image faults : List ℕ) (address : ℕ) (output : List ℕ) → Proper (read_told capacity image faults address output)
  pub programs : (capacity : ℕ) (image : List ℕ) (address : ℕ) (target keep : List ℕ) (reply : ℕ)
      → Proper (program_told capacity image address target keep reply)
  pub erases : (capacity : ℕ) (image : List ℕ) (address reply : ℕ) → Proper (erase_told capacity image address reply)
  pub scan_log : (capacity : ℕ) (image faults : List ℕ) → Proper (scanned capacity image faults)
  pub explains : (capacity : ℕ) (image faults : List ℕ) → Proper (explained capacity image faults)
  pub page_flight_lem : (capacity : ℕ) (image faults : List ℕ) (i : ℕ) → Proper (flight_of_page capacity image faults i)
  pub find_flight : (capacity : ℕ) (image faults : List ℕ) (used f : ℕ) → Proper (found_flight capacity image faults used f)
  pub older_flight_lem : (capacity : ℕ) (image faults : List ℕ) (end : ℕ) → Proper (older_flight capacity image faults end)
  pub header : (capacity : ℕ) (image faults : List ℕ) → Proper (read_header capacity image faults)
  pub bit : (capacity flight : ℕ) → Proper (bit_location capacity flight)
  pub synced : (capacity : ℕ) (image faults : List ℕ) (flight : ℕ) → Proper (is_synced capacity image faults flight)
  pub mark_step : (capacity : ℕ) (image faults : List ℕ) (flight : ℕ) → Proper (next_mark_step capacity image faults flight)
  pub starts_step : (capacity : ℕ) (image : List ℕ) (step : MarkStep) (keep : List ℕ) (reply : ℕ) → Proper (step_told capacity image step keep reply)
  pub unsynced_list : (capacity : ℕ) (image faults : List ℕ) (used : ℕ) (recording : Option ℕ)
      → Proper (unsynced_flights capacity image faults used recording)
  pub all_acknowledged_lem : (capacity : ℕ) (image faults : List ℕ) (used : ℕ) (recording : Option ℕ) → Proper (all_synced capacity image faults used recording)
  pub acknowledges : (capacity : ℕ) (image faults : List ℕ) (used : ℕ) (recording : Option ℕ) (flight pages : ℕ)
      → Proper (ack_checked capacity image faults used recording flight pages)
  pub lines : (flights : List ℕ) (count more : ℕ) → Proper (lines_of flights count more)
  pub assembles : (script : List ℕ) → Proper (last_played script)

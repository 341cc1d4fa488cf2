-- The writer as the Rust has it: PageAssembler of records.rs and LogWriter of log_writer.rs, and what one record does to it.
-- From document 01, "Writer and store".
use Rattle.std.specs.Prelude.{ℕ, Bool, true, false, cond, List, [], ◌∷◌, ◌++◌, Option, None, Some}
use Rattle.power.specs.Pages.{PageStore, full}
use Rattle.power.specs.Reading.{ScanAnswer}

module _ {Page Record Mask : Type 0} (S : PageStore Page Record Mask) where
  -- PageAssembler: the rows of the page that is being filled, and the page that is ready
  pub record Assembler : Type 0 where
    pub rows : List Record
    pub flight : ℕ
    pub sequence : ℕ
    pub recording : Bool
    pub mark_pending : Bool
    pub edition : S.Edition
    pub ready : Option Page

  -- LogWriter: the assembler, the page that waits to be written, the next page and flight, and whether a boot-session mark is still due
  pub record Writer : Type 0 where
    pub assembler : Assembler
    pub waiting : Option Page
    pub next_page : ℕ
    pub next_flight : ℕ
    pub writable : Bool
    pub mark_due : Bool

  -- a fresh writer
  abbrev pub new : Writer
  new =
      record {
        assembler = record { rows = []; flight = 0; sequence = 0; recording = false; mark_pending = false; edition = S.fresh_edition; ready = None };
        waiting = None;
        next_page = 0;
        next_flight = 1;
        writable = false;
        mark_due = true;
      }

  -- recover: "Where a scan of the flash found the log's end"
  abbrev pub recover : Writer → ScanAnswer → Writer
  recover w answer =
      record {
        assembler = w.assembler;
        waiting = w.waiting;
        next_page = answer.page;
        next_flight = answer.flight;
        writable = answer.writable;
        mark_due = w.mark_due;
      }

  -- finish_page: the rows become the ready page
  abbrev pub finished : Assembler → Assembler
  finished a =
      record {
        rows = [];
        flight = a.flight;
        sequence = S.sequence_after a.sequence;
        recording = a.recording;
        mark_pending = a.mark_pending;
        edition = a.edition;
        ready = Some (S.encode a.flight a.sequence a.rows);
      }

  -- start: a new flight, of the edition of its first record; nothing is left of what was assembled before
  abbrev pub started : ℕ → Bool → S.Edition → Assembler
  started flight mark e = record { rows = []; flight = flight; sequence = 0; recording = true; mark_pending = mark; edition = e; ready = None }

  -- a record as it is stored: with the boot-session mark if that is pending
  abbrev pub stored : Assembler → Record → Record
  stored a r = cond a.mark_pending (S.marked r) r

  -- a record in the next row
  abbrev pub laid : Record → Assembler → Assembler
  laid r a =
      record {
        rows = a.rows ++ r ∷ [];
        flight = a.flight;
        sequence = a.sequence;
        recording = a.recording;
        mark_pending = false;
        edition = a.edition;
        ready = a.ready;
      }

  -- push: the record goes into the next row, and a page that is full is finished
  abbrev pub pushed : Record → Assembler → Assembler
  pushed r a = cond (full S a.edition (a.rows ++ r ∷ [])) (finished (laid r a)) (laid r a)

  -- the last rows of a flight become a page, if there are any
  abbrev pub stopping : List Record → Assembler → Assembler
  stopping [] a = a
  stopping (r ∷ rows) a = finished a

  -- stop: the flight ends
  abbrev pub stopped : Assembler → Assembler
  stopped a =
      stopping a.rows
      (record {
        rows = a.rows;
        flight = a.flight;
        sequence = a.sequence;
        recording = false;
        mark_pending = a.mark_pending;
        edition = a.edition;
        ready = a.ready;
      })

  -- the writer with another assembler
  abbrev pub with_assembler : Assembler → Writer → Writer
  with_assembler a w =
      record { assembler = a; waiting = w.waiting; next_page = w.next_page; next_flight = w.next_flight; writable = w.writable; mark_due = w.mark_due }

  -- the assembler without its ready page
  abbrev pub without_ready : Assembler → Assembler
  without_ready a =
      record {
        rows = a.rows;
        flight = a.flight;
        sequence = a.sequence;
        recording = a.recording;
        mark_pending = a.mark_pending;
        edition = a.edition;
        ready = None;
      }

  -- the writer with that page waiting, or none, to be written at that address
  abbrev pub waiting_for : Option Page → ℕ → Writer → Writer
  waiting_for page at w =
      record { assembler = w.assembler; waiting = page; next_page = at; next_flight = w.next_flight; writable = w.writable; mark_due = w.mark_due }

  -- a flight begins with this record: the boot-session mark goes to the first logged record of the power-on
  abbrev pub begun : Record → Writer → Writer
  begun r w =
      record {
        assembler = started w.next_flight w.mark_due (S.edition r);
        waiting = w.waiting;
        next_page = w.next_page;
        next_flight = S.flight_after w.next_flight;
        writable = w.writable;
        mark_due = false;
      }

  -- a record is pushed, if it may join the flight
  abbrev pub added : Record → Writer → Writer
  added r w = cond (S.joins w.assembler.edition r) (with_assembler (pushed (stored w.assembler r) w.assembler) w) w

  -- "A record counts as logged when the assembler took it, and stands on flash with the boot-session bit if that was added."
  abbrev pub added_record : Record → Writer → List (ℕ × Record)
  added_record r w = cond (S.joins w.assembler.edition r) ((w.assembler.flight, stored w.assembler r) ∷ []) []

  -- a record from the queue, by whether it is to be logged and whether a flight is recorded: it continues a flight, or begins one, or ends
  -- one, or is passed over
  abbrev pub taken : Bool → Bool → Record → Writer → Writer
  taken true true r w = added r w
  taken true false r w = added r (begun r w)
  taken false true r w = with_assembler (stopped w.assembler) w
  taken false false r w = w

  -- what is logged of it, with its flight
  abbrev pub taken_record : Bool → Bool → Record → Writer → List (ℕ × Record)
  taken_record true true r w = added_record r w
  taken_record true false r w = added_record r (begun r w)
  taken_record false recording r w = []

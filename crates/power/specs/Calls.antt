-- The calls of the writer as the Rust has them (log_writer.rs): drain, turn by turn, and write_pending, on a log of pages.
-- From document 01, "Writer and store". The queue is a list of records, first in, first out.
-- The code's calls are log_writer/specs/Pass. That the two agree, on the view of writer, queue and image, is `drain_is` and `write_is`
-- (power_views/proofs), and of whole scripts `DevicesAgree` (power_lives/specs/Theorem).
use Rattle.std.specs.Prelude.{ℕ, zero, suc, Bool, true, false, cond, List, [], ◌∷◌, ◌++◌, ltb, length, set, Option, None, Some}
use Rattle.power.specs.Pages.{PageStore}
use Rattle.power.specs.Reading.{page_at}
use Rattle.power.specs.Writer.{Writer, new, stopped, with_assembler, without_ready, waiting_for, taken, taken_record}

-- "A writer call gets a number of programs that succeed, then what the next does: busy, fault or cut", the last two with their keep mask
pub data Next (Mask : Type 0) : Type 0 where
  busy : Next Mask
  fault : Mask → Next Mask
  cut : Mask → Next Mask

-- what a drain is told: how many records it takes at most, the setting record_while_disarmed, whether the craft is armed, and its programs
pub record Order (Mask : Type 0) : Type 0 where
  pub limit : ℕ
  pub while_disarmed : Bool
  pub armed : Bool
  pub succeed : ℕ
  pub next : Next Mask

abbrev pub order_of : {Mask : Type 0} → ℕ → Bool → Bool → ℕ → Next Mask → Order Mask
order_of limit while_disarmed armed succeed next =
    record { limit = limit; while_disarmed = while_disarmed; armed = armed; succeed = succeed; next = next }

module _ {Page Record Mask : Type 0} (S : PageStore Page Record Mask) where
  -- A call under way: what is lent to it, the programs that still succeed and what the next does, pages_written so far; and, for demand 3,
  -- what it logged, the page and what stands in its place if a program did not finish, and whether the power went
  pub record Pass : Type 0 where
    pub log : List Page
    pub writer : Writer S
    pub queue : List Record
    pub succeed : ℕ
    pub next : Next Mask
    pub pages_written : ℕ
    pub logged : List (ℕ × Record)
    pub unfinished : Option (Page × Page)
    pub power_gone : Bool

  -- after a step a call goes on or ends
  pub data Step : Type 0 where
    goes_on : Pass → Step
    ends : Pass → Step

  -- what stands where the page is programmed
  abbrev pub programmed_cell : List Page → ℕ → Page → Mask → Page
  programmed_cell log i page keep = S.programmed (page_at S log i) page keep

  -- the log with the page programmed at an address
  abbrev pub programmed_at : List Page → ℕ → Page → Mask → List Page
  programmed_at log i page keep = set log i (programmed_cell log i page keep)

  -- "if self.pending.is_none() { self.pending = self.assembler.take_ready_page(); }"
  abbrev pub fetching : Option Page → Writer S → Writer S
  fetching (Some page) w = w
  fetching None w = waiting_for S w.assembler.ready w.next_page (with_assembler S (without_ready S w.assembler) w)

  -- the same of the writer's own waiting page
  abbrev pub fetched : Writer S → Writer S
  fetched w = fetching w.waiting w

  -- the page is programmed with success
  abbrev pub written : ℕ → Page → Pass → Pass
  written left page p =
      record {
        log = programmed_at p.log p.writer.next_page page S.clean;
        writer = waiting_for S None (suc p.writer.next_page) p.writer;
        queue = p.queue;
        succeed = left;
        next = p.next;
        pages_written = suc p.pages_written;
        logged = p.logged;
        unfinished = p.unfinished;
        power_gone = p.power_gone;
      }

  -- a program fails: some bits may be programmed, and the page stays waiting
  abbrev pub failed : Mask → Page → Pass → Pass
  failed keep page p =
      record {
        log = programmed_at p.log p.writer.next_page page keep;
        writer = waiting_for S (Some page) p.writer.next_page p.writer;
        queue = p.queue;
        succeed = 0;
        next = p.next;
        pages_written = p.pages_written;
        logged = p.logged;
        unfinished = Some (page, programmed_cell p.log p.writer.next_page page keep);
        power_gone = p.power_gone;
      }

  -- "A cut ends the call with outcome "cut", the report counted so far, a fresh writer and an empty queue."
  abbrev pub severed : Mask → Page → Pass → Pass
  severed keep page p =
      record {
        log = programmed_at p.log p.writer.next_page page keep;
        writer = new S;
        queue = [];
        succeed = 0;
        next = p.next;
        pages_written = p.pages_written;
        logged = p.logged;
        unfinished = Some (page, programmed_cell p.log p.writer.next_page page keep);
        power_gone = true;
      }

  -- the pass with another writer
  abbrev pub with_writer : Writer S → Pass → Pass
  with_writer w p =
      record {
        log = p.log;
        writer = w;
        queue = p.queue;
        succeed = p.succeed;
        next = p.next;
        pages_written = p.pages_written;
        logged = p.logged;
        unfinished = p.unfinished;
        power_gone = p.power_gone;
      }

  -- a program of the waiting page, by the programs that still succeed and what the next does
  abbrev pub program : ℕ → Next Mask → Page → Pass → Step
  program (suc left) next page p = goes_on (written left page p)
  program zero busy page p = ends p
  program zero (fault keep) page p = ends (failed keep page p)
  program zero (cut keep) page p = ends (severed keep page p)

  -- there is an address for the page, or the region is full and nothing is programmed
  abbrev pub program_if_room : ℕ → Next Mask → Page → Pass → Step
  program_if_room succeed next page p = cond (ltb p.writer.next_page (length p.log)) (program succeed next page p) (ends p)

  -- the top of a turn of drain: the waiting page is written before another record is taken; a busy store holds it up
  abbrev pub put : Option Page → Pass → Step
  put None p = goes_on p
  put (Some page) p = program_if_room p.succeed p.next page p

  -- with the page that waits, or else the one that is ready
  abbrev pub put_page : Pass → Step
  put_page p = put (fetched p.writer).waiting (with_writer (fetched p.writer) p)

  -- "let logged = record_while_disarmed || record.flags & 1 != 0"
  abbrev pub logs : Bool → Record → Bool
  logs while_disarmed r = cond while_disarmed true (S.armed r)

  -- one record leaves the queue
  abbrev pub take_one : Bool → Record → List Record → Pass → Pass
  take_one while_disarmed r queue p =
      record {
        log = p.log;
        writer = taken S (logs while_disarmed r) p.writer.assembler.recording r p.writer;
        queue = queue;
        succeed = p.succeed;
        next = p.next;
        pages_written = p.pages_written;
        logged = p.logged ++ taken_record S (logs while_disarmed r) p.writer.assembler.recording r p.writer;
        unfinished = p.unfinished;
        power_gone = p.power_gone;
      }

  -- the rest of a turn: "let Some(record) = records.dequeue() else { break; }"
  abbrev pub take_next : Bool → List Record → Pass → Step
  take_next while_disarmed [] p = ends p
  take_next while_disarmed (r ∷ queue) p = goes_on (take_one while_disarmed r queue p)

  -- unless the call ended at the page
  abbrev pub after_put : Bool → Step → Step
  after_put while_disarmed (ends p) = ends p
  after_put while_disarmed (goes_on p) = take_next while_disarmed p.queue p

  -- one turn of drain: the page, then a record
  abbrev pub turn : Bool → Pass → Step
  turn while_disarmed p = after_put while_disarmed (put_page p)

  -- what follows a turn, unless the call has ended
  abbrev pub onward : (Pass → Pass) → Step → Pass
  onward next (ends p) = p
  onward next (goes_on p) = next p

  -- the turns of drain: at most `limit` records leave the queue
  abbrev pub turns : Bool → ℕ → Pass → Pass
  turns while_disarmed zero p = p
  turns while_disarmed (suc limit) p = onward (λ q. turns while_disarmed limit q) (turn while_disarmed p)

  -- the pass with another queue
  abbrev pub with_queue : List Record → Pass → Pass
  with_queue queue p =
      record {
        log = p.log;
        writer = p.writer;
        queue = queue;
        succeed = p.succeed;
        next = p.next;
        pages_written = p.pages_written;
        logged = p.logged;
        unfinished = p.unfinished;
        power_gone = p.power_gone;
      }

  -- "With the queue empty and the craft disarmed, a flight still recording ends too", unless records are logged while disarmed
  abbrev pub ends_flight : Bool → Bool → Bool → Bool
  ends_flight while_disarmed armed recording = cond while_disarmed false (cond armed false recording)

  -- with the queue empty drain does that and no more
  abbrev pub on_empty_queue : Bool → Bool → Pass → Pass
  on_empty_queue while_disarmed armed p =
      cond (ends_flight while_disarmed armed p.writer.assembler.recording) (with_writer (with_assembler S (stopped S p.writer.assembler) p.writer) p) p

  -- drain on a writable log: with the queue empty nothing is programmed, not even a page that waits
  abbrev pub drain_writable : Order Mask → List Record → Pass → Pass
  drain_writable order [] p = on_empty_queue order.while_disarmed order.armed p
  drain_writable order (r ∷ queue) p = turns order.while_disarmed order.limit p

  -- "A pass that isn't writable drops one record."
  abbrev pub drop_one : List Record → List Record
  drop_one [] = []
  drop_one (r ∷ queue) = queue

  -- drain, by its order
  abbrev pub drain : Order Mask → Pass → Pass
  drain order p = cond p.writer.writable (drain_writable order p.queue p) (with_queue (drop_one p.queue) p)

  -- write_pending takes a ready page only if the log is writable; "writable" is looked at only there
  abbrev pub fetched_if_writable : Writer S → Writer S
  fetched_if_writable w = cond w.writable (fetched w) w

  -- "Busy only holds up drain; write_pending doesn't ask and programs", with success
  abbrev pub unasked : ℕ → Next Mask → ℕ
  unasked zero busy = 1
  unasked zero (fault keep) = 0
  unasked zero (cut keep) = 0
  unasked (suc succeed) next = suc succeed

  -- how a call stands after its one step
  abbrev pub ended_with : Step → Pass
  ended_with (goes_on p) = p
  ended_with (ends p) = p

  -- one program of the waiting page, if there is one
  abbrev pub write_one : Option Page → Pass → Pass
  write_one None p = p
  write_one (Some page) p = ended_with (program_if_room (unasked p.succeed p.next) p.next page p)

  -- write_pending: the waiting page is programmed, whether or not the log is writable
  abbrev pub write_pending : Pass → Pass
  write_pending p = write_one (fetched_if_writable p.writer).waiting (with_writer (fetched_if_writable p.writer) p)

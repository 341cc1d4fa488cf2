-- The laws of the calls that demand 3 leans on: what pages_written counts, and that exactly the records are logged that should be. Without the
-- second a drain that loses records on their way to the assembler would still meet demand 3.
-- From document 01, "What a reader may conclude from a contract" and "Writer and store".
use Rattle.std.specs.Prelude.{ℕ, ◌+◌, ◌≡◌, Bool, true, false, cond, List, [], ◌∷◌, ◌++◌, Option, None, Some}
use Rattle.power.specs.Pages.{PageStore}
use Rattle.power.specs.Writer.{Writer}
use Rattle.power.specs.Calls.{Next, Order, Pass, logs, drain, write_pending}
use Rattle.power.specs.Life.{Device, Call, begin, ordered, lives, unpowered}

module _ {Page Record Mask : Type 0} (S : PageStore Page Record Mask) where
  -- "a made-up pages_written, which must equal the rise of next_page or, in a cut, the programs that succeeded"
  pub record PagesCounted (succeed : ℕ) (before after : Pass S) : Type 0 where
    pub alive : after.power_gone ≡ false → after.writer.next_page ≡ before.writer.next_page + after.pages_written
    pub cut : after.power_gone ≡ true → after.pages_written ≡ succeed

  -- so it is in drain
  abbrev pub DrainCounts : Type 0
  DrainCounts =
      (d : Device S) (order : Order Mask) → PagesCounted order.succeed (ordered S d order) (drain S order (ordered S d order))

  -- and in write_pending
  abbrev pub WriteCounts : Type 0
  WriteCounts = (d : Device S) (succeed : ℕ) (next : Next Mask) → PagesCounted succeed (begin S d succeed next) (write_pending S (begin S d succeed next))

  -- the records of what was logged, without their flights
  abbrev pub records_in : List (ℕ × Record) → List Record
  records_in [] = []
  records_in (entry ∷ logged) = entry.1 ∷ records_in logged

  -- the edition of the flight that is recorded, if one is
  abbrev pub edition_if : Bool → S.Edition → Option S.Edition
  edition_if true e = Some e
  edition_if false e = None

  abbrev pub recorded_as : Writer S → Option S.Edition
  recorded_as w = edition_if w.assembler.recording w.assembler.edition

  -- one record, by whether it is to be logged: it begins a flight of its edition, or continues one of its edition, or is refused by one of
  -- the other edition, which it neither ends nor alters; or it ends the flight
  abbrev pub logs_one : Bool → Option S.Edition → Record → (Option S.Edition → List Record) → List Record
  logs_one true None r rest = r ∷ rest (Some (S.edition r))
  logs_one true (Some e) r rest = cond (S.joins e r) (r ∷ rest (Some e)) (rest (Some e))
  logs_one false flight r rest = rest None

  -- the records that are to be logged: all of them, or the armed ones, but for those of the other edition than the flight's
  abbrev pub logged_ones : Bool → Option S.Edition → List Record → List Record
  logged_ones while_disarmed flight [] = []
  logged_ones while_disarmed flight (r ∷ records) = logs_one (logs S while_disarmed r) flight r (λ after. logged_ones while_disarmed after records)

  -- "boot-session flag (bit 2) on the first logged record of the power-on"
  abbrev pub mark_first : Bool → List Record → List Record
  mark_first due [] = []
  mark_first due (r ∷ records) = cond due (S.marked r) r ∷ records

  -- between calls no mark is pending, and none is due while a flight is recorded
  pub record MarksSettled (w : Writer S) : Type 0 where
    pub pending : w.assembler.mark_pending ≡ false
    pub due : w.assembler.recording ≡ true → w.mark_due ≡ false

  -- some records left the queue, from its front, and what was logged is exactly the logged ones among them, in order; a cut empties the queue
  pub record LoggedExactly (while_disarmed : Bool) (before after : Pass S) : Type 0 where
    pub left : List Record
    pub rest : List Record
    pub queue : before.queue ≡ left ++ rest
    pub alive : after.power_gone ≡ false → after.queue ≡ rest
    pub cut : after.power_gone ≡ true → after.queue ≡ []
    pub logged : records_in after.logged ≡ records_in before.logged ++ mark_first before.writer.mark_due (logged_ones while_disarmed (recorded_as before.writer) left)

  -- so it is in drain on a writable log
  abbrev pub DrainLogs : Type 0
  DrainLogs =
      (d : Device S) (order : Order Mask) → d.writer.writable ≡ true → MarksSettled d.writer
      → LoggedExactly order.while_disarmed (ordered S d order) (drain S order (ordered S d order))

  -- on a log that isn't writable drain logs nothing
  abbrev pub UnwritableLogsNothing : Type 0
  UnwritableLogsNothing =
      (d : Device S) (order : Order Mask) → d.writer.writable ≡ false → (drain S order (ordered S d order)).logged ≡ []

  -- and write_pending never logs anything
  abbrev pub WriteLogsNothing : Type 0
  WriteLogsNothing = (d : Device S) (succeed : ℕ) (next : Next Mask) → (write_pending S (begin S d succeed next)).logged ≡ []

  -- every writer of a life has its marks settled
  abbrev pub MarksInLives : Type 0
  MarksInLives = (log : List Page) (life : List (Call S)) → MarksSettled (lives S life (unpowered S log)).writer

-- What document 01 says of drain and write_pending beyond each call's own answer, as statements; proofs/ shows them.
use Rattle.std.specs.Prelude.{ℕ, ◌+◌, ◌*◌, ◌≤◌, ◌≡◌, Bool, true, false, cond, List, ◌⊎◌, drop}
use Rattle.laws.specs.Answers.{Answer, gives, refuses}
use Rattle.layout.specs.Layout.{log_start, pages_in}
use Rattle.store.specs.Laws.{OnlyAt}
use Rattle.assembler.specs.Assembler.{page_ready}
use Rattle.queue.specs.Queue.{records_held}
use Rattle.queue.specs.declared.RecordQueue.{RecordQueue}
use Rattle.log_state.specs.Writer.{has_pending}
use Rattle.log_state.specs.declared.LogWriter.{LogWriter}
use Rattle.log_writer.specs.Pass.{drain_order}
use Rattle.log_writer.specs.Calls.{DrainTold, drained, after_drain, WriteTold, page_written, after_write}
use Rattle.log_writer.specs.Laws.{BothSound}
use Rattle.log_writer.specs.declared.DrainOrder.{DrainOrder}
use Rattle.log_writer.specs.declared.NextProgram.{NextProgram}
use Rattle.log_writer.specs.declared.DrainReport.{DrainReport}
use Rattle.log_writer.specs.declared.PageWrite.TheVariants.{RegionFull, ProgramFailed}

-- ---- pages_written

-- the pages of a report; of a refused drain none
abbrev pub pages_reported : Answer DrainReport → ℕ
pages_reported (gives r) = r.pages_written
pages_reported (refuses number fault) = 0

-- "a made-up pages_written, which must equal the rise of next_page or, in a cut, the programs that succeeded"
pub record PagesCounted (w : LogWriter) (succeed : ℕ) (answer : DrainTold) : Type 0 where
  pub alive : answer.cut ≡ false → answer.writer.next_page ≡ w.next_page + pages_reported answer.report
  pub cut : answer.cut ≡ true → pages_reported answer.report ≡ succeed

abbrev pub DrainCounts : Type 0
DrainCounts =
    (order : DrainOrder) (capacity : ℕ) (image keep : List ℕ) (w : LogWriter) (q : RecordQueue)
    → PagesCounted w order.succeed (drained order capacity image keep w q)

-- ---- records

-- the first records of a queue left it, at most so many, and the others stay in their order
pub record Taken (most : ℕ) (q u : RecordQueue) : Type 0 where
  pub count : ℕ
  pub few : count ≤ most
  pub held : q.held ≡ count + u.held
  pub others : records_held u ≡ drop count (records_held q)

-- "at most 16 records a pass", which is the order's limit; "A pass that isn't writable drops one record."
abbrev pub most_taken : Bool → ℕ → ℕ
most_taken writable limit = cond writable limit 1

-- a cut empties the queue
abbrev pub DrainTakesAtMost : Type 0
DrainTakesAtMost =
    (order : DrainOrder) (capacity : ℕ) (image keep : List ℕ) (w : LogWriter) (q : RecordQueue)
    → (drained order capacity image keep w q).cut ≡ false
    → Taken (most_taken w.writable order.limit) q (drained order capacity image keep w q).queue

-- an order with another limit
abbrev pub limited : ℕ → DrainOrder → DrainOrder
limited limit order = drain_order limit order.armed order.record_while_disarmed order.succeed order.next

-- the limit is of the records that a writable log takes: where it isn't writable or no record is there, a pass is the same at any limit,
-- and programs nothing
pub record SameAt (limit : ℕ) (order : DrainOrder) (capacity : ℕ) (image keep : List ℕ) (w : LogWriter) (q : RecordQueue) : Type 0 where
  pub answer : drained (limited limit order) capacity image keep w q ≡ drained order capacity image keep w q
  pub unprogrammed : after_drain order capacity image keep w q ≡ image

abbrev pub NoneHeld : RecordQueue → Type 0
NoneHeld q = q.held ≡ 0

abbrev pub AtAnyLimit : Type 0
AtAnyLimit =
    (limit : ℕ) (order : DrainOrder) (capacity : ℕ) (image keep : List ℕ) (w : LogWriter) (q : RecordQueue)
    → (w.writable ≡ false) ⊎ NoneHeld q → SameAt limit order capacity image keep w q

-- ---- the image

-- a drain touches only pages of the log, and keeps the image's length
abbrev pub DrainOnlyLog : Type 0
DrainOnlyLog =
    (order : DrainOrder) (capacity : ℕ) (image keep : List ℕ) (w : LogWriter) (q : RecordQueue) → BothSound w q
    → OnlyAt log_start (pages_in capacity * 256) image (after_drain order capacity image keep w q)

abbrev pub WriteOnlyLog : Type 0
WriteOnlyLog =
    (capacity : ℕ) (image keep : List ℕ) (next : NextProgram) (w : LogWriter) (q : RecordQueue) (succeed : ℕ)
    → BothSound w q → OnlyAt log_start (pages_in capacity * 256) image (after_write capacity image keep next w succeed)

-- ---- refusals

-- "a refusal alters no lent byte": writer, queue and image are as they were
pub record Unaltered (w v : LogWriter) (q u : RecordQueue) (before after : List ℕ) : Type 0 where
  pub writer : v ≡ w
  pub queue : u ≡ q
  pub image : after ≡ before

abbrev pub DrainRefused : Type 0
DrainRefused =
    (order : DrainOrder) (capacity : ℕ) (image keep : List ℕ) (w : LogWriter) (q : RecordQueue) (number fault : ℕ)
    → (drained order capacity image keep w q).report ≡ refuses number fault
    → Unaltered w (drained order capacity image keep w q).writer q (drained order capacity image keep w q).queue image
    (after_drain order capacity image keep w q)

abbrev pub WriteRefused : Type 0
WriteRefused =
    (capacity : ℕ) (image keep : List ℕ) (next : NextProgram) (w : LogWriter) (q : RecordQueue) (succeed number fault : ℕ)
    → (page_written capacity image keep next w q succeed).outcome ≡ refuses number fault
    → Unaltered w (page_written capacity image keep next w q succeed).writer q
    (page_written capacity image keep next w q succeed).queue image (after_write capacity image keep next w succeed)

-- ---- outcomes that are no refusals

-- the page that waits is the one that waited before, or else the one that was ready
abbrev pub SamePage : LogWriter → LogWriter → Type 0
SamePage w v =
    ((has_pending w ≡ true) × (v.pending ≡ w.pending))
    ⊎ ((has_pending w ≡ false) × (page_ready w.assembler ≡ true) × (v.pending ≡ w.assembler.ready_page))

pub record KeepsWaiting (w : LogWriter) (answer : WriteTold) : Type 0 where
  pub not_refused : (number fault : ℕ) → answer.outcome ≡ refuses number fault → ⊥
  pub waits : has_pending answer.writer ≡ true
  pub page : SamePage w answer.writer

-- "RegionFull and ProgramFailed are outcomes of write_pending, not refusals; both keep the page waiting."
abbrev pub FailureKeepsWaiting : Type 0
FailureKeepsWaiting =
    (capacity : ℕ) (image keep : List ℕ) (next : NextProgram) (w : LogWriter) (q : RecordQueue) (succeed : ℕ)
    → ((page_written capacity image keep next w q succeed).outcome ≡ gives RegionFull)
    ⊎ ((page_written capacity image keep next w q succeed).outcome ≡ gives ProgramFailed)
    → KeepsWaiting w (page_written capacity image keep next w q succeed)

-- ---- a limit of 0

-- a writable log with records to take stays as it was at a limit of 0
abbrev pub LimitOfNone : Type 0
LimitOfNone =
    (order : DrainOrder) (capacity : ℕ) (image keep : List ℕ) (w : LogWriter) (q : RecordQueue)
    → order.limit ≡ 0 → w.writable ≡ true → (NoneHeld q → ⊥)
    → Unaltered w (drained order capacity image keep w q).writer q (drained order capacity image keep w q).queue image
    (after_drain order capacity image keep w q)

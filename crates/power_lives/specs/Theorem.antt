-- Demand 3, of what the code does to the bytes of an image: `after_play` is the image that rig::play leaves, call after call of log_writer's
-- drain and write_pending and of records' scan_log (their contracts are log_writer's `drained`, `after_drain`, `page_written`, `after_write`
-- and records' `scanned`). proofs/Theorem and proofs/Ghost show each statement here.
-- "Power comes on any number of times, each with a fresh writer set by one scan alone; reads have no faults, nothing is erased, and only the
-- writer programs the log. Programs may fail, and power may go at any moment, leaving any bits of a page unprogrammed."
use Rattle.std.specs.Prelude.{ℕ, ◌*◌, ◌≤◌, ◌≡◌, Bool, true, false, ◌⊎◌, List, [], ◌∷◌, ◌++◌, length, Option}
use Rattle.laws.specs.Answers.{gives}
use Rattle.power.specs.Pages.{most_lost}
use Rattle.power.specs.Claims.{Kept, OnlyAdds, ForeignLog, ScanSays, SearchFinds, OneEdition}
use Rattle.power.specs.Grammar.{Strict}
use Rattle.power.specs.Life as Life
use Rattle.power.specs.Offers.{loggable}
use Rattle.power.specs.Reading.{ScanAnswer, Span, first_blank, records_on}
use Rattle.power.specs.Reports.{records_in, mark_first}
use Rattle.power.specs.Scan.{scan, find}
use Rattle.power.specs.Theorem.{erased}
use Rattle.words.specs.Words.{Bytes}
use Rattle.layout.specs.Layout.{log_start, valid_capacity, pages_in}
use Rattle.store.specs.Laws.{OnlyAt}
use Rattle.blackbox.specs.declared.FlightRecord.{FlightRecord}
use Rattle.store.specs.Store.{no_faults}
use Rattle.records.specs.Scan.{scanned}
use Rattle.records.specs.declared.Scan.{Scan}
use Rattle.queue.specs.Queue.{records_held}
use Rattle.log_search.specs.Search.{found_flight}
use Rattle.log_writer.specs.Calls.{drained, after_drain, page_written, after_write}
use Rattle.log_writer.specs.declared.DrainOrder.{DrainOrder}
use Rattle.log_writer.specs.declared.NextProgram.{NextProgram}
use Rattle.power_pages.specs.Store.{real, pages_of, as_scan, as_found}
use Rattle.power_views.specs.Views.{as_writer}
use Rattle.script.specs.Script.{Operation, offers, drains, writes, powers, recovers, resets, flushes, is_script, rows_in, operations}
use Rattle.rig.specs.Rig.{unpowered, draining, writing, played, image_after, plays, after_play}
use Rattle.rig.specs.declared.Bench.{Bench}
use Rattle.power_lives.specs.Lives.{EachOfLife, life_of, device_before, device_after, NoneDecodes}

-- a script of a life that is played: nothing is refused, neither the capacity nor a length nor a row
pub record Plays (capacity : ℕ) (image script output : List ℕ) : Type 0 where
  pub valid : valid_capacity capacity ≡ true
  pub whole : length image ≡ capacity
  pub bytes : Bytes script
  pub rows : is_script script ≡ true
  pub told : length output ≡ rows_in script * 40
  pub life : EachOfLife (operations script)

-- the pages of an image's log
abbrev pub log_of : ℕ → List ℕ → List (List ℕ)
log_of capacity image = pages_of (pages_in capacity) image

-- "Begin with an erased log of one fixed capacity": its pages are blank, and the rest of the image is arbitrary
abbrev pub Erased : ℕ → List ℕ → Type 0
Erased capacity image = log_of capacity image ≡ erased real (pages_in capacity)

-- ASSUMED: "no unfinished page decodes"
abbrev pub Assumed : ℕ → List ℕ → List ℕ → Type 0
Assumed capacity image script = NoneDecodes (life_of capacity image script) (device_before capacity image)

-- what was logged in each power-on: every record that the assembler took, with its flight and as it is stored
abbrev pub logged_in : ℕ → List ℕ → List ℕ → List (List (ℕ × FlightRecord))
logged_in capacity image script = Life.history real (device_after capacity image script)

-- ---- the theorem

-- What holds of the image `after` a script, with what was logged in each power-on.
module _ (capacity : ℕ) (before after : List ℕ) (logged : List (List (ℕ × FlightRecord))) where
  -- the log, how many of its pages are used, the next scan, and the search over the used pages
  abbrev log : List (List ℕ)
  log = log_of capacity after

  abbrev used : ℕ
  used = first_blank real log

  abbrev next : ScanAnswer
  next = scan real log

  abbrev search : ℕ → Option Span
  search flight = find real log used flight

  pub record Safe : Type 0 where
    -- (a) "of the records logged in a power-on, all but at most the last five are on flash, in order, in their flights"
    pub records : Kept real [] logged (records_on real log)
    -- (c) "The next scan says foreign .. exactly if page 0 or the last two used pages are torn. Otherwise it gives .."
    pub scan_log : scanned capacity after (no_faults capacity) ≡ gives (as_scan next)
    pub scan_says : ScanSays real log next
    -- (e) "Over those pages the search finds for a flight its whole pages and a torn page right after them, and nothing for .."
    pub find_flight : ¬ ForeignLog real log → (flight : ℕ)
        → found_flight capacity after (no_faults capacity) used flight ≡ gives (as_found flight (search flight))
    pub find_says : ¬ ForeignLog real log → (flight : ℕ) → SearchFinds real log flight (search flight)
    -- flights 1, 2, 3 without a gap, sequences 0, 1, 2, full pages but for a flight's last
    pub strict : Strict real log
    -- a flight has one edition
    pub one_edition : OneEdition real log
    -- bytes outside the log never change
    pub outside : OnlyAt log_start (pages_in capacity * 256) before after

-- DEMAND 3: (a), (c), (e), for every capacity, every image whose log is erased and every script of a life
abbrev pub Demand3 : Type 0
Demand3 =
    (capacity : ℕ) (image script output : List ℕ) → Plays capacity image script output → Erased capacity image → Assumed capacity image script
    → Safe capacity image (after_play capacity image script output) (logged_in capacity image script)

-- "at most the last five": what (a) allows to be missing of a power-on is at most five records, whatever was logged
abbrev pub FiveAtMost : Type 0
FiveAtMost = (logged : List (ℕ × FlightRecord)) → most_lost real logged ≤ 5

-- (b) "and stay there": over a script that goes on where another ends, whole pages stay and records are only added behind
abbrev pub RecordsStay : Type 0
RecordsStay =
    (capacity : ℕ) (image script output longer output' : List ℕ) (more : List Operation) → Plays capacity image script output
    → Plays capacity image longer output' → operations longer ≡ operations script ++ more → Erased capacity image → Assumed capacity image longer
    → OnlyAdds real (log_of capacity (after_play capacity image script output)) (log_of capacity (after_play capacity image longer output'))

-- (d) "and nothing is written to the log" after a power-on whose scan says not writable, be the log foreign or full
abbrev pub NotWritable : Type 0
NotWritable =
    (capacity : ℕ) (image script output longer output' : List ℕ) (more : List Operation) (s : Scan) → Plays capacity image script output
    → Plays capacity image longer output' → operations longer ≡ operations script ++ powers ∷ more
    → scanned capacity (after_play capacity image script output) (no_faults capacity) ≡ gives s → s.writable ≡ false
    → log_of capacity (after_play capacity image longer output') ≡ log_of capacity (after_play capacity image script output)

-- ---- what is played is the writer

-- a drain and a write_pending of a script are those of log_writer's contracts: what they answer, and the image they leave
abbrev pub ScriptsCallTheWriter : Type 0
ScriptsCallTheWriter =
    (capacity : ℕ) (order : DrainOrder) (succeed : ℕ) (next : NextProgram) (keep : List ℕ) (b : Bench) (image : List ℕ)
    → (played capacity (drains order keep) b image ≡ draining (drained order capacity image keep b.writer b.queue))
    × (image_after capacity (drains order keep) b image ≡ after_drain order capacity image keep b.writer b.queue)
    × (played capacity (writes succeed next keep) b image ≡ writing (page_written capacity image keep next b.writer b.queue succeed))
    × (image_after capacity (writes succeed next keep) b image ≡ after_write capacity image keep next b.writer succeed)

-- ---- "logged" is what the code did

-- the bench, a writer and a queue, that rig has after a script
abbrev pub bench_after : ℕ → List ℕ → List ℕ → Bench
bench_after capacity image script = plays capacity (operations script) unpowered image

-- the theory's device, in whose history "logged" stands, is the view of what the code left: image, writer and queue
pub record SameDevice (capacity : ℕ) (image script output : List ℕ) : Type 0 where
  pub log : (device_after capacity image script).log ≡ log_of capacity (after_play capacity image script output)
  pub writer : (device_after capacity image script).writer ≡ as_writer (bench_after capacity image script).writer
  pub queue : (device_after capacity image script).queue ≡ records_held (bench_after capacity image script).queue

abbrev pub DevicesAgree : Type 0
DevicesAgree = (capacity : ℕ) (image script output : List ℕ) → Plays capacity image script output → SameDevice capacity image script output

-- What a drain on a log that may be written adds to what was logged. Some records left the code's queue, from its front; of these the ones that are to
-- be logged, in order, and no others, are added to the power-on that lasts, the first of the power-on with the boot-session bit. The
-- rest waits in the queue, unless the power went.
pub record DrainLogged (while_disarmed : Bool) (before after : Bench) (was is : List (List (ℕ × FlightRecord))) : Type 0 where
  pub past : List (List (ℕ × FlightRecord))
  pub now : List (ℕ × FlightRecord)
  pub more : List (ℕ × FlightRecord)
  pub was_logged : was ≡ past ++ now ∷ []
  pub is_logged : is ≡ past ++ (now ++ more) ∷ []
  pub left : List FlightRecord
  pub rest : List FlightRecord
  pub leaving : records_held before.queue ≡ left ++ rest
  pub waiting : (records_held after.queue ≡ rest) ⊎ (records_held after.queue ≡ [])
  pub exactly : records_in real more ≡ mark_first real before.writer.boot_session_start (loggable real while_disarmed left)

-- what one operation does to what was logged, by the bench before and after it: a power-on begins a list, and nothing but a drain adds to one
abbrev pub LoggedBy : Operation → Bench → Bench → List (List (ℕ × FlightRecord)) → List (List (ℕ × FlightRecord)) → Type 0
LoggedBy (offers r) before after was is = is ≡ was
LoggedBy (drains order keep) before after was is =
    (before.writer.writable ≡ true → DrainLogged order.record_while_disarmed before after was is) × (before.writer.writable ≡ false → is ≡ was)
LoggedBy (writes succeed _ keep) before after was is = is ≡ was
LoggedBy powers before after was is = is ≡ was ++ [] ∷ []
LoggedBy (recovers page flight writable) before after was is = is ≡ was
LoggedBy resets before after was is = is ≡ was
LoggedBy (flushes buffered clock) before after was is = is ≡ was

-- so it is with every operation of every script; and before the first nothing is logged
abbrev pub LoggedStepByStep : Type 0
LoggedStepByStep =
    (capacity : ℕ) (image script output longer output' : List ℕ) (o : Operation) → Plays capacity image script output
    → Plays capacity image longer output' → operations longer ≡ operations script ++ o ∷ []
    → LoggedBy o (bench_after capacity image script) (bench_after capacity image longer) (logged_in capacity image script) (logged_in capacity image longer)

abbrev pub NothingLoggedFirst : Type 0
NothingLoggedFirst = (capacity : ℕ) (image script : List ℕ) → operations script ≡ [] → logged_in capacity image script ≡ [] ∷ []

-- Each step of the writer is the theory's step on the view: a page is fetched, a record is logged, a flight ends. Assumes nothing.
use Prim.Native.Nat.{ℕ, zero, suc, ◌+◌, ◌<◌}
use mathlib.Core.Path.{◌≡◌, refl, sym, ap, ◌∙◌}
use mathlib.Core.Bool.{Bool, true, false, cond, not}
use mathlib.Core.List.{List, [], ◌∷◌, ◌++◌}
use native.Mathlib.Omega.{arith}
use borrow.Author.Tests.{ne_eqb}
use lib.Dec.{eqb, ltb}
use lib.ListN.{length, take, length-append}
use lib.Seq.{length-take-le}
use Rattle.std.specs.Prelude.{Option, None, Some}
use Rattle.laws.proofs.Choice.{cond_true, cond_false}
use Rattle.power.specs.Pages.{full}
use Rattle.power.specs.Writer as Model
use Rattle.power.specs.Calls as Theory
use Rattle.blackbox.specs.declared.FlightRecord.{FlightRecord}
use Rattle.blackbox.specs.Flight.{next_flight}
use Rattle.queue.specs.Queue.{oldest, without_oldest}
use Rattle.queue.specs.declared.RecordQueue.{RecordQueue}
use Rattle.queue.proofs.Laws.{held_first}
use Rattle.assembler.specs.Assembler.{page_assembler, page_ready, started, answered, finished, marked, laid, pushed, unrecorded, stopped, without_ready, taken}
use Rattle.assembler.specs.Laws.{used_rows, page_of_rows}
use Rattle.assembler.specs.WellFormed.{SoundAssembler}
use Rattle.assembler.specs.declared.PageAssembler.{PageAssembler}
use Rattle.assembler.specs.declared.Assembled.{Assembled}
use Rattle.assembler.proofs.Laws.{push_taken, push_appends, stop_taken, start_keeps}
use Rattle.log_state.specs.Writer.{log_writer, has_pending, with_assembler, fetched, fetched_if_writable, begun, beginning, added, ended, logging}
use Rattle.log_state.specs.WellFormed.{SoundWriter}
use Rattle.log_state.specs.declared.LogWriter.{LogWriter}
use Rattle.log_state.specs.declared.Logged.{Logged}
use Rattle.power_pages.specs.Store.{real}
use Rattle.power_views.specs.Views.{as_assembler, as_writer, as_queue}

-- ---- the queue

-- none waits where none is held
pub none_held : (q : RecordQueue) → q.held ≡ 0 → as_queue q ≡ []
none_held q e = rw e refl

-- else the oldest is in front of those that stay
pub one_held : (q : RecordQueue) (n : ℕ) → q.held ≡ suc n → as_queue q ≡ oldest q ∷ as_queue (without_oldest q)
one_held q n e = search held_first

-- ---- a page is fetched

fetched_at : (ready pending : Option (List ℕ)) (rows : List FlightRecord) (count flight sequence : ℕ) (recording mark : Bool)
    (next_page next_flight : ℕ) (writable boot : Bool) (since : Option ℕ)
    → as_writer (fetched (log_writer (page_assembler rows count flight sequence recording mark ready) pending next_page next_flight writable boot since))
    ≡ Theory.fetched real (as_writer (log_writer (page_assembler rows count flight sequence recording mark ready) pending next_page next_flight writable boot since))
unfolding fetched taken without_ready
fetched_at ready (Some page) rows count flight sequence recording mark next_page next_flight writable boot since = refl
fetched_at (Some page) None rows count flight sequence recording mark next_page next_flight writable boot since = refl
fetched_at None None rows count flight sequence recording mark next_page next_flight writable boot since = refl

pub fetched_is : (w : LogWriter) → as_writer (fetched w) ≡ Theory.fetched real (as_writer w)
fetched_is w =
    fetched_at w.assembler.ready_page w.pending w.assembler.records w.assembler.record_count w.assembler.flight_id
    w.assembler.page_sequence w.assembler.recording w.assembler.boot_session_start_pending
    w.next_page w.next_flight w.writable w.boot_session_start w.write_back_since_ms

pub fetched_if_is : (w : LogWriter) → as_writer (fetched_if_writable w) ≡ Theory.fetched_if_writable real (as_writer w)
unfolding fetched_if_writable
fetched_if_is w = go w.writable
  where
    go : (z : Bool) → as_writer (cond z (fetched w) w) ≡ cond z (Theory.fetched real (as_writer w)) (as_writer w)
    go true = fetched_is w
    go false = refl

-- ---- a record is logged

module _ (a : PageAssembler) (r : FlightRecord) (s : SoundAssembler a) where
  rows_many : length (used_rows a ++ r ∷ []) ≡ a.record_count + 1
  rows_many =
      omega (arith, length-append (used_rows a) (r ∷ []), length-take-le a.record_count a.records (omega (arith, s.few, s.five)))

  -- the row is laid, and a fifth one makes the page
  laid_is : as_assembler (laid a r) ≡ Model.laid real r (as_assembler a)
  unfolding laid
  laid_is = rw (push_appends a r s) refl

stored_is : (pending : Bool) (r : FlightRecord) → marked pending r ≡ cond pending (marked true r) r
unfolding marked
stored_is true r = refl
stored_is false r = refl

finished_is : (a : PageAssembler) → as_assembler (finished a (page_of_rows a)) ≡ Model.finished real (as_assembler a)
finished_is a = refl

module _ (a : PageAssembler) (r : FlightRecord) (s : SoundAssembler a) (on : a.recording ≡ true) (free : page_ready a ≡ false) where
  -- the record with its mark
  m : FlightRecord
  m = marked a.boot_session_start_pending r

  filled_is : (z : Bool) → ltb (a.record_count + 1) 5 ≡ z
      → as_assembler (cond z (answered false (laid a m)) (answered true (finished (laid a m) (page_of_rows (laid a m))))).assembler
      ≡ cond (not z) (Model.finished real (Model.laid real m (as_assembler a))) (Model.laid real m (as_assembler a))
  filled_is true e = laid_is a m s
  filled_is false e = finished_is (laid a m) ∙ ap (Model.finished real) (laid_is a m s)

  full_is : full real tt (used_rows a ++ m ∷ []) ≡ not (ltb (a.record_count + 1) 5)
  full_is = ap (λ (n : ℕ). not (ltb n 5)) (rows_many a m s)

  pub pushed_is : as_assembler (pushed a r).assembler ≡ Model.pushed real (Model.stored real (as_assembler a) r) (as_assembler a)
  unfolding m
  pushed_is =
      ap (λ (x : Assembled). as_assembler x.assembler) (push_taken a r s on free)
      ∙ filled_is (ltb (a.record_count + 1) 5) refl
      ∙ ap (λ (z : Bool). cond z (Model.finished real (Model.laid real m (as_assembler a))) (Model.laid real m (as_assembler a))) (sym full_is)
      ∙ ap (λ (x : FlightRecord). Model.pushed real x (as_assembler a)) (stored_is a.boot_session_start_pending r)

-- a flight ends
stopping_is : (n : ℕ) (rows : List FlightRecord) (b : Model.Assembler real) → n < 5 → length rows ≡ 5
    → Model.stopping real (take n rows) b ≡ cond (eqb n 0) b (Model.finished real b)
stopping_is zero rows b l h = refl
stopping_is (suc n) [] b l h = absurd (omega arith)
stopping_is (suc n) (r ∷ rows) b l h = rw (ne_eqb (suc n) 0 (λ e. omega arith)) refl

pub stopped_is : (a : PageAssembler) → SoundAssembler a → as_assembler (stopped a).assembler ≡ Model.stopped real (as_assembler a)
unfolding unrecorded
stopped_is a s =
    ap (λ (x : Assembled). as_assembler x.assembler) (stop_taken a s)
    ∙ go (eqb a.record_count 0)
    ∙ sym (stopping_is a.record_count a.records (as_assembler (unrecorded a)) s.few s.five)
    ∙ last
  where
    go : (z : Bool)
        → as_assembler (cond z (answered (page_ready a) (unrecorded a)) (answered true (finished (unrecorded a) (page_of_rows a)))).assembler
        ≡ cond z (as_assembler (unrecorded a)) (Model.finished real (as_assembler (unrecorded a)))
    go true = refl
    go false = refl

    last : Model.stopping real (used_rows a) (as_assembler (unrecorded a)) ≡ Model.stopped real (as_assembler a)
    last = refl

-- what one record does to the writer: no page is ready when it is taken
module _ (r : FlightRecord) where
  -- to a writer that records a flight
  adding : (w : LogWriter) → SoundWriter w → w.assembler.recording ≡ true → page_ready w.assembler ≡ false
      → as_writer (with_assembler w (pushed w.assembler r).assembler) ≡ Model.added real r (as_writer w)
  unfolding with_assembler
  adding w s on free =
      ap (λ (a : Model.Assembler real). Model.with_assembler real a (as_writer w)) (pushed_is w.assembler r s.rows on free)

  started_sound : (w : LogWriter) → SoundWriter w → has_pending w ≡ false → SoundWriter (beginning w)
  started_sound w s empty =
      record {
        rows = start_keeps w.assembler w.next_flight w.boot_session_start s.rows;
        page = s.page;
        waits = λ h. absurd (let z : ◌≡◌ {A = ℕ} 0 1 = cc in omega arith);
      }

  begun_is : (w : LogWriter) → as_writer (beginning w) ≡ Model.begun real r (as_writer w)
  unfolding started
  begun_is w = refl

  module _ (w : LogWriter) (s : SoundWriter w) (empty : has_pending w ≡ false) (free : page_ready w.assembler ≡ false) where
    added_to : (v : LogWriter) → begun w ≡ v → as_writer (added w r).writer ≡ as_writer (with_assembler v (pushed v.assembler r).assembler)
    unfolding added
    added_to v e = ap (λ (x : LogWriter). as_writer (with_assembler x (pushed x.assembler r).assembler)) e

    logged_at : (goes on : Bool) → w.assembler.recording ≡ on
        → as_writer (logging w r goes).writer ≡ Model.taken real goes on r (as_writer w)
    unfolding logging ended begun started with_assembler
    logged_at true true e = added_to w (cond_true w.assembler.recording w (beginning w) e) ∙ adding w s e free
    logged_at true false e =
        added_to (beginning w) (cond_false w.assembler.recording w (beginning w) e)
        ∙ adding (beginning w) (started_sound w s empty) refl refl ∙ ap (Model.added real r) (begun_is w)
    logged_at false true e =
        ap (λ (x : Logged). as_writer x.writer) (cond_true w.assembler.recording _ _ e)
        ∙ ap (λ (a : Model.Assembler real). Model.with_assembler real a (as_writer w)) (stopped_is w.assembler s.rows)
    logged_at false false e = ap (λ (x : Logged). as_writer x.writer) (cond_false w.assembler.recording _ _ e)

    pub logged_is : (goes : Bool) → as_writer (logging w r goes).writer ≡ Model.taken real goes w.assembler.recording r (as_writer w)
    logged_is goes = logged_at goes w.assembler.recording refl

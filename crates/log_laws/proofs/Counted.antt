-- What pages_written counts: turn by turn the pages written and the programs left keep their sum, and next_page rises by the pages written
-- unless the power was cut. Assumes nothing.
use Prim.Native.Nat.{ℕ, zero, suc, ◌+◌}
use mathlib.Core.Path.{◌≡◌, refl, sym, ◌∙◌, subst}
use mathlib.Core.Bool.{Bool, true, false, cond}
use Rattle.std.specs.Prelude.{Option, None, Some, List, []}
use mathlib.Core.Logic.{◌⊎◌, inl, inr}
use native.Mathlib.Omega.{arith}
use lib.Dec.{eqb, ltb}
use lib.ListN.{length}
use Rattle.laws.specs.Refusals.{invalid_layout, bad_length}
use Rattle.laws.specs.Answers.{gives, must}
use Rattle.layout.specs.Layout.{valid_capacity, pages_in}
use Rattle.store.specs.Store.{on_image, on_lengths}
use Rattle.blackbox.specs.declared.FlightRecord.{FlightRecord}
use Rattle.assembler.specs.Assembler.{stopped, without_ready, taken}
use Rattle.assembler.proofs.Laws.{never}
use Rattle.queue.specs.Queue.{dequeue, oldest, without_oldest, dequeued}
use Rattle.log_state.specs.Writer.{has_pending, with_assembler, waiting_if, fetched, written, beginning, begun, logged, stopped_into, added, ended, logging}
use Rattle.log_state.specs.declared.LogWriter.{LogWriter}
use Rattle.log_writer.specs.Pass.{with_writer, halted, failing, put, severed, busy_now, logs, counted, taking_in, taking_record, programming}
use Rattle.log_writer.specs.Pass.{fetched_pass, turn, turns, dropping_it, dropping, on_empty_queue, begin, drain_pass}
use Rattle.log_writer.specs.Calls.{drain_told, drained}
use Rattle.log_writer.specs.declared.Pass.{Pass}
use Rattle.log_writer.specs.declared.DrainOrder.{DrainOrder}
use Rattle.log_writer.specs.declared.NextProgram.{NextProgram}
use Rattle.log_writer.specs.declared.NextProgram.TheVariants.{Busy, Fault, Cut}
use Rattle.log_writer.proofs.Turns.{still}
use Rattle.log_laws.specs.Laws.{PagesCounted, DrainCounts}

-- ---- what leaves next_page alone

fetched_page : (w : LogWriter) → (fetched w).next_page ≡ w.next_page
unfolding fetched taken
fetched_page w = go (has_pending w) w.assembler.ready_page
  where
    out : Bool → Option (List ℕ) → LogWriter
    out x o = cond x w (waiting_if w (without_ready w.assembler) o)

    go : (x : Bool) (o : Option (List ℕ)) → (out x o).next_page ≡ w.next_page
    go true o = refl
    go false (Some page) = refl
    go false None = refl

begun_page : (w : LogWriter) → (begun w).next_page ≡ w.next_page
unfolding begun
begun_page w = go w.assembler.recording
  where
    go : (z : Bool) → (cond z w (beginning w)).next_page ≡ w.next_page
    go true = refl
    go false = refl

ended_page : (w : LogWriter) → (ended w).writer.next_page ≡ w.next_page
unfolding ended with_assembler
ended_page w = go w.assembler.recording
  where
    go : (z : Bool) → (cond z (stopped_into w (stopped w.assembler)) (logged w 0 0)).writer.next_page ≡ w.next_page
    go true = refl
    go false = refl

logging_page : (w : LogWriter) (r : FlightRecord) (b : Bool) → (logging w r b).writer.next_page ≡ w.next_page
unfolding logging added with_assembler
logging_page w r true = begun_page w
logging_page w r false = ended_page w

-- ---- what a step tells

record Told (p q : Pass) : Type 0 where
  pub programs : q.progress.report.pages_written + q.progress.succeed ≡ p.progress.report.pages_written + p.progress.succeed
  pub rise : ((q.progress.cut ≡ true) × (q.progress.going ≡ false) × (q.progress.succeed ≡ 0))
      ⊎ ((q.progress.cut ≡ p.progress.cut) × (q.writer.next_page + p.progress.report.pages_written ≡ p.writer.next_page + q.progress.report.pages_written))

record Idle (p q : Pass) : Type 0 where
  pub pages : q.progress.report.pages_written ≡ p.progress.report.pages_written
  pub succeeds : q.progress.succeed ≡ p.progress.succeed
  pub cuts : q.progress.cut ≡ p.progress.cut
  pub page : q.writer.next_page ≡ p.writer.next_page

taking_idle : (order : DrainOrder) (p : Pass) → Idle p (taking_record order p)
unfolding taking_record dequeued counted halted
taking_idle order p = go (eqb p.queue.held 0)
  where
    go : (z : Bool) → Idle p (taking_in order p (cond z (dequeue None p.queue) (dequeue (Some (oldest p.queue)) (without_oldest p.queue))))
    go true = record { pages = refl; succeeds = refl; cuts = refl; page = refl }
    go false = record { pages = refl; succeeds = refl; cuts = refl; page = logging_page p.writer (oldest p.queue) (logs order (oldest p.queue)) }

halted_told : (p : Pass) → Told p (halted (fetched_pass p))
unfolding halted with_writer
halted_told p = record { programs = refl; rise = inr (refl, omega (arith, fetched_page p.writer)) }

failing_told : (next : NextProgram) (p : Pass) → p.progress.succeed ≡ 0 → Told p (failing next (fetched_pass p))
unfolding put written severed with_writer
failing_told Busy p e = halted_told p
failing_told Fault p e = halted_told p
failing_told Cut p e = record { programs = refl; rise = inl (refl, refl, e) }

programming_told : (g : ℕ) (order : DrainOrder) (p : Pass) → g ≡ p.progress.succeed → Told p (programming g order (fetched_pass p))
unfolding put written severed with_writer
programming_told zero order p e = failing_told order.next p (sym e)
programming_told (suc g) order p e =
    let t = taking_idle order (put (fetched_pass p) g) in
    record {
      programs = omega (arith, t.pages, t.succeeds);
      rise = inr (t.cuts, omega (arith, t.pages, t.page, fetched_page p.writer));
    }

turn_told : (pages : ℕ) (order : DrainOrder) (p : Pass) → Told p (turn pages order p)
unfolding turn with_writer
turn_told pages order p = go (has_pending (fetched p.writer)) (busy_now p.progress.succeed order.next) (ltb (fetched p.writer).next_page pages)
  where
    f : Pass
    f = fetched_pass p

    go : (x y z : Bool) → Told p (cond x (cond y (halted f) (cond z (programming p.progress.succeed order f) (halted f))) (taking_record order f))
    go true true z = halted_told p
    go true false true = programming_told p.progress.succeed order p refl
    go true false false = halted_told p
    go false y z =
        let t = taking_idle order f in
        record { programs = omega (arith, t.pages, t.succeeds); rise = inr (t.cuts, omega (arith, t.pages, t.page, fetched_page p.writer)) }

told_same : (p : Pass) → Told p p
told_same p = record { programs = refl; rise = inr (refl, refl) }

told_then : (p q r : Pass) → Told p q → q.progress.going ≡ true → Told q r → Told p r
told_then p q r a on b = record { programs = b.programs ∙ a.programs; rise = both a.rise b.rise }
  where
    both : ((q.progress.cut ≡ true) × (q.progress.going ≡ false) × (q.progress.succeed ≡ 0))
        ⊎ ((q.progress.cut ≡ p.progress.cut) × (q.writer.next_page + p.progress.report.pages_written ≡ p.writer.next_page + q.progress.report.pages_written))
        → ((r.progress.cut ≡ true) × (r.progress.going ≡ false) × (r.progress.succeed ≡ 0))
        ⊎ ((r.progress.cut ≡ q.progress.cut) × (r.writer.next_page + q.progress.report.pages_written ≡ q.writer.next_page + r.progress.report.pages_written))
        → ((r.progress.cut ≡ true) × (r.progress.going ≡ false) × (r.progress.succeed ≡ 0))
        ⊎ ((r.progress.cut ≡ p.progress.cut) × (r.writer.next_page + p.progress.report.pages_written ≡ p.writer.next_page + r.progress.report.pages_written))
    both (inl h) k = never (sym h.1 ∙ on)
    both (inr h) (inl k) = inl k
    both (inr h) (inr k) = inr (k.0 ∙ h.0, omega (arith, h.1, k.1))

turns_told : (pages : ℕ) (order : DrainOrder) (n : ℕ) (p : Pass) → Told p (turns pages order n p)
unfolding turns
turns_told pages order zero p = told_same p
turns_told pages order (suc n) p = step (turns_told pages order n (turn pages order p)) p.progress.going
  where
    rest : Told (turn pages order p) (turns pages order n (turn pages order p)) → (z : Bool) → (turn pages order p).progress.going ≡ z
        → Told p (turns pages order n (turn pages order p))
    rest ih true e = told_then p (turn pages order p) (turns pages order n (turn pages order p)) (turn_told pages order p) e ih
    rest ih false e = subst (Told p) (sym (still pages order [] n (turn pages order p) e)) (turn_told pages order p)

    step : Told (turn pages order p) (turns pages order n (turn pages order p)) → (z : Bool) → Told p (cond z (turns pages order n (turn pages order p)) p)
    step ih true = rest ih (turn pages order p).progress.going refl
    step ih false = told_same p

drain_told_lem : (pages : ℕ) (order : DrainOrder) (p : Pass) → Told p (drain_pass pages order p)
unfolding drain_pass dropping dequeued on_empty_queue counted
drain_told_lem pages order p = go p.writer.writable (eqb p.queue.held 0) order.record_while_disarmed order.armed
  where
    drops : (z : Bool) → Told p (dropping_it p (cond z (dequeue None p.queue) (dequeue (Some (oldest p.queue)) (without_oldest p.queue))))
    drops true = told_same p
    drops false = record { programs = refl; rise = inr (refl, refl) }

    go : (x y u v : Bool) → Told p (cond x (cond y (cond u p (cond v p (counted p p.queue (ended p.writer)))) (turns pages order order.limit p)) (dropping p))
    go true true true v = told_same p
    go true true false true = told_same p
    go true true false false = record { programs = refl; rise = inr (refl, omega (arith, ended_page p.writer)) }
    go true false u v = turns_told pages order order.limit p
    go false y u v = drops (eqb p.queue.held 0)

-- ---- the call

pub drain_counts : DrainCounts
unfolding drained on_lengths on_image
drain_counts order c image keep w q = go (valid_capacity c) (eqb (length image) c) (eqb (length keep) 256)
  where
    p : Pass
    p = drain_pass (pages_in c) order (begin w q order.succeed)

    t : Told (begin w q order.succeed) p
    t = drain_told_lem (pages_in c) order (begin w q order.succeed)

    lives : ((p.progress.cut ≡ true) × (p.progress.going ≡ false) × (p.progress.succeed ≡ 0))
        ⊎ ((p.progress.cut ≡ false) × (p.writer.next_page + 0 ≡ w.next_page + p.progress.report.pages_written))
        → p.progress.cut ≡ false → p.writer.next_page ≡ w.next_page + p.progress.report.pages_written
    lives (inl h) e = never (sym e ∙ h.0)
    lives (inr h) e = omega (arith, h.1)

    dies : ((p.progress.cut ≡ true) × (p.progress.going ≡ false) × (p.progress.succeed ≡ 0))
        ⊎ ((p.progress.cut ≡ false) × (p.writer.next_page + 0 ≡ w.next_page + p.progress.report.pages_written))
        → p.progress.cut ≡ true → p.progress.report.pages_written ≡ order.succeed
    dies (inl h) e = omega (arith, h.2, t.programs)
    dies (inr h) e = never (sym h.0 ∙ e)

    go : (x y z : Bool) → PagesCounted w order.succeed (drain_told w q (must x invalid_layout (must y bad_length (must z bad_length (gives p)))))
    go true true true = record { alive = lives t.rise; cut = dies t.rise }
    go true true false = record { alive = λ _. omega arith; cut = never }
    go true false z = record { alive = λ _. omega arith; cut = never }
    go false y z = record { alive = λ _. omega arith; cut = never }

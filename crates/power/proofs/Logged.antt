-- What drain logs is exactly the logged ones among the records that left the queue, in order, turn by turn; and the marks of every writer of
-- a life are settled, call by call. Assumes nothing.
use Prim.Native.Nat.{ℕ, zero, suc}
use mathlib.Core.Path.{◌≡◌, refl, sym, ap, ap₂, ◌∙◌, subst}
use mathlib.Core.Bool.{Bool, true, false, cond, false≢true}
use Rattle.std.specs.Prelude.{Option, None, Some}
use mathlib.Core.Logic.{◌⊎◌, inl, inr}
use mathlib.Core.List.{List, [], ◌∷◌, ◌++◌, append_assoc, append-nil}
use Rattle.power.specs.Pages.{PageStore, full}
use Rattle.power.specs.Lawful.{Lawful}
use Rattle.power.specs.Writer.{Assembler, Writer, new, taken, taken_record, stored, finished, laid, pushed, stopped, with_assembler, begun}
use Rattle.power.specs.Calls.{Order, Pass, Step, goes_on, ends, program_if_room, put_page, logs, take_one, take_next, after_put, onward, turns, with_writer}
use Rattle.power.specs.Calls.{ends_flight, drain_writable, with_queue, drop_one, fetched, fetched_if_writable, unasked, ended_with, write_one}
use Rattle.power.specs.Life.{ordered, Device, Call, offers, drains, writes, powers, begin, call, lives, unpowered}
use Rattle.power.specs.Reports.{records_in, edition_if, recorded_as, logs_one, logged_ones, mark_first, MarksSettled, LoggedExactly, DrainLogs, MarksInLives}
use Rattle.power.proofs.Puts.{SameMarks, Goes, StepFacts, fetching_alike, room_facts, put_facts, drain_on}
use Rattle.power.proofs.Passes.{both_ways}

module _ {Page Record Mask : Type 0} (S : PageStore Page Record Mask) (L : Lawful S) where
  push_marks : (a : Assembler S) (r : Record) → ((pushed S r a).mark_pending ≡ false) × ((pushed S r a).recording ≡ a.recording)
  push_marks a r =
      both_ways (λ (b : Assembler S). (b.mark_pending ≡ false) × (b.recording ≡ a.recording)) (full S a.edition (a.rows ++ r ∷ []))
      (finished S (laid S r a)) (laid S r a) (refl, refl) (refl, refl)

  pub stop_marks : (rows : List Record) (a : Assembler S) → a.rows ≡ rows → ((stopped S a).mark_pending ≡ a.mark_pending) × ((stopped S a).recording ≡ false)
  stop_marks [] a e = rw e (refl, refl)
  stop_marks (r ∷ rows) a e = rw e (refl, refl)

  -- the marks of a writer stay settled through every call
  pub settled_as : {w v : Writer S} → SameMarks S v w → MarksSettled S w → MarksSettled S v
  settled_as k m = record { pending = k.mark_pending ∙ m.pending; due = λ h. k.mark_due ∙ m.due (sym k.recording ∙ h) }

  pub settled_new : MarksSettled S (new S)
  settled_new = record { pending = refl; due = λ h. absurd (false≢true h) }

  pub settled_halt : {w v : Writer S} → SameMarks S v w ⊎ (v ≡ new S) → MarksSettled S w → MarksSettled S v
  settled_halt (inl k) m = settled_as k m
  settled_halt (inr e) m = rw e settled_new

  pub settled_stop : (w : Writer S) → MarksSettled S w → MarksSettled S (with_assembler S (stopped S w.assembler) w)
  settled_stop w m =
      record {
        pending = (stop_marks w.assembler.rows w.assembler refl).0 ∙ m.pending;
        due = λ h. absurd (false≢true (sym (stop_marks w.assembler.rows w.assembler refl).1 ∙ h));
      }

  pub settled_record : (y r : Bool) (x : Record) (w : Writer S) → w.assembler.recording ≡ r → MarksSettled S w → MarksSettled S (taken S y r x w)
  settled_record true true x w e m =
      both_ways (MarksSettled S) (S.joins w.assembler.edition x) (with_assembler S (pushed S (stored S w.assembler x) w.assembler) w) w
      (record { pending = (push_marks w.assembler (stored S w.assembler x)).0; due = λ h. m.due e }) m
  settled_record true false x w e m =
      rw (L.joins_own x) (record { pending = (push_marks (begun S x w).assembler (stored S (begun S x w).assembler x)).0; due = λ h. refl })
  settled_record false true x w e m = settled_stop w m
  settled_record false false x w e m = m

  -- the entry that a record adds is the record where it is to be logged, with the mark where that is due
  pub unmarked : (rs : List Record) → mark_first S false rs ≡ rs
  unmarked [] = refl
  unmarked (r ∷ rs) = refl

  -- the flight that is recorded, by its edition
  recorded_as_lem : (w : Writer S) (b : Bool) (e : S.Edition) → w.assembler.recording ≡ b → w.assembler.edition ≡ e → recorded_as S w ≡ edition_if S b e
  recorded_as_lem w b e p q = ap₂ (edition_if S) p q

  pub push_edition : (a : Assembler S) (r : Record) → (pushed S r a).edition ≡ a.edition
  push_edition a r =
      both_ways (λ (b : Assembler S). b.edition ≡ a.edition) (full S a.edition (a.rows ++ r ∷ [])) (finished S (laid S r a)) (laid S r a) refl refl

  mark_record : (y r : Bool) (x : Record) (w : Writer S) → w.assembler.recording ≡ r → MarksSettled S w → (rest : Option S.Edition → List Record)
      → mark_first S w.mark_due (logs_one S y (recorded_as S w) x rest)
      ≡ records_in S (taken_record S y r x w) ++ mark_first S (taken S y r x w).mark_due (rest (recorded_as S (taken S y r x w)))
  mark_record true true x w e m rest =
      ap (λ (o : Option S.Edition). mark_first S w.mark_due (logs_one S true o x rest)) here ∙ by_joins (S.joins w.assembler.edition x)
    where
      here : recorded_as S w ≡ Some w.assembler.edition
      here = recorded_as_lem w true w.assembler.edition e refl

      after : Writer S
      after = with_assembler S (pushed S (stored S w.assembler x) w.assembler) w

      there : recorded_as S after ≡ Some w.assembler.edition
      there =
          recorded_as_lem after true w.assembler.edition ((push_marks w.assembler (stored S w.assembler x)).1 ∙ e)
          (push_edition w.assembler (stored S w.assembler x))

      plain : stored S w.assembler x ≡ x
      plain = ap (λ (b : Bool). cond b (S.marked x) x) m.pending

      same : (due : Bool) → due ≡ false → (rs : List Record) → mark_first S due (x ∷ rs) ≡ stored S w.assembler x ∷ mark_first S due rs
      same true h rs = absurd (false≢true (sym h))
      same false h rs = ap {B = List Record} (λ y. y ∷ rs) (sym plain) ∙ ap {B = List Record} (λ l. stored S w.assembler x ∷ l) (sym (unmarked rs))

      by_joins : (b : Bool)
          → mark_first S w.mark_due (cond b (x ∷ rest (Some w.assembler.edition)) (rest (Some w.assembler.edition)))
          ≡ records_in S (cond b ((w.assembler.flight, stored S w.assembler x) ∷ []) [])
          ++ mark_first S (cond b after w).mark_due (rest (recorded_as S (cond b after w)))
      by_joins true =
          same w.mark_due (m.due e) (rest (Some w.assembler.edition))
          ∙ ap {B = List Record} (λ (o : Option S.Edition). stored S w.assembler x ∷ mark_first S w.mark_due (rest o)) (sym there)
      by_joins false = ap (λ (o : Option S.Edition). mark_first S w.mark_due (rest o)) (sym here)
  mark_record true false x w e m rest =
      ap (λ (o : Option S.Edition). mark_first S w.mark_due (logs_one S true o x rest)) (recorded_as_lem w false w.assembler.edition e refl)
      ∙ rw (L.joins_own x)
      (ap {B = List Record} (λ (l : List Record). cond w.mark_due (S.marked x) x ∷ l)
      (ap rest (sym there) ∙ sym (unmarked (rest (recorded_as S after)))))
    where
      after : Writer S
      after = with_assembler S (pushed S (stored S (begun S x w).assembler x) (begun S x w).assembler) (begun S x w)

      there : recorded_as S after ≡ Some (S.edition x)
      there =
          recorded_as_lem after true (S.edition x) (push_marks (begun S x w).assembler (stored S (begun S x w).assembler x)).1
          (push_edition (begun S x w).assembler (stored S (begun S x w).assembler x))
  mark_record false true x w e m rest =
      ap (λ (o : Option S.Edition). mark_first S w.mark_due (rest o))
      (sym (recorded_as_lem (with_assembler S (stopped S w.assembler) w) false (stopped S w.assembler).edition (stop_marks w.assembler.rows w.assembler refl).1 refl))
  mark_record false false x w e m rest =
      ap (λ (o : Option S.Edition). mark_first S w.mark_due (rest o)) (sym (recorded_as_lem w false w.assembler.edition e refl))

  pub records_in_append : (a b : List (ℕ × Record)) → records_in S (a ++ b) ≡ records_in S a ++ records_in S b
  records_in_append [] b = refl
  records_in_append (x ∷ a) b = ap {B = List Record} (λ l. x.1 ∷ l) (records_in_append a b)

  -- no record left the queue
  exact_none : (wd : Bool) (p q : Pass S) → q.logged ≡ p.logged → (q.power_gone ≡ false → q.queue ≡ p.queue)
      → (q.power_gone ≡ true → q.queue ≡ []) → LoggedExactly S wd p q
  exact_none wd p q e a c =
      record {
        left = [];
        rest = p.queue;
        queue = refl;
        alive = a;
        cut = c;
        logged = ap (records_in S) e ∙ sym (append-nil (records_in S p.logged));
      }

  module _ (wd : Bool) where
    -- a record left the queue, and then those that left it in the turns that were left
    exact_one : (p q r : Pass S) (x : Record) (queue : List Record) → Goes S p.succeed p q → q.queue ≡ x ∷ queue → MarksSettled S q.writer
        → LoggedExactly S wd (take_one S wd x queue q) r → LoggedExactly S wd p r
    exact_one p q r x queue f e m k =
        record {
          left = x ∷ k.left;
          rest = k.rest;
          queue = sym f.queue ∙ e ∙ ap {B = List Record} (λ l. x ∷ l) k.queue;
          alive = k.alive;
          cut = k.cut;
          logged =
              k.logged
              ∙ ap (λ (l : List Record). l ++ later) (records_in_append q.logged entry)
              ∙ append_assoc (records_in S q.logged) (records_in S entry) later
              ∙ ap (λ (l : List Record). records_in S q.logged ++ l)
              (sym (mark_record (logs S wd x) q.writer.assembler.recording x q.writer refl m (λ o. logged_ones S wd o k.left)))
              ∙ ap (λ (l : List (ℕ × Record)). records_in S l ++ mark_first S q.writer.mark_due (logged_ones S wd (recorded_as S q.writer) (x ∷ k.left))) f.logged
              ∙ ap₂ (λ (b : Bool) (o : Option S.Edition). records_in S p.logged ++ mark_first S b (logged_ones S wd o (x ∷ k.left))) f.marks.mark_due
              (ap₂ (edition_if S) f.marks.recording f.marks.edition);
        }
      where
        entry : List (ℕ × Record)
        entry = taken_record S (logs S wd x) q.writer.assembler.recording x q.writer

        later : List Record
        later =
            mark_first S (taken S (logs S wd x) q.writer.assembler.recording x q.writer).mark_due
            (logged_ones S wd (recorded_as S (taken S (logs S wd x) q.writer.assembler.recording x q.writer)) k.left)

    module _ (k : Pass S → Pass S) (ih : (p : Pass S) → p.power_gone ≡ false → MarksSettled S p.writer → LoggedExactly S wd p (k p)) (p : Pass S)
        (g : p.power_gone ≡ false) (m : MarksSettled S p.writer) where
      settled_put : (q : Pass S) → Goes S p.succeed p q → MarksSettled S q.writer
      settled_put q f = settled_as f.marks m

      exact_next : (queue : List Record) (q : Pass S) → q.queue ≡ queue → Goes S p.succeed p q → LoggedExactly S wd p (onward S k (take_next S wd queue q))
      exact_next [] q e f = exact_none wd p q f.logged (λ h. f.queue) (λ h. absurd (false≢true (sym g ∙ sym f.power_gone ∙ h)))
      exact_next (x ∷ queue) q e f =
          exact_one p q (k (take_one S wd x queue q)) x queue f e (settled_put q f)
          (ih (take_one S wd x queue q) (f.power_gone ∙ g) (settled_record (logs S wd x) q.writer.assembler.recording x q.writer refl (settled_put q f)))

      exact_step : (t : Step S) → StepFacts S p.succeed p t → LoggedExactly S wd p (onward S k (after_put S wd t))
      exact_step (ends q) f = exact_none wd p q f.logged (λ h. (f.alive h).0) (λ h. go (f.gone h))
        where
          go : (p.power_gone ≡ true) ⊎ ((p.succeed ≡ 0) × (q.queue ≡ []) × (q.writer.writable ≡ false)) → q.queue ≡ []
          go (inl h) = absurd (false≢true (sym g ∙ h))
          go (inr h) = h.1
      exact_step (goes_on q) f = exact_next q.queue q refl f

    exact_turns : (limit : ℕ) (p : Pass S) → p.power_gone ≡ false → MarksSettled S p.writer → LoggedExactly S wd p (turns S wd limit p)
    exact_turns zero p g m = exact_none wd p p refl (λ h. refl) (λ h. absurd (false≢true (sym g ∙ h)))
    exact_turns (suc limit) p g m = exact_step (λ q. turns S wd limit q) (λ q g m. exact_turns limit q g m) p g m (put_page S p) (put_facts S p)

  pub drain_logs : DrainLogs S
  drain_logs d order w m =
      subst (λ (q : Pass S). LoggedExactly S order.while_disarmed (ordered S d order) q) (sym (drain_on S order (ordered S d order) w)) (by_queue d.queue)
    where
      by_queue : (queue : List Record) → LoggedExactly S order.while_disarmed (ordered S d order) (drain_writable S order queue (ordered S d order))
      by_queue [] =
          both_ways (LoggedExactly S order.while_disarmed (ordered S d order)) (ends_flight S order.while_disarmed order.armed d.writer.assembler.recording)
          (with_writer S (with_assembler S (stopped S d.writer.assembler) d.writer) (ordered S d order)) (ordered S d order)
          (exact_none order.while_disarmed (ordered S d order) (with_writer S (with_assembler S (stopped S d.writer.assembler) d.writer) (ordered S d order)) refl
          (λ h. refl) (λ h. absurd (false≢true h)))
          (exact_none order.while_disarmed (ordered S d order) (ordered S d order) refl (λ h. refl) (λ h. absurd (false≢true h)))
      by_queue (x ∷ queue) = exact_turns order.while_disarmed order.limit (ordered S d order) refl m

  -- and so through every call
  settled_next : (wd : Bool) (k : Pass S → Pass S) → ((p : Pass S) → MarksSettled S p.writer → MarksSettled S (k p).writer)
      → (queue : List Record) (q : Pass S) → MarksSettled S q.writer → MarksSettled S (onward S k (take_next S wd queue q)).writer
  settled_next wd k ih [] q m = m
  settled_next wd k ih (x ∷ queue) q m = ih (take_one S wd x queue q) (settled_record (logs S wd x) q.writer.assembler.recording x q.writer refl m)

  settled_step : (wd : Bool) (k : Pass S → Pass S) → ((p : Pass S) → MarksSettled S p.writer → MarksSettled S (k p).writer) → (p : Pass S)
      → MarksSettled S p.writer → (t : Step S) → StepFacts S p.succeed p t → MarksSettled S (onward S k (after_put S wd t)).writer
  settled_step wd k ih p m (ends q) f = settled_halt f.marks m
  settled_step wd k ih p m (goes_on q) f = settled_next wd k ih q.queue q (settled_as f.marks m)

  settled_turns : (wd : Bool) (limit : ℕ) (p : Pass S) → MarksSettled S p.writer → MarksSettled S (turns S wd limit p).writer
  settled_turns wd zero p m = m
  settled_turns wd (suc limit) p m = settled_step wd (λ q. turns S wd limit q) (λ q m. settled_turns wd limit q m) p m (put_page S p) (put_facts S p)

  settled_queue : (order : Order Mask) (p : Pass S) → MarksSettled S p.writer → (queue : List Record)
      → MarksSettled S (drain_writable S order queue p).writer
  settled_queue order p m [] =
      both_ways (λ (q : Pass S). MarksSettled S q.writer) (ends_flight S order.while_disarmed order.armed p.writer.assembler.recording)
      (with_writer S (with_assembler S (stopped S p.writer.assembler) p.writer) p) p (settled_stop p.writer m) m
  settled_queue order p m (x ∷ queue) = settled_turns order.while_disarmed order.limit p m

  settled_one : (o : Option Page) (p : Pass S) → MarksSettled S p.writer → MarksSettled S (write_one S o p).writer
  settled_one None p m = m
  settled_one (Some page) p m =
      go (program_if_room S (unasked S p.succeed p.next) p.next page p) (room_facts S (unasked S p.succeed p.next) p.next page p)
    where
      go : (t : Step S) → StepFacts S (unasked S p.succeed p.next) p t → MarksSettled S (ended_with S t).writer
      go (goes_on q) f = settled_as f.marks m
      go (ends q) f = settled_halt f.marks m

  pub settled_fetched : (w : Writer S) → MarksSettled S w → MarksSettled S (fetched_if_writable S w)
  settled_fetched w m = both_ways (MarksSettled S) w.writable (fetched S w) w (settled_as (fetching_alike S w.waiting w).marks m) m

  settled_call : (c : Call S) (d : Device S) → MarksSettled S d.writer → MarksSettled S (call S c d).writer
  settled_call (offers r) d m = m
  settled_call (drains order) d m =
      both_ways (λ (q : Pass S). MarksSettled S q.writer) d.writer.writable (drain_writable S order d.queue (ordered S d order))
      (with_queue S (drop_one S d.queue) (ordered S d order)) (settled_queue order (ordered S d order) m d.queue) m
  settled_call (writes g z) d m =
      settled_one (fetched_if_writable S d.writer).waiting (with_writer S (fetched_if_writable S d.writer) (begin S d g z))
      (settled_fetched d.writer m)
  settled_call powers d m = record { pending = refl; due = λ h. absurd (false≢true h) }

  settled_lives : (life : List (Call S)) (d : Device S) → MarksSettled S d.writer → MarksSettled S (lives S life d).writer
  settled_lives [] d m = m
  settled_lives (c ∷ life) d m = settled_lives life (call S c d) (settled_call c d m)

  pub marks_in_lives : MarksInLives S
  marks_in_lives log life = settled_lives life (unpowered S log) settled_new

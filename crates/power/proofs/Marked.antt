-- What is logged in a power-on begins with the record that got the mark: as long as a mark is due nothing was logged, and once something was
-- logged none is due. For any three properties: of an offered record, of a marked one, and of the edition of the flight that is recorded. Call by
-- call. Assumes nothing.
use Prim.Native.Nat.{ℕ, zero, suc}
use mathlib.Core.Path.{◌≡◌, refl, sym, ◌∙◌, subst}
use mathlib.Core.Bool.{Bool, true, false, cond, false≢true}
use Rattle.std.specs.Prelude.{Option, None, Some}
use mathlib.Core.Logic.{◌⊎◌, inl, inr}
use mathlib.Core.List.{List, [], ◌∷◌, ◌++◌, append_assoc, append-nil}
use Rattle.power.specs.Pages.{PageStore, Each}
use Rattle.power.specs.Lawful.{Lawful}
use Rattle.power.specs.Writer.{Writer, new, taken, taken_record, stored, stopped, with_assembler, begun}
use Rattle.power.specs.Calls.{Order, Pass, Step, goes_on, ends, program_if_room, put_page, logs, take_one, take_next, after_put, onward, turns, with_writer}
use Rattle.power.specs.Calls.{ends_flight, drain_writable, drop_one, drain, fetched, fetched_if_writable, unasked, ended_with, write_one}
use Rattle.power.specs.Calls.{write_pending}
use Rattle.power.specs.Life.{ordered, Device, Call, offers, drains, writes, powers, begin, after_pass, call, lives, unpowered}
use Rattle.power.specs.Reports.{MarksSettled}
use Rattle.power.specs.Segments.{FirstRest}
use Rattle.power.proofs.Events.{snoc_some}
use Rattle.power.proofs.Puts.{SameMarks, Goes, Halts, StepFacts, fetching_alike, room_facts, put_facts, drain_on, drain_off}
use Rattle.power.proofs.Passes.{each_left, each_append, both_ways}
use Rattle.power.proofs.Turns.{taken_writable}
use Rattle.power.proofs.Logged.{stop_marks, push_edition, settled_as, settled_new, settled_stop, settled_record}

first_more : {A : Type 0} (R Q : A → Type 0) (l : List A) (x : A) → ¬ (l ≡ []) → FirstRest R Q l → Q x → FirstRest R Q (l ++ x ∷ [])
first_more R Q [] x n h q = absurd (n refl)
first_more R Q (y ∷ l) x n h q = (h.0, each_append Q l (x ∷ []) h.1 (q, tt))

pub first_left : {A : Type 0} (R Q : A → Type 0) (a b : List A) → FirstRest R Q (a ++ b) → FirstRest R Q a
first_left R Q [] b h = tt
first_left R Q (x ∷ a) b h = (h.0, each_left Q a b h.1)

module _ {Page Record Mask : Type 0} (S : PageStore Page Record Mask) (L : Lawful S) (R Q : Record → Type 0) (E : S.Edition → Type 0)
    (mark : (r : Record) → Q r → R (S.marked r)) (own : (r : Record) → Q r → E (S.edition r)) where
  abbrev pub Begins : List (ℕ × Record) → Type 0
  Begins all = FirstRest (λ entry. R entry.1) (λ entry. Q entry.1) all

  -- how a writer stands to all that was logged in its power-on
  pub record Due (w : Writer S) (all : List (ℕ × Record)) : Type 0 where
    pub begins : Begins all
    pub due : w.writable ≡ true → w.mark_due ≡ true → all ≡ []
    pub done : w.mark_due ≡ false → ¬ (all ≡ [])
    pub edition : w.assembler.recording ≡ true → E w.assembler.edition
    pub settled : MarksSettled S w

  -- the same of a writer that records as the other does
  due_as : {w v : Writer S} {all : List (ℕ × Record)} → SameMarks S v w → (v.writable ≡ true → w.writable ≡ true) → Due w all → Due v all
  due_as k f h =
      record {
        begins = h.begins;
        due = λ a b. h.due (f a) (sym k.mark_due ∙ b);
        done = λ a. h.done (sym k.mark_due ∙ a);
        edition = λ a. subst E (sym k.edition) (h.edition (sym k.recording ∙ a));
        settled = settled_as S L k h.settled;
      }

  due_new : {all : List (ℕ × Record)} → Begins all → Due (new S) all
  due_new h =
      record {
        begins = h;
        due = λ a b. absurd (false≢true a);
        done = λ a. absurd (false≢true (sym a));
        edition = λ a. absurd (false≢true a);
        settled = settled_new S L;
      }

  due_halt : {w v : Writer S} {all : List (ℕ × Record)} → SameMarks S v w ⊎ (v ≡ new S) → (v.writable ≡ true → w.writable ≡ true) → Due w all
      → Due v all
  due_halt (inl k) f h = due_as k f h
  due_halt {w} {v} {all} (inr e) f h = subst (λ (x : Writer S). Due x all) (sym e) (due_new h.begins)

  due_nil : (w : Writer S) (all : List (ℕ × Record)) → Due w all → Due w (all ++ [])
  due_nil w all h = subst (λ (l : List (ℕ × Record)). Due w l) (sym (append-nil all)) h

  stop_due : (w : Writer S) (all : List (ℕ × Record)) → Due w all → Due (with_assembler S (stopped S w.assembler) w) all
  stop_due w all h =
      record {
        begins = h.begins;
        due = h.due;
        done = h.done;
        edition = λ a. absurd (false≢true (sym (stop_marks S L w.assembler.rows w.assembler refl).1 ∙ a));
        settled = settled_stop S L w h.settled;
      }

  -- a record that is taken
  take_due : (y r : Bool) (x : Record) (w : Writer S) (all : List (ℕ × Record)) → w.assembler.recording ≡ r → w.writable ≡ true → Q x → Due w all
      → Due (taken S y r x w) (all ++ taken_record S y r x w)
  take_due true true x w all e on q h = step (S.joins w.assembler.edition x) refl
    where
      plain : Q (stored S w.assembler x)
      plain = subst (λ (b : Bool). Q (cond b (S.marked x) x)) (sym h.settled.pending) q

      step : (b : Bool) → S.joins w.assembler.edition x ≡ b → Due (taken S true true x w) (all ++ taken_record S true true x w)
      step true j =
          let s = settled_record S L true true x w e h.settled in
          rw j
          (record {
            begins =
                first_more (λ entry. R entry.1) (λ entry. Q entry.1) all (w.assembler.flight, stored S w.assembler x)
                (h.done (h.settled.due e)) h.begins plain;
            due = λ a b. absurd (false≢true (sym (h.settled.due e) ∙ b));
            done = λ a. snoc_some all (w.assembler.flight, stored S w.assembler x);
            edition = λ a. subst E (sym (push_edition S L w.assembler (stored S w.assembler x))) (h.edition e);
            settled = rw j at s;
          })
      step false j = rw j (due_nil w all h)
  take_due true false x w all e on q h =
      let s = settled_record S L true false x w e h.settled in
      rw (L.joins_own x)
      (record {
        begins = go w.mark_due refl;
        due = λ a b. absurd (false≢true b);
        done = λ a. snoc_some all (w.next_flight, cond w.mark_due (S.marked x) x);
        edition = λ a. subst E (sym (push_edition S L (begun S x w).assembler (stored S (begun S x w).assembler x))) (own x q);
        settled = rw (L.joins_own x) at s;
      })
    where
      go : (b : Bool) → w.mark_due ≡ b → Begins (all ++ (w.next_flight, cond b (S.marked x) x) ∷ [])
      go true d = subst (λ (l : List (ℕ × Record)). Begins (l ++ (w.next_flight, S.marked x) ∷ [])) (sym (h.due on d)) (mark x q, tt)
      go false d = first_more (λ entry. R entry.1) (λ entry. Q entry.1) all (w.next_flight, x) (h.done d) h.begins q
  take_due false true x w all e on q h = due_nil (with_assembler S (stopped S w.assembler) w) all (stop_due w all h)
  take_due false false x w all e on q h = due_nil w all h

  -- a call under way, in a power-on in which `now` was logged before
  module _ (now : List (ℕ × Record)) where
    record Well (p : Pass S) : Type 0 where
      queue : Each Q p.queue
      due : Due p.writer (now ++ p.logged)

    well_halt : (g : ℕ) (p q : Pass S) → p.power_gone ≡ false → Halts S g p q → Well p → Well q
    well_halt g p q on f h = record { queue = go q.power_gone refl; due = rw f.logged (due_halt f.marks f.writable h.due) }
      where
        gone : (p.power_gone ≡ true) ⊎ ((g ≡ 0) × (q.queue ≡ []) × (q.writer.writable ≡ false)) → Each Q q.queue
        gone (inl a) = absurd (false≢true (sym on ∙ a))
        gone (inr a) = rw a.1 tt

        go : (b : Bool) → q.power_gone ≡ b → Each Q q.queue
        go true e = gone (f.gone e)
        go false e = rw (f.alive e).0 h.queue

    well_go : (g : ℕ) (p q : Pass S) → Goes S g p q → Well p → Well q
    well_go g p q f h =
        record { queue = rw f.queue h.queue; due = rw f.logged (due_as f.marks (λ a. sym f.writable ∙ a) h.due) }

    module _ (wd : Bool) (k : Pass S → Pass S) (ih : (p : Pass S) → p.power_gone ≡ false → p.writer.writable ≡ true → Well p → Well (k p)) where
      well_next : (queue : List Record) (q : Pass S) → q.queue ≡ queue → q.power_gone ≡ false → q.writer.writable ≡ true → Well q
          → Well (onward S k (take_next S wd queue q))
      well_next [] q e g on h = h
      well_next (x ∷ queue) q e g on h =
          ih (take_one S wd x queue q) g (taken_writable S L (logs S wd x) q.writer.assembler.recording x q.writer ∙ on)
          (record { queue = plain.1; due = subst (Due (take_one S wd x queue q).writer) (append_assoc now q.logged entry) took })
        where
          plain : Each Q (x ∷ queue)
          plain = rw e at h.queue

          entry : List (ℕ × Record)
          entry = taken_record S (logs S wd x) q.writer.assembler.recording x q.writer

          took : Due (take_one S wd x queue q).writer ((now ++ q.logged) ++ entry)
          took = take_due (logs S wd x) q.writer.assembler.recording x q.writer (now ++ q.logged) refl on plain.0 h.due

      well_step : (p : Pass S) → p.power_gone ≡ false → p.writer.writable ≡ true → Well p → (t : Step S) → StepFacts S p.succeed p t
          → Well (onward S k (after_put S wd t))
      well_step p g on h (ends q) f = well_halt p.succeed p q g f h
      well_step p g on h (goes_on q) f = well_next q.queue q refl (f.power_gone ∙ g) (f.writable ∙ on) (well_go p.succeed p q f h)

    well_turns : (wd : Bool) (limit : ℕ) (p : Pass S) → p.power_gone ≡ false → p.writer.writable ≡ true → Well p → Well (turns S wd limit p)
    well_turns wd zero p g on h = h
    well_turns wd (suc limit) p g on h =
        well_step wd (λ q. turns S wd limit q) (λ q a b c. well_turns wd limit q a b c) p g on h (put_page S p) (put_facts S p)

    well_queue : (order : Order Mask) (p : Pass S) → p.power_gone ≡ false → p.writer.writable ≡ true → Well p → (queue : List Record)
        → Well (drain_writable S order queue p)
    well_queue order p g on h [] =
        both_ways Well (ends_flight S order.while_disarmed order.armed p.writer.assembler.recording)
        (with_writer S (with_assembler S (stopped S p.writer.assembler) p.writer) p) p
        (record { queue = h.queue; due = stop_due p.writer (now ++ p.logged) h.due }) h
    well_queue order p g on h (x ∷ queue) = well_turns order.while_disarmed order.limit p g on h

    drop_plain : (queue : List Record) → Each Q queue → Each Q (drop_one S queue)
    drop_plain [] h = tt
    drop_plain (x ∷ queue) h = h.1

    well_drain : (order : Order Mask) (p : Pass S) → p.power_gone ≡ false → Well p → Well (drain S order p)
    well_drain order p g h = go p.writer.writable refl
      where
        go : (b : Bool) → p.writer.writable ≡ b → Well (drain S order p)
        go true e = subst Well (sym (drain_on S order p e)) (well_queue order p g e h p.queue)
        go false e = subst Well (sym (drain_off S order p e)) (record { queue = drop_plain p.queue h.queue; due = h.due })

    well_one : (o : Option Page) (p : Pass S) → p.power_gone ≡ false → Well p → Well (write_one S o p)
    well_one None p g h = h
    well_one (Some page) p g h =
        go (program_if_room S (unasked S p.succeed p.next) p.next page p) (room_facts S (unasked S p.succeed p.next) p.next page p)
      where
        go : (t : Step S) → StepFacts S (unasked S p.succeed p.next) p t → Well (ended_with S t)
        go (goes_on q) f = well_go (unasked S p.succeed p.next) p q f h
        go (ends q) f = well_halt (unasked S p.succeed p.next) p q g f h

    well_write : (p : Pass S) → p.power_gone ≡ false → Well p → Well (write_pending S p)
    well_write p g h =
        well_one (fetched_if_writable S p.writer).waiting (with_writer S (fetched_if_writable S p.writer) p) g
        (record { queue = h.queue; due = due })
      where
        due : Due (fetched_if_writable S p.writer) (now ++ p.logged)
        due =
            both_ways (λ (v : Writer S). Due v (now ++ p.logged)) p.writer.writable (fetched S p.writer) p.writer
            (due_as (fetching_alike S p.writer.waiting p.writer).marks
            (λ a. sym (fetching_alike S p.writer.waiting p.writer).writable ∙ a) h.due)
            h.due

  -- what holds of a device through a life
  pub record WellDevice (d : Device S) : Type 0 where
    pub queue : Each Q d.queue
    pub past : Each Begins d.past
    pub due : Due d.writer d.now

  abbrev pub OffersAre : List (Call S) → Type 0
  OffersAre [] = Unit {0}
  OffersAre (offers r ∷ life) = Q r × OffersAre life
  OffersAre (drains order ∷ life) = OffersAre life
  OffersAre (writes g z ∷ life) = OffersAre life
  OffersAre (powers ∷ life) = OffersAre life

  begin_well : (d : Device S) (p : Pass S) → p.queue ≡ d.queue → p.writer ≡ d.writer → p.logged ≡ [] → WellDevice d → Well d.now p
  begin_well d p e₁ e₂ e₃ h = record { queue = rw e₁ h.queue; due = rw (e₂, e₃, append-nil d.now) h.due }

  after_well : (d : Device S) (p : Pass S) → WellDevice d → Well d.now p → WellDevice (after_pass S d p)
  after_well d p h k = record { queue = k.queue; past = h.past; due = k.due }

  drain_well : (order : Order Mask) (d : Device S) (p : Pass S) → p.queue ≡ d.queue → p.writer ≡ d.writer → p.logged ≡ []
      → p.power_gone ≡ false → WellDevice d → WellDevice (after_pass S d (drain S order p))
  drain_well order d p e₁ e₂ e₃ g h =
      after_well d (drain S order p) h (well_drain d.now order p g (begin_well d p e₁ e₂ e₃ h))

  write_well : (d : Device S) (p : Pass S) → p.queue ≡ d.queue → p.writer ≡ d.writer → p.logged ≡ [] → p.power_gone ≡ false → WellDevice d
      → WellDevice (after_pass S d (write_pending S p))
  write_well d p e₁ e₂ e₃ g h = after_well d (write_pending S p) h (well_write d.now p g (begin_well d p e₁ e₂ e₃ h))

  pub well_lives : (life : List (Call S)) (d : Device S) → OffersAre life → WellDevice d → WellDevice (lives S life d)
  well_lives [] d o h = h
  well_lives (offers r ∷ life) d o h =
      well_lives life (call S (offers r) d) o.1
      (record { queue = each_append Q d.queue (r ∷ []) h.queue (o.0, tt); past = h.past; due = h.due })
  well_lives (drains order ∷ life) d o h =
      well_lives life (call S (drains order) d) o (drain_well order d (ordered S d order) refl refl refl refl h)
  well_lives (writes g z ∷ life) d o h = well_lives life (call S (writes g z) d) o (write_well d (begin S d g z) refl refl refl refl h)
  well_lives (powers ∷ life) d o h =
      well_lives life (call S powers d) o
      (record {
        queue = tt;
        past = each_append Begins d.past (d.now ∷ []) h.past (h.due.begins, tt);
        due =
            record {
              begins = tt;
              due = λ a b. refl;
              done = λ a. absurd (false≢true (sym a));
              edition = λ a. absurd (false≢true a);
              settled = record { pending = refl; due = λ a. absurd (false≢true a) };
            };
      })

  pub well_unpowered : (log : List Page) → WellDevice (unpowered S log)
  well_unpowered log = record { queue = tt; past = tt; due = due_new tt }

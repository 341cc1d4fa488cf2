-- The calls of the writer keep the invariant: drain turn by turn, and write_pending. Assumes nothing.
use Prim.Native.Nat.{ℕ, zero, suc, ◌<◌}
use mathlib.Core.Path.{◌≡◌, refl, sym, ap, ◌∙◌}
use mathlib.Core.Bool.{Bool, true, false, false≢true}
use Rattle.std.specs.Prelude.{Option, None, Some}
use mathlib.Core.Logic.{inl, inr}
use mathlib.Core.List.{List, [], ◌∷◌, ◌++◌, append_assoc, append-nil}
use native.Mathlib.Omega.{arith}
use lib.ListN.{length, length-append}
use Rattle.power.specs.Pages.{PageStore, Each}
use Rattle.power.specs.Lawful.{Lawful}
use Rattle.power.specs.Writer.{Writer, stored, stopped, with_assembler, begun, taken, taken_record}
use Rattle.power.specs.Calls.{Order, Pass, Step, goes_on, ends, program_if_room, put_page, with_writer, with_queue, logs, take_one, take_next, after_put, onward}
use Rattle.power.specs.Calls.{turns, on_empty_queue, drain, unasked, ended_with, write_pending}
use Rattle.power.specs.Life.{Undecoded}
use Rattle.power.proofs.Used.{none_some}
use Rattle.power.proofs.Invariant.{Ground, idle, Inv}
use Rattle.power.proofs.Adds.{adds_none}
use Rattle.power.proofs.TornCount.{Tears, tears_then, tears_as}
use Rattle.power.proofs.Events.{keep_stop, keep_stop_held}
use Rattle.power.proofs.Puts.{StepFacts, put_facts}
use Rattle.power.proofs.Passes.{each_left, each_right, both_ways, shaped, with_logged, Good, Keeps, Why, keeps_none, keeps_then, Clear}
use Rattle.power.proofs.Passes.{StepKeeps, room_keeps, step_as, fetch_tears, put_keeps, take_keeps}

module _ {Page Record Mask : Type 0} (S : PageStore Page Record Mask) (L : Lawful S) where
  -- a record doesn't change whether the log is writable
  pub taken_writable : (y r : Bool) (x : Record) (w : Writer S) → (taken S y r x w).writable ≡ w.writable
  taken_writable true true x w = both_ways (λ (v : Writer S). v.writable ≡ w.writable) (S.joins w.assembler.edition x) _ w refl refl
  taken_writable true false x w = both_ways (λ (v : Writer S). v.writable ≡ w.writable) (S.joins (S.edition x) x) _ (begun S x w) refl refl
  taken_writable false true x w = refl
  taken_writable false false x w = refl

  -- nor the next page, nor the page that waits
  taken_waits : (y r : Bool) (x : Record) (w : Writer S) → (taken S y r x w).waiting ≡ w.waiting
  taken_waits true true x w = both_ways (λ (v : Writer S). v.waiting ≡ w.waiting) (S.joins w.assembler.edition x) _ w refl refl
  taken_waits true false x w = both_ways (λ (v : Writer S). v.waiting ≡ w.waiting) (S.joins (S.edition x) x) _ (begun S x w) refl refl
  taken_waits false true x w = refl
  taken_waits false false x w = refl

  pub taken_place : (y r : Bool) (x : Record) (w : Writer S) → (taken S y r x w).next_page ≡ w.next_page
  taken_place true true x w = both_ways (λ (v : Writer S). v.next_page ≡ w.next_page) (S.joins w.assembler.edition x) _ w refl refl
  taken_place true false x w = both_ways (λ (v : Writer S). v.next_page ≡ w.next_page) (S.joins (S.edition x) x) _ (begun S x w) refl refl
  taken_place false true x w = refl
  taken_place false false x w = refl

  take_tears : (wd : Bool) (x : Record) (queue : List Record) (p : Pass S) → Tears S L p (take_one S wd x queue p)
  take_tears wd x queue p =
      tears_as S L p (take_one S wd x queue p) refl refl (taken_place (logs S wd x) p.writer.assembler.recording x p.writer)
      (λ a. sym (taken_writable (logs S wd x) p.writer.assembler.recording x p.writer) ∙ a)
      (λ a. sym (taken_waits (logs S wd x) p.writer.assembler.recording x p.writer) ∙ a)

  -- what a call logged is appended to what was logged
  abbrev Appends : Pass S → Pass S → Type 0
  Appends p q = (more : List (ℕ × Record)) × (q.logged ≡ p.logged ++ more)

  module _ (wd : Bool) (k : Pass S → Pass S) (ih : (p : Pass S) → Appends p (k p)) where
    next_appends : (p q : Pass S) → q.logged ≡ p.logged → (queue : List Record) → Appends p (onward S k (take_next S wd queue q))
    next_appends p q e [] = ([], e ∙ sym (append-nil p.logged))
    next_appends p q e (x ∷ queue) =
        (entry ++ more.0, more.1 ∙ append_assoc q.logged entry more.0 ∙ ap (λ (l : List (ℕ × Record)). l ++ (entry ++ more.0)) e)
      where
        entry : List (ℕ × Record)
        entry = taken_record S (logs S wd x) q.writer.assembler.recording x q.writer

        more : Appends (take_one S wd x queue q) (k (take_one S wd x queue q))
        more = ih (take_one S wd x queue q)

    step_appends : (p : Pass S) (t : Step S) → StepFacts S p.succeed p t → Appends p (onward S k (after_put S wd t))
    step_appends p (ends q) f = ([], f.logged ∙ sym (append-nil p.logged))
    step_appends p (goes_on q) f = next_appends p q f.logged q.queue

  turns_append : (wd : Bool) (limit : ℕ) (p : Pass S) → Appends p (turns S wd limit p)
  turns_append wd zero p = ([], sym (append-nil p.logged))
  turns_append wd (suc limit) p = step_appends wd (λ q. turns S wd limit q) (λ q. turns_append wd limit q) p (put_page S p) (put_facts S p)

  module _ (G : Ground S L) (past : List (List (ℕ × Record))) (now : List (ℕ × Record)) where
    -- a flight that begins is below the limit
    flight_small : {l : List Page} {nx nf : ℕ} (logged : List (ℕ × Record)) (y : Record) → Inv S L G l idle nx nf past (now ++ logged)
        → Why S L G past now (logged ++ (nf, y) ∷ []) → nf < S.limit
    flight_small {l} {nx} {nf} logged y i (inl small) = (each_right (λ entry. entry.0 < S.limit) logged ((nf, y) ∷ []) small).0
    flight_small logged y i (inr room) = omega (arith, i.stands.next_flight_lem, i.risen, i.long, length-append i.base i.more, ap length i.split)

    begin_small : (p : Pass S) (v : Writer S) (x : Record) (y r : Bool) (rows : List Record) (m : Bool)
        → Good S L G past now (with_writer S (shaped S L true None None r rows m v) p)
        → Why S L G past now (p.logged ++ taken_record S y r x (shaped S L true None None r rows m v)) → y ≡ true → r ≡ false → v.next_flight < S.limit
    begin_small p v x y true rows m h why hy hr = absurd (false≢true (sym hr))
    begin_small p v x false false rows m h why hy hr = absurd (false≢true hy)
    begin_small p v x true false rows m h why hy hr = flight_small p.logged (stored S (begun S x v).assembler x) h.inv (rw (L.joins_own x) at why)

    -- a record leaves the queue
    one_keeps : (p : Pass S) (v : Writer S) (x : Record) (queue : List Record) (wd writable : Bool) (waiting ready : Option Page) (r : Bool)
        (rows : List Record) (m : Bool)
        → writable ≡ true → waiting ≡ None → ready ≡ None
        → p.queue ≡ x ∷ queue → Good S L G past now (with_writer S (shaped S L writable waiting ready r rows m v) p)
        → Why S L G past now (take_one S wd x queue (with_writer S (shaped S L writable waiting ready r rows m v) p)).logged
        → Good S L G past now (take_one S wd x queue (with_writer S (shaped S L writable waiting ready r rows m v) p))
    one_keeps p v x queue wd false waiting ready r rows m e₁ e₂ e₃ q h why = absurd (false≢true e₁)
    one_keeps p v x queue wd true (Some page) ready r rows m e₁ e₂ e₃ q h why = absurd (none_some e₂ refl)
    one_keeps p v x queue wd true None (Some page) r rows m e₁ e₂ e₃ q h why = absurd (none_some e₃ refl)
    one_keeps p v x queue wd true None None r rows m e₁ e₂ e₃ q h why = record { inv = k.inv; sane = k.sane; fits = fits.1; small = k.small }
      where
        fits : Each S.Fits (x ∷ queue)
        fits = rw q at h.fits

        k : Good S L G past now
            (with_logged S L (p.logged ++ taken_record S (logs S wd x) r x (shaped S L true None None r rows m v))
            (with_writer S (taken S (logs S wd x) r x (shaped S L true None None r rows m v)) p))
        k = take_keeps S L G past now p v x (logs S wd x) r rows m h fits.0 (begin_small p v x (logs S wd x) r rows m h why)

    -- the turns of drain
    module _ (wd : Bool) (k : Pass S → Pass S) (grows : (p : Pass S) → Appends p (k p))
        (ih : (p : Pass S) → p.writer.writable ≡ true → Good S L G past now p → Undecoded S (k p).unfinished → Why S L G past now (k p).logged
        → Keeps S L G past now p (k p))
      where
        why_before : (p : Pass S) → Why S L G past now (k p).logged → Why S L G past now p.logged
        why_before p (inl small) = inl (each_left (λ entry. entry.0 < S.limit) p.logged (grows p).0 (rw (grows p).1 at small))
        why_before p (inr room) = inr room

        next_keeps : (queue : List Record) (p : Pass S) → p.queue ≡ queue → Clear S L G past now p.writer → Good S L G past now p
            → Undecoded S (onward S k (take_next S wd queue p)).unfinished → Why S L G past now (onward S k (take_next S wd queue p)).logged
            → Keeps S L G past now p (onward S k (take_next S wd queue p))
        next_keeps [] p e c h un why = keeps_none S L G past now h
        next_keeps (x ∷ queue) p e c h un why =
            record { good = later.good; adds = later.adds; tears = tears_then S L refl (take_tears wd x queue p) later.tears }
          where
            first : Good S L G past now (take_one S wd x queue p)
            first =
                one_keeps p p.writer x queue wd p.writer.writable p.writer.waiting p.writer.assembler.ready
                p.writer.assembler.recording p.writer.assembler.rows p.writer.assembler.mark_pending
                c.0 c.1 c.2 e h (why_before (take_one S wd x queue p) why)

            later : Keeps S L G past now (take_one S wd x queue p) (k (take_one S wd x queue p))
            later = ih (take_one S wd x queue p) (taken_writable (logs S wd x) p.writer.assembler.recording x p.writer ∙ c.0) first un why

        after_keeps : (p : Pass S) (t : Step S) → StepKeeps S L G past now p t → Undecoded S (onward S k (after_put S wd t)).unfinished
            → Why S L G past now (onward S k (after_put S wd t)).logged → Keeps S L G past now p (onward S k (after_put S wd t))
        after_keeps p (ends q) a un why = a un
        after_keeps p (goes_on q) a un why = keeps_then S L G past now a.3 a.0 (next_keeps q.queue q refl a.1 a.0.good un why)

    open_keeps : (p : Pass S) (v : Writer S) (writable : Bool) (waiting ready : Option Page) (r : Bool) (rows : List Record) (m : Bool)
        → writable ≡ true → Good S L G past now (with_writer S (shaped S L writable waiting ready r rows m v) p)
        → StepKeeps S L G past now (with_writer S (shaped S L writable waiting ready r rows m v) p)
        (put_page S (with_writer S (shaped S L writable waiting ready r rows m v) p))
    open_keeps p v true waiting ready r rows m w h = put_keeps S L G past now p v waiting ready r rows m h
    open_keeps p v false waiting ready r rows m w h = absurd (false≢true w)

    turns_keep : (wd : Bool) (limit : ℕ) (p : Pass S) → p.writer.writable ≡ true → Good S L G past now p
        → Undecoded S (turns S wd limit p).unfinished → Why S L G past now (turns S wd limit p).logged
        → Keeps S L G past now p (turns S wd limit p)
    turns_keep wd zero p w h un why = keeps_none S L G past now h
    turns_keep wd (suc limit) p w h un why =
        after_keeps wd (λ q. turns S wd limit q) (λ q. turns_append wd limit q) (λ q w h un why. turns_keep wd limit q w h un why) p (put_page S p)
        (open_keeps p p.writer p.writer.writable p.writer.waiting p.writer.assembler.ready p.writer.assembler.recording
        p.writer.assembler.rows p.writer.assembler.mark_pending w h)
        un why

    -- a flight ends on an empty queue
    stop_keeps : (p : Pass S) (v : Writer S) (waiting ready : Option Page) (rows : List Record) (m : Bool)
        → Good S L G past now (with_writer S (shaped S L true waiting ready true rows m v) p)
        → Good S L G past now
        (with_writer S
        (with_assembler S (stopped S (shaped S L true waiting ready true rows m v).assembler) (shaped S L true waiting ready true rows m v)) p)
    stop_keeps p v (Some page) ready rows m h =
        let e = h.sane.1 in
        rw e (record { inv = keep_stop_held S L G h.inv; sane = (h.sane.0, refl, h.sane.2); fits = h.fits; small = h.small })
    stop_keeps p v None (Some page) rows m h =
        let e = h.sane.0 in rw e (record { inv = keep_stop_held S L G h.inv; sane = (refl, h.sane.1); fits = h.fits; small = h.small })
    stop_keeps p v None None [] m h =
        record {
          inv = keep_stop S L G h.inv v.assembler.flight v.assembler.sequence v.assembler.edition [] h.inv.stands.0 h.inv.stands.1;
          sane = (refl, h.sane);
          fits = h.fits;
          small = h.small;
        }
    stop_keeps p v None None (x ∷ rows) m h =
        record {
          inv =
              keep_stop S L G h.inv v.assembler.flight v.assembler.sequence v.assembler.edition (x ∷ rows) h.inv.stands.0
              h.inv.stands.1;
          sane = (refl, h.sane);
          fits = h.fits;
          small = h.small;
        }

    empty_keeps : (p : Pass S) (v : Writer S) (waiting ready : Option Page) (r : Bool) (rows : List Record) (m wd armed : Bool)
        → Good S L G past now (with_writer S (shaped S L true waiting ready r rows m v) p)
        → Keeps S L G past now (with_writer S (shaped S L true waiting ready r rows m v) p)
        (on_empty_queue S wd armed (with_writer S (shaped S L true waiting ready r rows m v) p))
    empty_keeps p v waiting ready r rows m true armed h = keeps_none S L G past now h
    empty_keeps p v waiting ready r rows m false true h = keeps_none S L G past now h
    empty_keeps p v waiting ready false rows m false false h = keeps_none S L G past now h
    empty_keeps p v waiting ready true rows m false false h =
        record {
          good = stop_keeps p v waiting ready rows m h;
          adds = adds_none S L p.log;
          tears =
              tears_as S L (with_writer S (shaped S L true waiting ready true rows m v) p)
              (on_empty_queue S false false (with_writer S (shaped S L true waiting ready true rows m v) p)) refl refl refl (λ a. a) (λ a. a);
        }

    -- drain
    drain_by : (order : Order Mask) (p : Pass S) (v : Writer S) (writable : Bool) (waiting ready : Option Page) (r : Bool)
        (rows : List Record) (m : Bool) (queue : List Record)
        → Good S L G past now (with_queue S queue (with_writer S (shaped S L writable waiting ready r rows m v) p))
        → Undecoded S (drain S order (with_queue S queue (with_writer S (shaped S L writable waiting ready r rows m v) p))).unfinished
        → Why S L G past now (drain S order (with_queue S queue (with_writer S (shaped S L writable waiting ready r rows m v) p))).logged
        → Keeps S L G past now (with_queue S queue (with_writer S (shaped S L writable waiting ready r rows m v) p))
        (drain S order (with_queue S queue (with_writer S (shaped S L writable waiting ready r rows m v) p)))
    drain_by order p v false waiting ready r rows m [] h un why = keeps_none S L G past now h
    drain_by order p v false waiting ready r rows m (x ∷ queue) h un why =
        record {
          good = record { inv = h.inv; sane = h.sane; fits = h.fits.1; small = h.small };
          adds = adds_none S L p.log;
          tears =
              tears_as S L (with_queue S (x ∷ queue) (with_writer S (shaped S L false waiting ready r rows m v) p))
              (with_queue S queue (with_writer S (shaped S L false waiting ready r rows m v) p)) refl refl refl (λ a. a) (λ a. a);
        }
    drain_by order p v true waiting ready r rows m [] h un why = empty_keeps (with_queue S [] p) v waiting ready r rows m order.while_disarmed order.armed h
    drain_by order p v true waiting ready r rows m (x ∷ queue) h un why =
        turns_keep order.while_disarmed order.limit (with_queue S (x ∷ queue) (with_writer S (shaped S L true waiting ready r rows m v) p)) refl h un why

    pub drain_keeps : (order : Order Mask) (p : Pass S) → Good S L G past now p → Undecoded S (drain S order p).unfinished
        → Why S L G past now (drain S order p).logged → Keeps S L G past now p (drain S order p)
    drain_keeps order p h un why =
        drain_by order p p.writer p.writer.writable p.writer.waiting p.writer.assembler.ready
        p.writer.assembler.recording p.writer.assembler.rows p.writer.assembler.mark_pending p.queue h un why

    -- write_pending
    ended_keeps : (p : Pass S) (t : Step S) → StepKeeps S L G past now p t → Undecoded S (ended_with S t).unfinished → Keeps S L G past now p (ended_with S t)
    ended_keeps p (goes_on q) a un = a.0
    ended_keeps p (ends q) a un = a un

    write_by : (p : Pass S) (v : Writer S) (writable : Bool) (waiting ready : Option Page) (r : Bool) (rows : List Record) (m : Bool)
        → Good S L G past now (with_writer S (shaped S L writable waiting ready r rows m v) p)
        → Undecoded S (write_pending S (with_writer S (shaped S L writable waiting ready r rows m v) p)).unfinished
        → Keeps S L G past now (with_writer S (shaped S L writable waiting ready r rows m v) p)
        (write_pending S (with_writer S (shaped S L writable waiting ready r rows m v) p))
    write_by p v false None ready r rows m h = λ un. keeps_none S L G past now h
    write_by p v false (Some page) ready r rows m h = absurd (none_some h.sane refl)
    write_by p v true None None r rows m h = λ un. keeps_none S L G past now h
    write_by p v true None (Some page) r rows m h =
        let e = h.sane.0 in
        rw e
        (λ un. ended_keeps (with_writer S (shaped S L true None (Some page) r [] m v) p)
        (program_if_room S (unasked S p.succeed p.next) p.next page (with_writer S (shaped S L true (Some page) None r [] m v) p))
        (step_as S L G past now (with_writer S (shaped S L true None (Some page) r [] m v) p) (with_writer S (shaped S L true (Some page) None r [] m v) p)
        (program_if_room S (unasked S p.succeed p.next) p.next page (with_writer S (shaped S L true (Some page) None r [] m v) p)) refl refl refl
        (fetch_tears S L G past now p v page r [] m)
        (room_keeps S L G past now p v page r m h.sane.1 h.inv h.fits h.small (unasked S p.succeed p.next) p.next)) un)
    write_by p v true (Some page) ready r rows m h =
        let e = h.sane.0 in
        let d = h.sane.1 in
        rw (e, d)
        (λ un. ended_keeps (with_writer S (shaped S L true (Some page) None r [] m v) p)
        (program_if_room S (unasked S p.succeed p.next) p.next page (with_writer S (shaped S L true (Some page) None r [] m v) p))
        (room_keeps S L G past now p v page r m h.sane.2 h.inv h.fits h.small (unasked S p.succeed p.next) p.next) un)

    pub write_keeps : (p : Pass S) → Good S L G past now p → Undecoded S (write_pending S p).unfinished → Keeps S L G past now p (write_pending S p)
    write_keeps p h un =
        write_by p p.writer p.writer.writable p.writer.waiting p.writer.assembler.ready p.writer.assembler.recording
        p.writer.assembler.rows p.writer.assembler.mark_pending h un

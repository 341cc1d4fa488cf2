-- What a power-on logged is what left the queue on a log that may be written, call by call; and what follows for two boards. Assumes nothing.
use Prim.Native.Nat.{ℕ, zero, suc, ◌+◌, ◌≤◌}
use mathlib.Core.Path.{◌≡◌, refl, sym, ap, ◌∙◌, subst}
use mathlib.Core.Bool.{Bool, true, false, cond, false≢true}
use Rattle.std.specs.Prelude.{Option, None, Some}
use mathlib.Core.Logic.{◌⊎◌, inl, inr}
use mathlib.Core.List.{List, [], ◌∷◌, ◌++◌, append_assoc, append-nil}
use native.Mathlib.Omega.{arith}
use lib.ListN.{length, length-append}
use Rattle.power.specs.Pages.{PageStore, Each}
use Rattle.power.specs.Lawful.{Lawful}
use Rattle.power.specs.Writer.{Writer, with_assembler, stopped}
use Rattle.power.specs.Calls.{Order, Next, Pass, Step, goes_on, ends, program_if_room, put_page, take_one, take_next, after_put, onward, turns, with_writer}
use Rattle.power.specs.Calls.{logs, ends_flight, with_queue, drop_one, drain_writable, drain, fetched, fetched_if_writable, unasked, ended_with, write_one, write_pending}
use Rattle.power.specs.Life.{ordered, Device, Call, offers, drains, writes, powers, begin, call, lives, unpowered, history}
use Rattle.power.specs.Reports.{records_in, edition_if, logs_one, logged_ones, mark_first, LoggedExactly}
use Rattle.power.specs.Segments.{filled}
use Rattle.power.specs.Boards.{Behind, Near, NearAll, Aligned, at_end, seen, each_seen}
use Rattle.power.specs.Offers.{accepted_from, SettingIs, OffersOf, loggable, logged_of}
use Rattle.power.specs.Offers.{NearStreams, Within, LoggedBut, AllLoggedBut, LoggedWithin, unflown}
use Rattle.power.proofs.Puts.{StepFacts, fetching_alike, room_facts, put_facts, drain_on, drain_off}
use Rattle.power.proofs.Passes.{each_left, both_ways}
use Rattle.power.proofs.Counted.{write_logs_nothing}
use Rattle.power.proofs.Logged.{unmarked, records_in_append, drain_logs}
use Rattle.power.proofs.Marked.{WellDevice, OffersAre, well_lives, well_unpowered}
use Rattle.power.proofs.Aligned.{near_fronts, put_both}

module _ {Page Record Mask : Type 0} (S : PageStore Page Record Mask) (L : Lawful S) where
  -- ---- once the power went the writer may not write
  module _ (wd : Bool) (k : Pass S → Pass S) (ih : (p : Pass S) → p.power_gone ≡ false → (k p).power_gone ≡ true → (k p).writer.writable ≡ false) where
    gone_next : (queue : List Record) (q : Pass S) → q.power_gone ≡ false → (onward S k (take_next S wd queue q)).power_gone ≡ true
        → (onward S k (take_next S wd queue q)).writer.writable ≡ false
    gone_next [] q g h = absurd (false≢true (sym g ∙ h))
    gone_next (x ∷ queue) q g h = ih (take_one S wd x queue q) g h

    gone_step : (p : Pass S) → p.power_gone ≡ false → (t : Step S) → StepFacts S p.succeed p t → (onward S k (after_put S wd t)).power_gone ≡ true
        → (onward S k (after_put S wd t)).writer.writable ≡ false
    gone_step p g (ends q) f h = go (f.gone h)
      where
        go : (p.power_gone ≡ true) ⊎ ((p.succeed ≡ 0) × (q.queue ≡ []) × (q.writer.writable ≡ false)) → q.writer.writable ≡ false
        go (inl a) = absurd (false≢true (sym g ∙ a))
        go (inr a) = a.2
    gone_step p g (goes_on q) f h = gone_next q.queue q (f.power_gone ∙ g) h

  gone_turns : (wd : Bool) (limit : ℕ) (p : Pass S) → p.power_gone ≡ false → (turns S wd limit p).power_gone ≡ true
      → (turns S wd limit p).writer.writable ≡ false
  gone_turns wd zero p g h = absurd (false≢true (sym g ∙ h))
  gone_turns wd (suc limit) p g h = gone_step wd (λ q. turns S wd limit q) (λ q a b. gone_turns wd limit q a b) p g (put_page S p) (put_facts S p) h

  gone_drain : (order : Order Mask) (p : Pass S) → p.power_gone ≡ false → p.writer.writable ≡ true
      → (drain S order p).power_gone ≡ true → (drain S order p).writer.writable ≡ false
  gone_drain order p g on =
      subst (λ (q : Pass S). q.power_gone ≡ true → q.writer.writable ≡ false) (sym (drain_on S order p on)) (go p.queue)
    where
      go : (queue : List Record) → (drain_writable S order queue p).power_gone ≡ true → (drain_writable S order queue p).writer.writable ≡ false
      go [] =
          both_ways (λ (q : Pass S). q.power_gone ≡ true → q.writer.writable ≡ false) (ends_flight S order.while_disarmed order.armed p.writer.assembler.recording)
          (with_writer S (with_assembler S (stopped S p.writer.assembler) p.writer) p) p (λ h. absurd (false≢true (sym g ∙ h)))
          (λ h. absurd (false≢true (sym g ∙ h)))
      go (x ∷ queue) = gone_turns order.while_disarmed order.limit p g

  -- ---- write_pending leaves the queue alone, or the power went
  record Quiet (p q : Pass S) : Type 0 where
    queue : q.writer.writable ≡ true → q.queue ≡ p.queue
    writable : q.writer.writable ≡ true → p.writer.writable ≡ true

  quiet_one : (o : Option Page) (p : Pass S) → p.power_gone ≡ false → Quiet p (write_one S o p)
  quiet_one None p g = record { queue = λ h. refl; writable = λ h. h }
  quiet_one (Some page) p g =
      go (program_if_room S (unasked S p.succeed p.next) p.next page p) (room_facts S (unasked S p.succeed p.next) p.next page p)
    where
      go : (t : Step S) → StepFacts S (unasked S p.succeed p.next) p t → Quiet p (ended_with S t)
      go (goes_on q) f = record { queue = λ h. f.queue; writable = λ h. sym f.writable ∙ h }
      go (ends q) f = record { queue = λ h. by h q.power_gone refl; writable = f.writable }
        where
          dead : q.writer.writable ≡ true
              → (p.power_gone ≡ true) ⊎ ((unasked S p.succeed p.next ≡ 0) × (q.queue ≡ []) × (q.writer.writable ≡ false))
              → q.queue ≡ p.queue
          dead h (inl a) = absurd (false≢true (sym g ∙ a))
          dead h (inr a) = absurd (false≢true (sym a.2 ∙ h))

          by : q.writer.writable ≡ true → (b : Bool) → q.power_gone ≡ b → q.queue ≡ p.queue
          by h false e = (f.alive e).0
          by h true e = dead h (f.gone e)

  quiet_write : (d : Device S) (g : ℕ) (z : Next Mask) → Quiet (begin S d g z) (write_pending S (begin S d g z))
  quiet_write d g z =
      let k = quiet_one (fetched_if_writable S d.writer).waiting (with_writer S (fetched_if_writable S d.writer) (begin S d g z)) refl in
      record { queue = k.queue; writable = λ h. same (k.writable h) }
    where
      same : (fetched_if_writable S d.writer).writable ≡ true → d.writer.writable ≡ true
      same =
          both_ways (λ (v : Writer S). v.writable ≡ true → d.writer.writable ≡ true) d.writer.writable (fetched S d.writer) d.writer
          (λ h. sym (fetching_alike S d.writer.waiting d.writer).writable ∙ h) (λ h. h)

  -- ---- lists
  ones_append : (wd : Bool) (xs ys : List Record) → loggable S wd (xs ++ ys) ≡ loggable S wd xs ++ loggable S wd ys
  ones_append wd [] ys = refl
  ones_append wd (x ∷ xs) ys = go (ones_append wd xs ys) (logs S wd x)
    where
      go : loggable S wd (xs ++ ys) ≡ loggable S wd xs ++ loggable S wd ys → (b : Bool)
          → cond b (x ∷ loggable S wd (xs ++ ys)) (loggable S wd (xs ++ ys))
          ≡ cond b (x ∷ loggable S wd xs) (loggable S wd xs) ++ loggable S wd ys
      go e true = ap {B = List Record} (λ l. x ∷ l) e
      go e false = e

  ones_few : (wd : Bool) (xs : List Record) → length (loggable S wd xs) ≤ length xs
  ones_few wd [] = omega arith
  ones_few wd (x ∷ xs) = go (logs S wd x) (ones_few wd xs)
    where
      go : (b : Bool) → length (loggable S wd xs) ≤ length xs → length (cond b (x ∷ loggable S wd xs) (loggable S wd xs)) ≤ suc (length xs)
      go true h = omega arith
      go false h = omega arith

  -- the mark is on the first, be it among these or among those that follow
  mark_append : (xs ys : List Record) (due : Bool) → (due ≡ true → xs ≡ []) → (due ≡ false → ¬ (xs ≡ [])) → mark_first S true xs ++ mark_first S due ys
      ≡ mark_first S true (xs ++ ys)
  mark_append [] ys true h k = refl
  mark_append [] ys false h k = absurd (k refl refl)
  mark_append (x ∷ xs) ys true h k = absurd (omega (arith, ap length (h refl)))
  mark_append (x ∷ xs) ys false h k = ap (λ (l : List Record). S.marked x ∷ (xs ++ l)) (unmarked S L ys)

  mark_none : (xs : List Record) → mark_first S true xs ≡ [] → xs ≡ []
  mark_none [] h = refl
  mark_none (x ∷ xs) h = absurd (omega (arith, ap length h))

  in_none : (l : List (ℕ × Record)) → records_in S l ≡ [] → l ≡ []
  in_none [] h = refl
  in_none (x ∷ l) h = absurd (omega (arith, ap length h))

  -- ---- a life

  module _ (e : S.Edition) where
    -- a record of the edition
    abbrev Of : Record → Type 0
    Of r = S.edition r ≡ e

    of_marked : (r : Record) → Of r → Of (S.marked r)
    of_marked r h = L.joins_is (S.edition r) (S.marked r) (L.joins_marked (S.edition r) r ∙ L.joins_own r) ∙ h

    of_own : (r : Record) → Of r → S.edition r ≡ e
    of_own r h = h

    abbrev WellD : Device S → Type 0
    WellD d = WellDevice S L Of Of (λ x. x ≡ e) of_marked of_own d

    offers_are : (life : List (Call S)) → OffersOf S e life → OffersAre S L Of Of (λ x. x ≡ e) of_marked of_own life
    offers_are [] h = tt
    offers_are (offers r ∷ life) h = (h.0, offers_are life h.1)
    offers_are (drains order ∷ life) h = offers_are life h
    offers_are (writes g z ∷ life) h = offers_are life h
    offers_are (powers ∷ life) h = offers_are life h

    well_call : (c : Call S) (d : Device S) → OffersOf S e (c ∷ []) → WellD d → WellD (call S c d)
    well_call c d o h = well_lives S L Of Of (λ x. x ≡ e) of_marked of_own (c ∷ []) d (offers_are (c ∷ []) o) h

    -- what is logged of records of the edition, if a flight that is recorded is of it: nothing is refused
    pub ones_loggable : (wd recording : Bool) (f : S.Edition) → (recording ≡ true → f ≡ e) → (xs : List Record) → Each Of xs
        → logged_ones S wd (edition_if S recording f) xs ≡ loggable S wd xs
    ones_loggable wd recording f h [] a = refl
    ones_loggable wd recording f h (x ∷ xs) a = go (λ b g k. ones_loggable wd b g k xs a.1) recording (logs S wd x) h
      where
        joins : (g : S.Edition) → g ≡ e → S.joins g x ≡ true
        joins g k = ap (λ (y : S.Edition). S.joins y x) (k ∙ sym a.0) ∙ L.joins_own x

        go : ((b : Bool) (g : S.Edition) → (b ≡ true → g ≡ e) → logged_ones S wd (edition_if S b g) xs ≡ loggable S wd xs) → (b y : Bool)
            → (b ≡ true → f ≡ e)
            → logs_one S y (edition_if S b f) x (λ after. logged_ones S wd after xs) ≡ cond y (x ∷ loggable S wd xs) (loggable S wd xs)
        go later true true k = rw (joins f (k refl)) (ap {B = List Record} (λ l. x ∷ l) (later true f k))
        go later false true k = ap {B = List Record} (λ l. x ∷ l) (later true (S.edition x) (λ z. a.0))
        go later true false k = later false f (λ z. absurd (false≢true z))
        go later false false k = later false f (λ z. absurd (false≢true z))

  within_here : (room : ℕ) (life : List (Call S)) (d : Device S) → Within S room life d → length d.queue ≤ room
  within_here room [] d h = h
  within_here room (c ∷ life) d h = h.0

  module _ (ed : S.Edition) (room : ℕ) (wd : Bool) where
    -- how a device stands to what its queue took in the power-on
    record Hears (took : List Record) (d : Device S) : Type 0 where
      left : List Record
      rest : List Record
      split : took ≡ left ++ rest
      exactly : records_in S d.now ≡ logged_of S wd left
      waits : d.writer.writable ≡ true → rest ≡ d.queue
      few : length rest ≤ room

    hears_offer : (took : List Record) (r : Record) (d : Device S) → d.writer.writable ≡ true → length (d.queue ++ r ∷ []) ≤ room
        → Hears took d → Hears (took ++ r ∷ []) (call S (offers r) d)
    hears_offer took r d on b h =
        record {
          left = h.left;
          rest = h.rest ++ r ∷ [];
          split = ap (λ (l : List Record). l ++ r ∷ []) h.split ∙ append_assoc h.left h.rest (r ∷ []);
          exactly = h.exactly;
          waits = λ w. ap (λ (l : List Record). l ++ r ∷ []) (h.waits w);
          few = rw (h.waits on) b;
        }

    hears_drain : (took : List Record) (order : Order Mask) (d : Device S) → order.while_disarmed ≡ wd → length d.queue ≤ room → WellD ed d
        → Hears took d → Hears took (call S (drains order) d)
    hears_drain took order d is b w h = by d.writer.writable refl
      where
        p : Pass S
        p = drain S order (ordered S d order)

        off : d.writer.writable ≡ false → p ≡ with_queue S (drop_one S d.queue) (ordered S d order)
        off e = drain_off S order (ordered S d order) e

        by : (b : Bool) → d.writer.writable ≡ b → Hears took (call S (drains order) d)
        by false e =
            record {
              left = h.left;
              rest = h.rest;
              split = h.split;
              exactly =
                  ap (λ (q : Pass S). records_in S (d.now ++ q.logged)) (off e)
                  ∙ ap (records_in S) (append-nil d.now) ∙ h.exactly;
              waits = λ a. absurd (false≢true (sym e ∙ sym (ap (λ (q : Pass S). q.writer.writable) (off e)) ∙ a));
              few = h.few;
            }
        by true e =
            record {
              left = h.left ++ x.left;
              rest = x.rest;
              split =
                  h.split ∙ ap (λ (l : List Record). h.left ++ l) (h.waits e ∙ x.queue) ∙ sym (append_assoc h.left x.left x.rest);
              exactly =
                  records_in_append S L d.now p.logged
                  ∙ ap (λ (l : List Record). l ++ records_in S p.logged) h.exactly
                  ∙ ap (λ (l : List Record). logged_of S wd h.left ++ l) logged
                  ∙ mark_append (loggable S wd h.left) (loggable S wd x.left) d.writer.mark_due none_yet some_yet
                  ∙ ap (mark_first S true) (sym (ones_append wd h.left x.left));
              waits = λ a. sym (x.alive (on a p.power_gone refl));
              few = omega (arith, b, ap length x.queue, length-append x.left x.rest);
            }
          where
            x : LoggedExactly S wd (ordered S d order) p
            x = subst (λ (b : Bool). LoggedExactly S b (ordered S d order) p) is (drain_logs S L d order e w.due.settled)

            -- what left the queue is of the edition
            of_left : Each (Of ed) x.left
            of_left = each_left (Of ed) x.left x.rest (subst (Each (Of ed)) x.queue w.queue)

            logged : records_in S p.logged ≡ mark_first S d.writer.mark_due (loggable S wd x.left)
            logged =
                x.logged
                ∙ ap (mark_first S d.writer.mark_due)
                (ones_loggable ed wd d.writer.assembler.recording d.writer.assembler.edition w.due.edition x.left of_left)

            on : p.writer.writable ≡ true → (b : Bool) → p.power_gone ≡ b → p.power_gone ≡ false
            on a true q = absurd (false≢true (sym (gone_drain order (ordered S d order) refl e q) ∙ a))
            on a false q = q

            none_yet : d.writer.mark_due ≡ true → loggable S wd h.left ≡ []
            none_yet a = mark_none (loggable S wd h.left) (sym h.exactly ∙ ap (records_in S) (w.due.due e a))

            some_yet : d.writer.mark_due ≡ false → ¬ (loggable S wd h.left ≡ [])
            some_yet a q = w.due.done a (in_none d.now (h.exactly ∙ ap (mark_first S true) q))

    hears_write : (took : List Record) (g : ℕ) (z : Next Mask) (d : Device S) → Hears took d → Hears took (call S (writes g z) d)
    hears_write took g z d h =
        let k = quiet_write d g z in
        record {
          left = h.left;
          rest = h.rest;
          split = h.split;
          exactly = ap (λ (l : List (ℕ × Record)). records_in S (d.now ++ l)) (write_logs_nothing S d g z) ∙ ap (records_in S) (append-nil d.now) ∙ h.exactly;
          waits = λ a. h.waits (k.writable a) ∙ sym (k.queue a);
          few = h.few;
        }

    hears_power : (d : Device S) → Hears [] (call S powers d)
    hears_power d = record { left = []; rest = []; split = refl; exactly = refl; waits = λ a. refl; few = omega arith }

    heard : (took : List Record) (d : Device S) → Hears took d → LoggedBut S room wd took d.now
    heard took d h = record { from = record { left = h.left; rest = h.rest; split = h.split; exactly = h.exactly }; few = h.few }

    all_more : (tooks : List (List Record)) (hist : List (List (ℕ × Record))) (took : List Record) (logged : List (ℕ × Record)) → AllLoggedBut S room wd tooks hist
        → LoggedBut S room wd took logged → AllLoggedBut S room wd (tooks ++ took ∷ []) (hist ++ logged ∷ [])
    all_more [] [] took logged h k = (k, tt)
    all_more [] (x ∷ hist) took logged h k = absurd h
    all_more (t ∷ tooks) [] took logged h k = absurd h
    all_more (t ∷ tooks) (x ∷ hist) took logged h k = (h.0, all_more tooks hist took logged h.1 k)

    -- after a life: the power-ons that were over before it, and those of the life
    heard_lives : (life : List (Call S)) (tooks : List (List Record)) (took : List Record) (d : Device S) → OffersOf S ed life → SettingIs S wd life
        → Within S room life d → WellD ed d → AllLoggedBut S room wd tooks d.past → Hears took d
        → AllLoggedBut S room wd (tooks ++ accepted_from S took life) (history S (lives S life d))
    heard_lives [] tooks took d o s b w p h = all_more tooks d.past took d.now p (heard took d h)
    heard_lives (offers r ∷ life) tooks took d o s b w p h =
        heard_lives life tooks (took ++ r ∷ []) (call S (offers r) d) o.1 s b.2 (well_call ed (offers r) d (o.0, tt) w) p
        (hears_offer took r d b.1 (within_here room life (call S (offers r) d) b.2) h)
    heard_lives (drains order ∷ life) tooks took d o s b w p h =
        heard_lives life tooks took (call S (drains order) d) o s.1 b.2 (well_call ed (drains order) d tt w) p
        (hears_drain took order d s.0 b.0 w h)
    heard_lives (writes g z ∷ life) tooks took d o s b w p h =
        heard_lives life tooks took (call S (writes g z) d) o s b.2 (well_call ed (writes g z) d tt w) p (hears_write took g z d h)
    heard_lives (powers ∷ life) tooks took d o s b w p h =
        subst (λ (l : List (List Record)). AllLoggedBut S room wd l (history S (lives S life (call S powers d))))
        (append_assoc tooks (took ∷ []) (accepted_from S [] life))
        (heard_lives life (tooks ++ took ∷ []) [] (call S powers d) o s b.2 (well_call ed powers d tt w)
        (all_more tooks d.past took d.now p (heard took d h)) (hears_power d))

  pub logged_within : LoggedWithin S
  logged_within e room wd log life o s b =
      heard_lives e room wd life [] [] (unpowered S log) o s b (well_unpowered S L (Of e) (Of e) (λ x. x ≡ e) (of_marked e) (of_own e) log) tt
      (record { left = []; rest = []; split = refl; exactly = refl; waits = λ a. refl; few = omega arith })

  -- ---- two boards

  mark_more : (xs ys : List Record) → (more : List Record) × (mark_first S true (xs ++ ys) ≡ mark_first S true xs ++ more) × (length more ≤ length ys)
  mark_more [] [] = ([], refl, omega arith)
  mark_more [] (y ∷ ys) = (S.marked y ∷ ys, refl, omega arith)
  mark_more (x ∷ xs) ys = (ys, refl, omega arith)

  of_more : (wd : Bool) (xs ys : List Record) → (more : List Record) × (logged_of S wd (xs ++ ys) ≡ logged_of S wd xs ++ more) × (length more ≤ length ys)
  of_more wd xs ys =
      let m = mark_more (loggable S wd xs) (loggable S wd ys) in
      (m.0, ap (mark_first S true) (ones_append wd xs ys) ∙ m.1, omega (arith, m.2, ones_few wd ys))

  of_behind : (wd : Bool) (n : ℕ) (xs ys : List Record) → Behind n xs ys → Behind n (logged_of S wd xs) (logged_of S wd ys)
  of_behind wd n xs ys h =
      let m = of_more wd xs h.more in
      record { more = m.0; few = omega (arith, m.2, h.few); all = ap (logged_of S wd) h.all ∙ m.1 }

  of_near : (wd : Bool) (n : ℕ) (xs ys : List Record) → Near n xs ys → Near n (logged_of S wd xs) (logged_of S wd ys)
  of_near wd n xs ys (inl h) = inl (of_behind wd n xs ys h)
  of_near wd n xs ys (inr h) = inr (of_behind wd n ys xs h)

  pub near_streams : NearStreams S
  near_streams wd n room taken taken' logged logged' h h' k k' near =
      rw (h.exactly, h'.exactly)
      (of_near wd (n + room) h.left h'.left
      (near_fronts n room taken h.left h.rest taken' h'.left h'.rest h.split h'.split k k' near))

  -- ---- from what two boards took to their logs

  seen_records : (l : List (ℕ × Record)) → seen (unflown S) l ≡ records_in S l
  seen_records [] = refl
  seen_records (e ∷ l) = ap {B = List Record} (λ x. e.1 ∷ x) (seen_records l)

  pub streams_aligned : (n room : ℕ) (wd shut_left shut_right : Bool) (tooks tooks' : List (List Record)) (hist hist' : List (List (ℕ × Record)))
      → AllLoggedBut S room wd tooks hist → AllLoggedBut S room wd tooks' hist' → NearAll n tooks tooks'
      → Aligned (n + room) shut_left shut_right (filled (each_seen (unflown S) hist)) (filled (each_seen (unflown S) hist'))
  streams_aligned n room wd l r [] [] [] [] h h' near = at_end
  streams_aligned n room wd l r [] [] [] (x' ∷ hist') h h' near = absurd h'
  streams_aligned n room wd l r [] [] (x ∷ hist) hist' h h' near = absurd h
  streams_aligned n room wd l r [] (t' ∷ tooks') hist hist' h h' near = absurd near
  streams_aligned n room wd l r (t ∷ tooks) [] hist hist' h h' near = absurd near
  streams_aligned n room wd l r (t ∷ tooks) (t' ∷ tooks') [] hist' h h' near = absurd h
  streams_aligned n room wd l r (t ∷ tooks) (t' ∷ tooks') (x ∷ hist) [] h h' near = absurd h'
  streams_aligned n room wd l r (t ∷ tooks) (t' ∷ tooks') (x ∷ hist) (x' ∷ hist') h h' near =
      put_both 0 (n + room) l r (seen (unflown S) x) (seen (unflown S) x') (each_seen (unflown S) hist) (each_seen (unflown S) hist')
      (rw (seen_records x, seen_records x')
      (near_streams wd n room t t' x x' h.0.from h'.0.from h.0.few h'.0.few near.0))
      (streams_aligned n room wd l r tooks tooks' hist hist' h.1 h'.1 near.1)

-- One step of a call keeps the invariant, and the log is only added to: the page that waits is programmed, a record is taken, a flight ends.
-- A flight that begins is below the limit, either because the life is assumed to have no other or because the log has room for few.
-- Assumes nothing.
use Prim.Native.Nat.{ℕ, zero, suc, ◌+◌, ◌≤◌, ◌<◌}
use mathlib.Core.Path.{◌≡◌, refl, ap, ◌∙◌, sym}
use mathlib.Core.Bool.{Bool, true, false, cond, false≢true}
use Rattle.std.specs.Prelude.{Option, None, Some}
use mathlib.Core.Logic.{◌⊎◌, inl, inr}
use mathlib.Core.List.{List, [], ◌∷◌, ◌++◌, append_assoc, append-nil}
use native.Mathlib.Decide.{ℕ_discrete}
use native.Mathlib.Omega.{arith}
use borrow.Author.Tests.{ltb-true}
use lib.Seq.{get_or-set_same, get_or-set_other}
use lib.Dec.{ltb}
use lib.ListN.{length}
use Rattle.power.specs.Reading.{Torn, page_at}
use Rattle.power.specs.Pages.{PageStore, Each, full}
use Rattle.power.specs.Lawful.{Lawful}
use Rattle.power.specs.Claims.{OnlyAdds}
use Rattle.power.specs.Writer.{Assembler, Writer, pushed, stored, with_assembler, begun, taken, taken_record}
use Rattle.power.specs.Calls.{Next, busy, fault, cut, Pass, Step, goes_on, ends, program, program_if_room, put_page, with_writer, programmed_at, programmed_cell}
use Rattle.power.specs.Life.{Undecoded}
use Rattle.power.proofs.Used.{none_some}
use Rattle.power.proofs.Invariant.{Ground, Phase, off, idle, filling, holding, Inv, settle}
use Rattle.power.proofs.Adds.{adds_none, adds_then}
use Rattle.power.proofs.TornCount.{Tears, tears_none, tears_then, tears_as}
use Rattle.power.proofs.Events.{wrote, pushed_phase, keep_written, keep_failed, keep_adds, keep_push, keep_stop, start_filling, keep_left_whole}
use Rattle.power.proofs.Events.{keep_torn_written, keep_torn_calm, keep_torn_failed, keep_torn_ends, keep_torn_left, keep_front}

pub each_left : {A : Type 0} (P : A → Type 0) (xs ys : List A) → Each P (xs ++ ys) → Each P xs
each_left P [] ys h = tt
each_left P (x ∷ xs) ys h = (h.0, each_left P xs ys h.1)

pub each_right : {A : Type 0} (P : A → Type 0) (xs ys : List A) → Each P (xs ++ ys) → Each P ys
each_right P [] ys h = h
each_right P (x ∷ xs) ys h = each_right P xs ys h.1

pub each_append : {A : Type 0} (P : A → Type 0) (xs ys : List A) → Each P xs → Each P ys → Each P (xs ++ ys)
each_append P [] ys h k = k
each_append P (x ∷ xs) ys h k = (h.0, each_append P xs ys h.1 k)

-- what holds of both ways of a test holds of it
pub both_ways : {A : Type 0} (P : A → Type 0) (b : Bool) (x y : A) → P x → P y → P (cond b x y)
both_ways P true x y h k = h
both_ways P false x y h k = k

module _ {Page Record Mask : Type 0} (S : PageStore Page Record Mask) (L : Lawful S) where
  -- the phase that a writer is in, by what decides it: writable, the page that waits, the page that is ready, whether it records
  abbrev pub phase_by : Bool → Option Page → Option Page → Bool → Assembler S → Phase S L
  phase_by false waiting ready r a = off
  phase_by true (Some page) ready r a = holding a.flight a.sequence a.edition r page
  phase_by true None (Some page) r a = holding a.flight a.sequence a.edition r page
  phase_by true None None true a = filling a.flight a.sequence a.edition a.rows
  phase_by true None None false a = idle

  abbrev pub phase_of : Writer S → Phase S L
  phase_of w = phase_by w.writable w.waiting w.assembler.ready w.assembler.recording w.assembler

  -- a page that waits or is ready means no rows, and no mark is pending between records
  abbrev pub SaneBy : Bool → Option Page → Option Page → Bool → List Record → Bool → Type 0
  SaneBy false waiting ready r rows m = waiting ≡ None
  SaneBy true (Some page) ready r rows m = (ready ≡ None) × (rows ≡ []) × (m ≡ false)
  SaneBy true None (Some page) r rows m = (rows ≡ []) × (m ≡ false)
  SaneBy true None None true rows m = m ≡ false
  SaneBy true None None false rows m = (rows ≡ []) × (m ≡ false)

  abbrev pub Sane : Writer S → Type 0
  Sane w = SaneBy w.writable w.waiting w.assembler.ready w.assembler.recording w.assembler.rows w.assembler.mark_pending

  -- the writer v with these in place of its own; every writer is itself with its own
  abbrev pub shaped : Bool → Option Page → Option Page → Bool → List Record → Bool → Writer S → Writer S
  shaped writable waiting ready r rows m v =
      record {
        assembler =
            record {
              rows = rows;
              flight = v.assembler.flight;
              sequence = v.assembler.sequence;
              recording = r;
              mark_pending = m;
              edition = v.assembler.edition;
              ready = ready;
            };
        waiting = waiting;
        next_page = v.next_page;
        next_flight = v.next_flight;
        writable = writable;
        mark_due = v.mark_due;
      }

  -- every flight of these records is below the limit
  abbrev pub Small : List (ℕ × Record) → Type 0
  Small logged = Each (λ entry. entry.0 < S.limit) logged

  wrote_phase : (r : Bool) (a : Assembler S) → a.rows ≡ [] → phase_by true None None r a ≡ wrote S L r a.flight a.sequence a.edition
  wrote_phase true a e = ap (filling a.flight a.sequence a.edition) e
  wrote_phase false a e = refl

  wrote_sane : (r m : Bool) → m ≡ false → SaneBy true None None r [] m
  wrote_sane true m h = h
  wrote_sane false m h = (refl, h)

  -- a record pushed into an assembler that records and has no page ready
  module _ (v : Writer S) (rows : List Record) (m : Bool) (y : Record) where
    abbrev pushing : Writer S
    pushing = shaped true None None true rows m v

    push_phase : phase_of (with_assembler S (pushed S y pushing.assembler) pushing) ≡ pushed_phase S L v.assembler.flight v.assembler.sequence
        v.assembler.edition (rows ++ y ∷ [])
    push_phase = step (full S v.assembler.edition (rows ++ y ∷ [])) refl
      where
        step : (b : Bool) → full S v.assembler.edition (rows ++ y ∷ []) ≡ b
            → phase_of (with_assembler S (pushed S y pushing.assembler) pushing) ≡ pushed_phase S L v.assembler.flight v.assembler.sequence
            v.assembler.edition (rows ++ y ∷ [])
        step true h = rw h refl
        step false h = rw h refl

    push_sane : Sane (with_assembler S (pushed S y pushing.assembler) pushing)
    push_sane = step (full S v.assembler.edition (rows ++ y ∷ [])) refl
      where
        step : (b : Bool) → full S v.assembler.edition (rows ++ y ∷ []) ≡ b → Sane (with_assembler S (pushed S y pushing.assembler) pushing)
        step true h = rw h (refl, refl)
        step false h = rw h refl

  stored_fits : (a : Assembler S) (x : Record) → S.Fits x → S.Fits (stored S a x)
  stored_fits a x h = both_ways S.Fits a.mark_pending (S.marked x) x (L.fits_marked x h) h

  stored_joins : (a : Assembler S) (e : S.Edition) (x : Record) → S.joins e x ≡ true → S.joins e (stored S a x) ≡ true
  stored_joins a e x h = both_ways (λ y. S.joins e y ≡ true) a.mark_pending (S.marked x) x (L.joins_marked e x ∙ h) h

  -- the pass with so much logged
  abbrev pub with_logged : List (ℕ × Record) → Pass S → Pass S
  with_logged logged p =
      record {
        log = p.log;
        writer = p.writer;
        queue = p.queue;
        succeed = p.succeed;
        next = p.next;
        pages_written = p.pages_written;
        logged = logged;
        unfinished = p.unfinished;
        power_gone = p.power_gone;
      }

  -- in a power-on before which `past` was logged, and in which `now` was logged before the call
  module _ (G : Ground S L) (past : List (List (ℕ × Record))) (now : List (ℕ × Record)) where
    abbrev I : List Page → Phase S L → ℕ → ℕ → List (ℕ × Record) → Type 0
    I l ph nx nf logged = Inv S L G l ph nx nf past (now ++ logged)

    -- how a call stands
    pub record Good (p : Pass S) : Type 0 where
      pub inv : I p.log (phase_of p.writer) p.writer.next_page p.writer.next_flight p.logged
      pub sane : Sane p.writer
      pub fits : Each S.Fits p.queue
      pub small : Small p.logged

    -- from one moment of a call to another
    pub record Keeps (p q : Pass S) : Type 0 where
      pub good : Good q
      pub adds : OnlyAdds S p.log q.log
      pub tears : Tears S L p q

    -- why a flight that begins is below the limit: every flight of these records is, or the log has room for few
    abbrev pub Why : List (ℕ × Record) → Type 0
    Why logged = Small logged ⊎ (G.top + G.count + 2 ≤ S.limit)

    pub keeps_none : {p : Pass S} → Good p → Keeps p p
    keeps_none {p} h = record { good = h; adds = adds_none S L p.log; tears = tears_none S L p }

    pub keeps_then : {p q r : Pass S} → q.unfinished ≡ p.unfinished → Keeps p q → Keeps q r → Keeps p r
    keeps_then e a b = record { good = b.good; adds = adds_then S L a.adds b.adds; tears = tears_then S L e a.tears b.tears }

    -- no page waits and none is ready
    abbrev pub Clear : Writer S → Type 0
    Clear w = (w.writable ≡ true) × (w.waiting ≡ None) × (w.assembler.ready ≡ None)

    abbrev pub StepKeeps : Pass S → Step S → Type 0
    StepKeeps p (goes_on q) = Keeps p q × Clear q.writer × (q.queue ≡ p.queue) × (q.unfinished ≡ p.unfinished)
    StepKeeps p (ends q) = Undecoded S q.unfinished → Keeps p q

    -- the writer is gone, and with it where it stood
    reset : {l : List Page} {nx nf : ℕ} {logged : List (ℕ × Record)} → Inv S L G l off nx nf past logged → Inv S L G l off 0 1 past logged
    reset j =
        record {
          base = j.base;
          more = j.more;
          ending = j.ending;
          old = j.old;
          kept = j.kept;
          mem = j.mem;
          follows = j.follows;
          split = j.split;
          before = j.before;
          on_flash_lem = j.on_flash_lem;
          logged = j.logged;
          risen = j.risen;
          newest_small = j.newest_small;
          long = j.long;
          bound = j.bound;
          stands = j.stands;
        }

    -- a page that waits is programmed: with any number of programs to succeed, and whatever the next does
    module _ (p : Pass S) (v : Writer S) (page : Page) (r m : Bool) (hm : m ≡ false)
        (i : I p.log (holding v.assembler.flight v.assembler.sequence v.assembler.edition r page) v.next_page v.next_flight p.logged)
        (fits : Each S.Fits p.queue) (small : Small p.logged) where
      abbrev waits : Pass S
      waits = with_writer S (shaped true (Some page) None r [] m v) p

      waits_good : Good waits
      waits_good = record { inv = i; sane = (refl, refl, hm); fits = fits; small = small }

      -- a program that doesn't finish changes one page, and says what it left there
      abbrev leaving : Mask → List Page
      leaving keep = programmed_at S p.log v.next_page page keep

      abbrev Left : Mask → ℕ → Type 0
      Left keep j =
          (x : Page) × (◌≡◌ {A = Option (Page × Page)} (Some (page, programmed_cell S p.log v.next_page page keep)) (Some (x, page_at S (leaving keep) j)))

      left_torn : (keep : Mask) → v.next_page < length p.log → (j : ℕ) → Torn S (page_at S (leaving keep) j) → Torn S (page_at S p.log j) ⊎ Left keep j
      left_torn keep inside j t = go (ℕ_discrete j v.next_page)
        where
          here : j ≡ v.next_page → programmed_cell S p.log v.next_page page keep ≡ page_at S (leaving keep) j
          here e =
              sym (ap (λ (k : ℕ). page_at S (leaving keep) k) e
              ∙ get_or-set_same p.log v.next_page (programmed_cell S p.log v.next_page page keep) S.blank inside)

          go : Dec (j ≡ v.next_page) → Torn S (page_at S p.log j) ⊎ Left keep j
          go (yes e) = inr (page, ap {B = Option (Page × Page)} (λ (c : Page). Some (page, c)) (here e))
          go (no e) = inl (rw (get_or-set_other p.log v.next_page j (programmed_cell S p.log v.next_page page keep) S.blank e) at t)

      program_keeps : (g : ℕ) (z : Next Mask) → ltb v.next_page (length p.log) ≡ true → StepKeeps waits (program S g z page waits)
      program_keeps (suc g) z h =
          let inside = ltb-true v.next_page (length p.log) h in (
            record {
              good =
                  record {
                    inv = rw (wrote_phase r waits.writer.assembler refl) (keep_written S L G i inside);
                    sane = wrote_sane r m hm;
                    fits = fits;
                    small = small;
                  };
              adds = keep_adds S L G i inside S.clean;
              tears =
                  record {
                    few = λ n f.
                        let w = keep_torn_written S L G i inside n (f.below refl) in
                        record { at_most = omega (arith, w.0); below = λ a. w.1; clear = λ a b. w.0; ends = keep_torn_ends S L G i inside n (f.below refl) };
                    calm = λ u. (u, keep_torn_calm S L G i inside);
                    front = λ k u. (keep_front S L G i inside S.clean k (u refl), λ a. omega (arith, u refl));
                    left = λ u j t. inl (keep_left_whole S L G i inside j t);
                  };
            },
            (refl, refl, refl),
            refl,
            refl,
          )
      program_keeps zero busy h = λ un. keeps_none waits_good
      program_keeps zero (fault keep) h = λ un.
          let inside = ltb-true v.next_page (length p.log) h in
          record {
            good = record { inv = keep_failed S L G i inside keep un; sane = (refl, refl, hm); fits = fits; small = small };
            adds = keep_adds S L G i inside keep;
            tears =
                record {
                  few = λ n f.
                      let w = keep_torn_failed S L G i inside keep n (f.below refl) in
                      record { at_most = w.0; below = λ a. w.1; clear = λ a b. absurd (none_some b refl); ends = keep_torn_left S L G i inside keep n (f.below refl) };
                  calm = λ u. absurd (none_some u refl);
                  front = λ k u. (keep_front S L G i inside keep k (u refl), u);
                  left = λ u j t. left_torn keep inside j t;
                };
          }
      program_keeps zero (cut keep) h = λ un.
          let inside = ltb-true v.next_page (length p.log) h in
          record {
            good = record { inv = reset (settle S L G _ (keep_failed S L G i inside keep un)); sane = refl; fits = tt; small = small };
            adds = keep_adds S L G i inside keep;
            tears =
                record {
                  few = λ n f.
                      let w = keep_torn_failed S L G i inside keep n (f.below refl) in
                      record {
                        at_most = w.0;
                        below = λ a. absurd (false≢true a);
                        clear = λ a b. absurd (false≢true a);
                        ends = keep_torn_left S L G i inside keep n (f.below refl);
                      };
                  calm = λ u. absurd (none_some u refl);
                  front = λ k u. (keep_front S L G i inside keep k (u refl), λ a. absurd (false≢true a));
                  left = λ u j t. left_torn keep inside j t;
                };
          }

      pub room_keeps : (g : ℕ) (z : Next Mask) → StepKeeps waits (program_if_room S g z page waits)
      room_keeps g z = step (ltb v.next_page (length p.log)) refl
        where
          step : (b : Bool) → ltb v.next_page (length p.log) ≡ b → StepKeeps waits (program_if_room S g z page waits)
          step true h = rw h (program_keeps g z h)
          step false h = rw h (λ un. keeps_none waits_good)

    -- the same from a pass with the same log and queue
    pub step_as : (p q : Pass S) (t : Step S) → q.log ≡ p.log → q.queue ≡ p.queue → q.unfinished ≡ p.unfinished → Tears S L p q → StepKeeps q t
        → StepKeeps p t
    step_as p q (goes_on r) e d u x k =
        (record { good = k.0.good; adds = rw e at k.0.adds; tears = tears_then S L u x k.0.tears }, k.1, k.2 ∙ d, k.3 ∙ u)
    step_as p q (ends r) e d u x k = λ un. record { good = (k un).good; adds = rw e at (k un).adds; tears = tears_then S L u x (k un).tears }

    -- the page that was ready waits
    pub fetch_tears : (p : Pass S) (v : Writer S) (page : Page) (r : Bool) (rows : List Record) (m : Bool)
        → Tears S L (with_writer S (shaped true None (Some page) r rows m v) p) (with_writer S (shaped true (Some page) None r rows m v) p)
    fetch_tears p v page r rows m =
        tears_as S L (with_writer S (shaped true None (Some page) r rows m v) p) (with_writer S (shaped true (Some page) None r rows m v) p) refl refl refl
        (λ a. a) (λ a. refl)

    -- the top of a turn of drain
    pub put_keeps : (p : Pass S) (v : Writer S) (waiting ready : Option Page) (r : Bool) (rows : List Record) (m : Bool)
        → Good (with_writer S (shaped true waiting ready r rows m v) p)
        → StepKeeps (with_writer S (shaped true waiting ready r rows m v) p) (put_page S (with_writer S (shaped true waiting ready r rows m v) p))
    put_keeps p v None None r rows m h = (keeps_none h, (refl, refl, refl), refl, refl)
    put_keeps p v None (Some page) r rows m h =
        let e = h.sane.0 in
        rw e
        (step_as (with_writer S (shaped true None (Some page) r [] m v) p) (with_writer S (shaped true (Some page) None r [] m v) p)
        (program_if_room S p.succeed p.next page (with_writer S (shaped true (Some page) None r [] m v) p)) refl refl refl (fetch_tears p v page r [] m)
        (room_keeps p v page r m h.sane.1 h.inv h.fits h.small p.succeed p.next))
    put_keeps p v (Some page) ready r rows m h =
        let e = h.sane.0 in
        let d = h.sane.1 in
        rw (e, d) (room_keeps p v page r m h.sane.2 h.inv h.fits h.small p.succeed p.next)

    -- a record goes into the rows of the flight
    module _ (p : Pass S) (v : Writer S) (rows : List Record) (m : Bool) (x : Record) where
      abbrev entry : ℕ × Record
      entry = (v.assembler.flight, stored S (shaped true None None true rows m v).assembler x)

      add_keeps : I p.log (pushed_phase S L v.assembler.flight v.assembler.sequence v.assembler.edition (rows ++ entry.1 ∷ []))
          v.next_page v.next_flight (p.logged ++ entry ∷ [])
          → Each S.Fits p.queue → Small p.logged → v.assembler.flight < S.limit
          → Good
          (with_logged (p.logged ++ entry ∷ [])
          (with_writer S
          (with_assembler S (pushed S entry.1 (shaped true None None true rows m v).assembler) (shaped true None None true rows m v)) p))
      add_keeps i fits small below =
          record {
            inv = rw (push_phase v rows m entry.1) i;
            sane = push_sane v rows m entry.1;
            fits = fits;
            small = each_append (λ y. y.0 < S.limit) p.logged (entry ∷ []) small (below, tt);
          }

    -- what is appended to what the call logged is appended to what the power-on logged
    logged_more : {l : List Page} {ph : Phase S L} {nx nf : ℕ} (logged more : List (ℕ × Record)) → Inv S L G l ph nx nf past ((now ++ logged) ++ more)
        → I l ph nx nf (logged ++ more)
    logged_more logged more i = rw (append_assoc now logged more) at i

    logged_none : {l : List Page} {ph : Phase S L} {nx nf : ℕ} (logged : List (ℕ × Record)) → I l ph nx nf logged → I l ph nx nf (logged ++ [])
    logged_none logged i = rw (append-nil logged) i

    -- one record from the queue, with no page waiting and none ready: to be logged or not, in a flight or not
    pub take_keeps : (p : Pass S) (v : Writer S) (x : Record) (y r : Bool) (rows : List Record) (m : Bool)
        → Good (with_writer S (shaped true None None r rows m v) p) → S.Fits x → (y ≡ true → r ≡ false → v.next_flight < S.limit)
        → Good
        (with_logged (p.logged ++ taken_record S y r x (shaped true None None r rows m v))
        (with_writer S (taken S y r x (shaped true None None r rows m v)) p))
    take_keeps p v x true true rows m h fx below = step (S.joins v.assembler.edition x) refl
      where
        step : (b : Bool) → S.joins v.assembler.edition x ≡ b
            → Good
            (with_logged (p.logged ++ taken_record S true true x (shaped true None None true rows m v))
            (with_writer S (taken S true true x (shaped true None None true rows m v)) p))
        step true e =
            rw e
            (add_keeps p v rows m x
            (logged_more p.logged (entry p v rows m x ∷ [])
            (keep_push S L G h.inv v.assembler.flight v.assembler.sequence v.assembler.edition rows h.inv.stands.0 (entry p v rows m x).1
            (stored_fits (shaped true None None true rows m v).assembler x fx)
            (stored_joins (shaped true None None true rows m v).assembler v.assembler.edition x e)))
            h.fits h.small h.inv.stands.0.small)
        step false e = rw e (record { inv = logged_none p.logged h.inv; sane = h.sane; fits = h.fits; small = rw (append-nil p.logged) h.small })
    take_keeps p v x true false rows m h fx below =
        rw (L.joins_own x)
        (add_keeps p (begun S x v) [] v.mark_due x
        (logged_more p.logged (entry p (begun S x v) [] v.mark_due x ∷ [])
        (keep_push S L G h.inv v.next_flight 0 (S.edition x) [] (start_filling S L G h.inv (S.edition x) (below refl refl))
        (entry p (begun S x v) [] v.mark_due x).1
        (stored_fits (begun S x v).assembler x fx) (stored_joins (begun S x v).assembler (S.edition x) x (L.joins_own x))))
        h.fits h.small (below refl refl))
    take_keeps p v x false true [] m h fx below =
        record {
          inv =
              logged_none p.logged
              (keep_stop S L G h.inv v.assembler.flight v.assembler.sequence v.assembler.edition [] h.inv.stands.0
              h.inv.stands.1);
          sane = (refl, h.sane);
          fits = h.fits;
          small = rw (append-nil p.logged) h.small;
        }
    take_keeps p v x false true (z ∷ rows) m h fx below =
        record {
          inv =
              logged_none p.logged
              (keep_stop S L G h.inv v.assembler.flight v.assembler.sequence v.assembler.edition (z ∷ rows) h.inv.stands.0
              h.inv.stands.1);
          sane = (refl, h.sane);
          fits = h.fits;
          small = rw (append-nil p.logged) h.small;
        }
    take_keeps p v x false false rows m h fx below =
        record { inv = logged_none p.logged h.inv; sane = h.sane; fits = h.fits; small = rw (append-nil p.logged) h.small }

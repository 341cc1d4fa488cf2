-- Lives whose masks spare a scar: while the log may be written, every page from the next one on has the scar, so what an unfinished program leaves
-- doesn't decode. A call is walked turn by turn; a power-on finds blank pages from the next one on, by the grammar that the life before it kept.
-- Assumes nothing.
use Prim.Native.Nat.{ℕ, zero, suc, ◌≤◌, ◌<◌}
use mathlib.Core.Path.{◌≡◌, refl, sym, subst, ◌∙◌}
use mathlib.Core.Bool.{Bool, true, false, false≢true}
use Rattle.std.specs.Prelude.{Option, None, Some}
use mathlib.Core.Logic.{inl, inr}
use mathlib.Core.List.{List, [], ◌∷◌, ◌++◌}
use native.Mathlib.Omega.{arith}
use native.Mathlib.Decide.{ℕ_discrete}
use borrow.Author.Tests.{ltb-true}
use lib.Dec.{ltb}
use lib.ListN.{length}
use lib.Seq.{get_or-set_same, get_or-set_other}
use Rattle.power.specs.Pages.{PageStore, Each}
use Rattle.power.specs.Lawful.{Lawful}
use Rattle.power.specs.Reading.{Blanks, page_at}
use Rattle.power.specs.Grammar.{Ending, unused, ended, frayed, foreign, LooseRule, Follows}
use Rattle.power.specs.Scan.{scan}
use Rattle.power.specs.Writer.{Writer, stopped, with_assembler}
use Rattle.power.specs.Calls.{Order, Next, busy, fault, cut, Pass, Step, goes_on, ends, programmed_cell, programmed_at, program, program_if_room, put, put_page}
use Rattle.power.specs.Calls.{fetched, with_writer, logs, take_one, take_next, after_put, onward, turns, ends_flight, drain_writable}
use Rattle.power.specs.Calls.{drain, unasked, ended_with, write_one, write_pending}
use Rattle.power.specs.Life.{ordered, Device, Call, offers, drains, writes, powers, begin, power_on, call, lives, unpowered, Undecoded, Assumed, AllAssumed}
use Rattle.power.specs.Theorem.{erased}
use Rattle.power.specs.Spared.{Scarring, NextSpares, CallSpares, LifeSpares, SparedMeetsAssumption, SparedByPowerOn}
use Rattle.power.proofs.Used.{at_all, unused_none}
use Rattle.power.proofs.Scan.{verdict_of, scan_is}
use Rattle.power.proofs.Invariant.{Ground}
use Rattle.power.proofs.Puts.{Alike, StepFacts, fetching_alike, put_facts, drain_on, drain_off}
use Rattle.power.proofs.Passes.{both_ways, SaneBy}
use Rattle.power.proofs.Turns.{taken_writable, taken_place}
use Rattle.power.proofs.Theorem.{Stands, left_loose, Because, call_keeps, because_before, write_off, strictly, erased_stands}

module _ {Page Record Mask : Type 0} (S : PageStore Page Record Mask) (L : Lawful S) (Scar : Page → Type 0) (Spares : Mask → Type 0)
    (F : Scarring S Scar Spares) where
  -- every page from n on has the scar
  abbrev Scars : List Page → ℕ → Type 0
  Scars log n = (i : ℕ) → n ≤ i → Scar (page_at S log i)

  -- the log may be written only if every page from the next one on has it
  abbrev Ready : List Page → Writer S → Type 0
  Ready log w = w.writable ≡ true → Scars log w.next_page

  -- how a call stands
  record Spared (p : Pass S) : Type 0 where
    next : NextSpares S Spares p.next
    ready : Ready p.log p.writer
    undecoded : Undecoded S p.unfinished

  ready_as : (log : List Page) (w v : Writer S) → v.next_page ≡ w.next_page → v.writable ≡ w.writable → Ready log w → Ready log v
  ready_as log w v e f h = λ on. rw e (h (sym f ∙ on))

  -- the same call with another writer
  spared_as : (p : Pass S) (w : Writer S) → Alike S w p.writer → Spared p → Spared (with_writer S w p)
  spared_as p w a h = record { next = h.next; ready = ready_as p.log p.writer w a.next_page a.writable h.ready; undecoded = h.undecoded }

  -- a page is programmed
  above : (log : List Page) (n : ℕ) (page : Page) → Scars log n → Scars (programmed_at S log n page S.clean) (suc n)
  above log n page h i l = rw (get_or-set_other log n i (programmed_cell S log n page S.clean) S.blank (λ e. omega arith)) (h i (omega arith))

  module _ (log : List Page) (n : ℕ) (page : Page) (keep : Mask) (inside : n < length log) (h : Scars log n) (s : Spares keep) where
    cell_scarred : Scar (programmed_cell S log n page keep)
    cell_scarred = F.stays (page_at S log n) page keep (h n (omega arith)) s

    from_cell : Scars (programmed_at S log n page keep) n
    from_cell i l = go (ℕ_discrete i n)
      where
        go : Dec (i ≡ n) → Scar (page_at S (programmed_at S log n page keep) i)
        go (yes e) = rw (e, get_or-set_same log n (programmed_cell S log n page keep) S.blank inside) cell_scarred
        go (no e) = rw (get_or-set_other log n i (programmed_cell S log n page keep) S.blank e) (h i l)

  program_spared : (g : ℕ) (z : Next Mask) (page : Page) (p : Pass S) → NextSpares S Spares z → p.writer.next_page < length p.log
      → p.writer.writable ≡ true → Spared p → Spared (ended_with S (program S g z page p))
  program_spared (suc g) z page p s inside on h =
      record { next = h.next; ready = λ a. above p.log p.writer.next_page page (h.ready on); undecoded = h.undecoded }
  program_spared zero busy page p s inside on h = h
  program_spared zero (fault keep) page p s inside on h =
      record {
        next = h.next;
        ready = λ a. from_cell p.log p.writer.next_page page keep inside (h.ready on) s;
        undecoded = inl (F.undecoded _ (cell_scarred p.log p.writer.next_page page keep inside (h.ready on) s));
      }
  program_spared zero (cut keep) page p s inside on h =
      record {
        next = h.next;
        ready = λ a. absurd (false≢true a);
        undecoded = inl (F.undecoded _ (cell_scarred p.log p.writer.next_page page keep inside (h.ready on) s));
      }

  room_spared : (g : ℕ) (page : Page) (p : Pass S) → p.writer.writable ≡ true → Spared p → Spared (ended_with S (program_if_room S g p.next page p))
  room_spared g page p on h = step (ltb p.writer.next_page (length p.log)) refl
    where
      step : (b : Bool) → ltb p.writer.next_page (length p.log) ≡ b → Spared (ended_with S (program_if_room S g p.next page p))
      step true e = rw e (program_spared g p.next page p h.next (ltb-true p.writer.next_page (length p.log) e) on h)
      step false e = rw e h

  option_spared : (o : Option Page) (p : Pass S) → p.writer.writable ≡ true → Spared p → Spared (ended_with S (put S o p))
  option_spared None p on h = h
  option_spared (Some page) p on h = room_spared p.succeed page p on h

  fetched_alike : (w : Writer S) → Alike S (fetched S w) w
  fetched_alike w = fetching_alike S w.waiting w

  put_spared : (p : Pass S) → p.writer.writable ≡ true → Spared p → Spared (ended_with S (put_page S p))
  put_spared p on h =
      option_spared (fetched S p.writer).waiting (with_writer S (fetched S p.writer) p) ((fetched_alike p.writer).writable ∙ on)
      (spared_as p (fetched S p.writer) (fetched_alike p.writer) h)

  -- the turns of drain
  module _ (wd : Bool) (k : Pass S → Pass S) (ih : (p : Pass S) → p.writer.writable ≡ true → Spared p → Spared (k p)) where
    next_spared : (queue : List Record) (p : Pass S) → p.writer.writable ≡ true → Spared p → Spared (onward S k (take_next S wd queue p))
    next_spared [] p on h = h
    next_spared (x ∷ queue) p on h =
        ih (take_one S wd x queue p) (same ∙ on)
        (record {
          next = h.next;
          ready = ready_as p.log p.writer (take_one S wd x queue p).writer (taken_place S L (logs S wd x) p.writer.assembler.recording x p.writer) same h.ready;
          undecoded = h.undecoded;
        })
      where
        same : (take_one S wd x queue p).writer.writable ≡ p.writer.writable
        same = taken_writable S L (logs S wd x) p.writer.assembler.recording x p.writer

    step_spared : (p : Pass S) → p.writer.writable ≡ true → (t : Step S) → StepFacts S p.succeed p t → Spared (ended_with S t)
        → Spared (onward S k (after_put S wd t))
    step_spared p on (ends q) f h = h
    step_spared p on (goes_on q) f h = next_spared q.queue q (f.writable ∙ on) h

  turns_spared : (wd : Bool) (limit : ℕ) (p : Pass S) → p.writer.writable ≡ true → Spared p → Spared (turns S wd limit p)
  turns_spared wd zero p on h = h
  turns_spared wd (suc limit) p on h =
      step_spared wd (λ q. turns S wd limit q) (λ q on h. turns_spared wd limit q on h) p on (put_page S p) (put_facts S p) (put_spared p on h)

  queue_spared : (order : Order Mask) (queue : List Record) (p : Pass S) → p.writer.writable ≡ true → Spared p
      → Spared (drain_writable S order queue p)
  queue_spared order [] p on h =
      both_ways Spared (ends_flight S order.while_disarmed order.armed p.writer.assembler.recording) (with_writer S (with_assembler S (stopped S p.writer.assembler) p.writer) p) p
      (record { next = h.next; ready = h.ready; undecoded = h.undecoded }) h
  queue_spared order (x ∷ queue) p on h = turns_spared order.while_disarmed order.limit p on h

  drain_spared : (order : Order Mask) (p : Pass S) → Spared p → Spared (drain S order p)
  drain_spared order p h = go p.writer.writable refl
    where
      go : (b : Bool) → p.writer.writable ≡ b → Spared (drain S order p)
      go true e = subst Spared (sym (drain_on S order p e)) (queue_spared order p.queue p e h)
      go false e = subst Spared (sym (drain_off S order p e)) (record { next = h.next; ready = h.ready; undecoded = h.undecoded })

  -- write_pending
  one_spared : (o : Option Page) (p : Pass S) → p.writer.writable ≡ true → Spared p → Spared (write_one S o p)
  one_spared None p on h = h
  one_spared (Some page) p on h = room_spared (unasked S p.succeed p.next) page p on h

  write_on : (p : Pass S) → p.writer.writable ≡ true → write_pending S p ≡ write_one S (fetched S p.writer).waiting (with_writer S (fetched S p.writer) p)
  write_on p on = rw on refl

  write_spared : (p : Pass S) → (p.writer.writable ≡ false → p.writer.waiting ≡ None) → Spared p → Spared (write_pending S p)
  write_spared p idle h = go p.writer.writable refl
    where
      go : (b : Bool) → p.writer.writable ≡ b → Spared (write_pending S p)
      go true e =
          subst Spared (sym (write_on p e))
          (one_spared (fetched S p.writer).waiting (with_writer S (fetched S p.writer) p) ((fetched_alike p.writer).writable ∙ e)
          (spared_as p (fetched S p.writer) (fetched_alike p.writer) h))
      go false e =
          subst Spared
          (sym (write_off S L p p.writer p.writer.writable p.writer.waiting p.writer.assembler.ready p.writer.assembler.recording
          p.writer.assembler.rows p.writer.assembler.mark_pending e (idle e)))
          h

  -- a power-on: behind the used pages all are blank, and the next page is the first of those unless the log is foreign
  past_end : (l : List Page) (i : ℕ) → length l ≤ i → page_at S l i ≡ S.blank
  past_end [] i h = refl
  past_end (p ∷ l) zero h = absurd (omega arith)
  past_end (p ∷ l) (suc i) h = past_end l i (omega arith)

  module _ (l m : List Page) (b : Blanks S m) where
    blank_scars : Scars (l ++ m) (length l)
    blank_scars i h = rw (at_all S L l m b i, past_end l i h) F.on_blank

    verdict_ready : (st : Ending Record) → Follows S (LooseRule S) l st → (n : ℕ) → (verdict_of S L st (length l) n).writable ≡ true
        → Scars (l ++ m) (verdict_of S L st (length l) n).page
    verdict_ready unused u n on = rw (unused_none S L u (length l) refl) at blank_scars
    verdict_ready (ended c) u n on = blank_scars
    verdict_ready (frayed c) u n on = blank_scars
    verdict_ready foreign u n on = absurd (false≢true on)

    scan_ready : {st : Ending Record} → Follows S (LooseRule S) l st → (scan S (l ++ m)).writable ≡ true → Scars (l ++ m) (scan S (l ++ m)).page
    scan_ready {st} u = rw (scan_is S L u m b) (verdict_ready st u (length (l ++ m)))

  module _ (G : Ground S L) where
    power_ready : (d : Device S) → Stands S L G d → Ready d.log (power_on S d).writer
    power_ready d h = let left = left_loose S L G d h in rw left.split (scan_ready left.used left.rest left.blanks left.follows)

    idle_off : (w : Writer S) (b : Bool) (ready : Option Page) (r : Bool) (rows : List Record) (m : Bool) → SaneBy S L b w.waiting ready r rows m
        → b ≡ false → w.waiting ≡ None
    idle_off w true ready r rows m h e = absurd (false≢true (sym e))
    idle_off w false ready r rows m h e = h

    -- a call begins
    begins : (d : Device S) (g : ℕ) (z : Next Mask) → NextSpares S Spares z → Ready d.log d.writer → Spared (begin S d g z)
    begins d g z s h = record { next = s; ready = h; undecoded = tt }

    drained : (order : Order Mask) (d : Device S) → NextSpares S Spares order.next → Ready d.log d.writer
        → Spared (drain S order (ordered S d order))
    drained order d s h = drain_spared order (ordered S d order) (begins d order.succeed order.next s h)

    wrote : (d : Device S) (g : ℕ) (z : Next Mask) → NextSpares S Spares z → Stands S L G d → Ready d.log d.writer
        → Spared (write_pending S (begin S d g z))
    wrote d g z s k h =
        write_spared (begin S d g z)
        (idle_off d.writer d.writer.writable d.writer.assembler.ready d.writer.assembler.recording d.writer.assembler.rows
        d.writer.assembler.mark_pending k.sane)
        (begins d g z s h)

-- a life, with the scar that is spared in each of its power-ons
module _ {Page Record Mask : Type 0} (S : PageStore Page Record Mask) (L : Lawful S) (K : Type 0) (Scar : K → Page → Type 0) (Spares : K → Mask → Type 0)
    (F : (k : K) → Scarring S (Scar k) (Spares k)) (G : Ground S L) where
  abbrev Kept : K → Device S → Type 0
  Kept k d = Ready S L (Scar k) (Spares k) (F k) d.log d.writer

  onward_spared : (c : Call S) (life : List (Call S)) (d : Device S) → Assumed S c d → Because S L G (lives S life (call S c d)) → Stands S L G d
      → (Stands S L G (call S c d) → AllAssumed S life (call S c d)) → AllAssumed S (c ∷ life) d
  onward_spared c life d a b h rest = (a, rest (call_keeps S L G c d a (because_before S L G life (call S c d) b) h).stands)

  lives_spared : (life : List (Call S)) (k : K) (d : Device S) → LifeSpares S Spares k life → Because S L G (lives S life d) → Stands S L G d → Kept k d
      → AllAssumed S life d
  lives_spared [] k d s b h q = tt
  lives_spared (offers r ∷ life) k d s b h q =
      onward_spared (offers r) life d s.0 b h (λ h'. lives_spared life k (call S (offers r) d) s.1 b h' q)
  lives_spared (drains order ∷ life) k d s b h q =
      let one = drained S L (Scar k) (Spares k) (F k) G order d s.0 q in
      onward_spared (drains order) life d one.undecoded b h
      (λ h'. lives_spared life k (call S (drains order) d) s.1 b h' one.ready)
  lives_spared (writes g z ∷ life) k d s b h q =
      let one = wrote S L (Scar k) (Spares k) (F k) G d g z s.0 h q in
      onward_spared (writes g z) life d one.undecoded b h (λ h'. lives_spared life k (call S (writes g z) d) s.1 b h' one.ready)
  lives_spared (powers ∷ life) k d s b h q =
      onward_spared powers life d tt b h
      (λ h'. lives_spared life s.0 (power_on S d) s.1 b h' (power_ready S L (Scar s.0) (Spares s.0) (F s.0) G d h))

module _ {Page Record Mask : Type 0} (S : PageStore Page Record Mask) (L : Lawful S) where
  pub spared_by_power_on : SparedByPowerOn S
  spared_by_power_on K Scar Spares F pages z h k life s =
      lives_spared S L K Scar Spares F (strictly S L pages) life k (unpowered S (erased S pages)) s (inr (omega arith)) (erased_stands S L pages h)
      (λ on. absurd (false≢true on))

  -- one scar is a family
  one_scar : (Spares : Mask → Type 0) (life : List (Call S)) → Each (CallSpares S Spares) life → LifeSpares S (λ (one : Unit {0}). Spares) tt life
  one_scar Spares [] s = tt
  one_scar Spares (offers r ∷ life) s = (s.0, one_scar Spares life s.1)
  one_scar Spares (drains order ∷ life) s = (s.0, one_scar Spares life s.1)
  one_scar Spares (writes g z ∷ life) s = (s.0, one_scar Spares life s.1)
  one_scar Spares (powers ∷ life) s = (tt, one_scar Spares life s.1)

  pub spared_meets_assumption : SparedMeetsAssumption S
  spared_meets_assumption Scar Spares F pages z h life s =
      spared_by_power_on (Unit {0}) (λ one. Scar) (λ one. Spares) (λ one. F) pages z h tt life (one_scar Spares life s)

-- What pages_written counts: turn by turn, each page written raises next_page and takes one of the programs that succeed. And that neither
-- write_pending nor a pass on a log that isn't writable logs anything. Assumes nothing.
use Prim.Native.Nat.{ℕ, zero, suc, ◌+◌}
use mathlib.Core.Path.{◌≡◌, refl, sym, ap, ◌∙◌}
use mathlib.Core.Bool.{Bool, true, false, false≢true}
use Rattle.std.specs.Prelude.{Option, None, Some}
use mathlib.Core.Logic.{◌⊎◌, inl, inr}
use mathlib.Core.List.{List, [], ◌∷◌}
use native.Mathlib.Omega.{arith}
use Rattle.power.specs.Pages.{PageStore}
use Rattle.power.specs.Writer.{Writer, taken, stopped, with_assembler, begun}
use Rattle.power.specs.Calls.{Order, Next, busy, fault, cut, Pass, Step, goes_on, ends, program_if_room, put_page, logs, take_one, take_next, after_put, onward}
use Rattle.power.specs.Calls.{turns, with_writer, ends_flight, drain_writable, with_queue, drop_one, drain, fetched, fetched_if_writable}
use Rattle.power.specs.Calls.{unasked, ended_with, write_one, write_pending}
use Rattle.power.specs.Life.{ordered, Device, begin}
use Rattle.power.specs.Reports.{PagesCounted, DrainCounts, WriteCounts, UnwritableLogsNothing, WriteLogsNothing}
use Rattle.power.proofs.Puts.{Goes, Halts, StepFacts, fetching_alike, room_facts, put_facts, drain_off}
use Rattle.power.proofs.Passes.{both_ways}

module _ {Page Record Mask : Type 0} (S : PageStore Page Record Mask) where
  -- from one moment of a call to another: pages written are the rise of next_page and programs that succeeded
  record Counts (p q : Pass S) : Type 0 where
    alive : q.power_gone ≡ false → q.writer.next_page + p.pages_written ≡ p.writer.next_page + q.pages_written
    gone : q.power_gone ≡ true → (p.power_gone ≡ true) ⊎ (q.pages_written ≡ p.succeed + p.pages_written)

  counts_none : (p : Pass S) → Counts p p
  counts_none p = record { alive = λ h. refl; gone = λ h. inl h }

  taken_page : (y r : Bool) (x : Record) (w : Writer S) → (taken S y r x w).next_page ≡ w.next_page
  taken_page true true x w = both_ways (λ (v : Writer S). v.next_page ≡ w.next_page) (S.joins w.assembler.edition x) _ w refl refl
  taken_page true false x w = both_ways (λ (v : Writer S). v.next_page ≡ w.next_page) (S.joins (S.edition x) x) _ (begun S x w) refl refl
  taken_page false true x w = refl
  taken_page false false x w = refl

  counts_halt : (p q : Pass S) → Halts S p.succeed p q → Counts p q
  counts_halt p q f = record { alive = λ h. omega (arith, (f.alive h).1, f.written); gone = λ h. go (f.gone h) }
    where
      go : (p.power_gone ≡ true) ⊎ ((p.succeed ≡ 0) × (q.queue ≡ []) × (q.writer.writable ≡ false)) → (p.power_gone ≡ true) ⊎ (q.pages_written ≡ p.succeed + p.pages_written)
      go (inl h) = inl h
      go (inr h) = inr (omega (arith, h.0, f.written))

  counts_go : (p q r : Pass S) → Goes S p.succeed p q → Counts q r → Counts p r
  counts_go p q r f k = record { alive = λ h. omega (arith, k.alive h, f.counted); gone = λ h. go (k.gone h) }
    where
      go : (q.power_gone ≡ true) ⊎ (r.pages_written ≡ q.succeed + q.pages_written) → (p.power_gone ≡ true) ⊎ (r.pages_written ≡ p.succeed + p.pages_written)
      go (inl h) = inl (sym f.power_gone ∙ h)
      go (inr h) = inr (omega (arith, h, f.spent))

  counts_take : (wd : Bool) (x : Record) (queue : List Record) (q r : Pass S) → Counts (take_one S wd x queue q) r → Counts q r
  counts_take wd x queue q r k =
      record {
        alive = λ h. k.alive h ∙ ap (λ (n : ℕ). n + r.pages_written) (taken_page (logs S wd x) q.writer.assembler.recording x q.writer);
        gone = k.gone;
      }

  counts_next : (wd : Bool) (k : Pass S → Pass S) → ((p : Pass S) → Counts p (k p)) → (queue : List Record) (q : Pass S)
      → Counts q (onward S k (take_next S wd queue q))
  counts_next wd k ih [] q = counts_none q
  counts_next wd k ih (x ∷ queue) q = counts_take wd x queue q (k (take_one S wd x queue q)) (ih (take_one S wd x queue q))

  counts_step : (wd : Bool) (k : Pass S → Pass S) → ((p : Pass S) → Counts p (k p)) → (p : Pass S) (t : Step S) → StepFacts S p.succeed p t
      → Counts p (onward S k (after_put S wd t))
  counts_step wd k ih p (ends q) f = counts_halt p q f
  counts_step wd k ih p (goes_on q) f = counts_go p q (onward S k (take_next S wd q.queue q)) f (counts_next wd k ih q.queue q)

  counts_turns : (wd : Bool) (limit : ℕ) (p : Pass S) → Counts p (turns S wd limit p)
  counts_turns wd zero p = counts_none p
  counts_turns wd (suc limit) p = counts_step wd (λ q. turns S wd limit q) (λ q. counts_turns wd limit q) p (put_page S p) (put_facts S p)

  counts_drain : (order : Order Mask) (p : Pass S) → Counts p (drain S order p)
  counts_drain order p =
      both_ways (Counts p) p.writer.writable (drain_writable S order p.queue p) (with_queue S (drop_one S p.queue) p) (go p.queue)
      (record { alive = λ h. refl; gone = λ h. inl h })
    where
      go : (queue : List Record) → Counts p (drain_writable S order queue p)
      go [] =
          both_ways (Counts p) (ends_flight S order.while_disarmed order.armed p.writer.assembler.recording)
          (with_writer S (with_assembler S (stopped S p.writer.assembler) p.writer) p) p (record { alive = λ h. refl; gone = λ h. inl h })
          (counts_none p)
      go (x ∷ queue) = counts_turns order.while_disarmed order.limit p

  unasked_none : (g : ℕ) (z : Next Mask) → unasked S g z ≡ 0 → g ≡ 0
  unasked_none zero busy h = refl
  unasked_none zero (fault keep) h = refl
  unasked_none zero (cut keep) h = refl
  unasked_none (suc g) z h = h

  counts_wrote : (g : ℕ) (z : Next Mask) (p : Pass S) → p.succeed ≡ g → (t : Step S) → StepFacts S (unasked S g z) p t → Counts p (ended_with S t)
  counts_wrote g z p e (goes_on q) f = record { alive = λ h. f.counted; gone = λ h. inl (sym f.power_gone ∙ h) }
  counts_wrote g z p e (ends q) f = record { alive = λ h. omega (arith, (f.alive h).1, f.written); gone = λ h. go (f.gone h) }
    where
      go : (p.power_gone ≡ true) ⊎ ((unasked S g z ≡ 0) × (q.queue ≡ []) × (q.writer.writable ≡ false)) → (p.power_gone ≡ true) ⊎ (q.pages_written ≡ p.succeed + p.pages_written)
      go (inl h) = inl h
      go (inr h) = inr (omega (arith, unasked_none g z h.0, e, f.written))

  counts_one : (o : Option Page) (p : Pass S) → Counts p (write_one S o p)
  counts_one None p = counts_none p
  counts_one (Some page) p =
      counts_wrote p.succeed p.next p refl (program_if_room S (unasked S p.succeed p.next) p.next page p)
      (room_facts S (unasked S p.succeed p.next) p.next page p)

  counted : (d : Device S) (g : ℕ) (z : Next Mask) (q : Pass S) → Counts (begin S d g z) q → PagesCounted S g (begin S d g z) q
  counted d g z q k = record { alive = λ h. omega (arith, k.alive h); cut = λ h. go (k.gone h) }
    where
      go : (false ≡ true) ⊎ (q.pages_written ≡ g + 0) → q.pages_written ≡ g
      go (inl h) = absurd (false≢true h)
      go (inr h) = omega arith

  fetched_page : (w : Writer S) → (fetched_if_writable S w).next_page ≡ w.next_page
  fetched_page w = both_ways (λ (v : Writer S). v.next_page ≡ w.next_page) w.writable (fetched S w) w (fetching_alike S w.waiting w).next_page refl

  counts_write : (p : Pass S) → Counts p (write_pending S p)
  counts_write p =
      let k = counts_one (fetched_if_writable S p.writer).waiting (with_writer S (fetched_if_writable S p.writer) p) in
      record { alive = λ h. k.alive h ∙ ap (λ (n : ℕ). n + (write_pending S p).pages_written) (fetched_page p.writer); gone = k.gone }

  pub drain_counts : DrainCounts S
  drain_counts d order = counted d order.succeed order.next (drain S order (ordered S d order)) (counts_drain order (ordered S d order))

  pub write_counts : WriteCounts S
  write_counts d g z = counted d g z (write_pending S (begin S d g z)) (counts_write (begin S d g z))

  -- write_pending logs nothing, and neither does drain on a log that isn't writable
  one_logs : (o : Option Page) (p : Pass S) → (write_one S o p).logged ≡ p.logged
  one_logs None p = refl
  one_logs (Some page) p =
      go (program_if_room S (unasked S p.succeed p.next) p.next page p) (room_facts S (unasked S p.succeed p.next) p.next page p)
    where
      go : (t : Step S) → StepFacts S (unasked S p.succeed p.next) p t → (ended_with S t).logged ≡ p.logged
      go (goes_on q) f = f.logged
      go (ends q) f = f.logged

  pub unwritable_logs_nothing : UnwritableLogsNothing S
  unwritable_logs_nothing d order h = ap (λ (p : Pass S). p.logged) (drain_off S order (ordered S d order) h)

  pub write_logs_nothing : WriteLogsNothing S
  write_logs_nothing d g z = one_logs (fetched_if_writable S d.writer).waiting (with_writer S (fetched_if_writable S d.writer) (begin S d g z))

-- What the rig plays is the life of its script: each operation is its calls of the theory on the view, and so is a list of them. The image
-- keeps its length, and nothing outside the log changes. Assumes nothing.
use Prim.Native.Nat.{ℕ, zero, suc, ◌+◌, ◌*◌, ◌/◌, ◌≤◌}
use mathlib.Core.Path.{◌≡◌, refl, sym, ap, ap₂, ◌∙◌}
use mathlib.Core.Bool.{Bool, true, false, cond, false≢true}
use mathlib.Core.List.{List, [], ◌∷◌, ◌++◌}
use Rattle.std.specs.Prelude.{None}
use native.Mathlib.Omega.{arith}
use borrow.Author.Tests.{ltb-true, ltb-false}
use lib.ListN.{length, get_or, replicate, length-replicate}
use Rattle.laws.specs.Answers.{Answer, gives}
use Rattle.power.specs.Writer as Model
use Rattle.power.specs.Calls as Theory
use Rattle.power.specs.Life.{Device}
use Rattle.power.specs.Life as Life
use Rattle.layout.specs.Layout.{log_start, valid_capacity, pages_in}
use Rattle.store.specs.Store.{no_faults, leaves}
use Rattle.store.specs.Laws.{OnlyAt}
use Rattle.power.proofs.Moments.{lives_append}
use Rattle.blackbox.specs.declared.FlightRecord.{FlightRecord}
use Rattle.records.specs.declared.Scan.{Scan}
use Rattle.assembler.specs.Assembler as Assembler
use Rattle.queue.specs.Queue.{records_held, empty, offered}
use Rattle.queue.specs.declared.RecordQueue.{RecordQueue}
use Rattle.queue.proofs.Laws.{holds_at_most_31, offer_appends}
use Rattle.log_state.specs.Flush.{with_since, flushed}
use Rattle.log_state.specs.Writer.{fresh, recovered}
use Rattle.log_writer.specs.Pass.{begin}
use Rattle.log_writer.specs.Calls.{WriteTold, drain_told, write_told, drained, after_drain, write_image, page_written, after_write}
use Rattle.log_writer.specs.WellFormed.{OnLog}
use Rattle.log_writer.specs.declared.Pass.{Pass}
use Rattle.log_writer.specs.declared.DrainOrder.{DrainOrder}
use Rattle.log_writer.specs.declared.NextProgram.{NextProgram}
use Rattle.log_writer.proofs.Checks.{passed_log}
use Rattle.log_laws.proofs.OnlyLog.{only_same, only_then, has_room, drain_only_log, write_only_log}
use Rattle.power_pages.specs.Store.{real, pages_of}
use Rattle.power_pages.proofs.Real.{real_lawful}
use Rattle.power_pages.proofs.Scan.{scan_is_theory}
use Rattle.records.proofs.Readings.{NoFaults}
use Rattle.power_views.specs.Views.{as_writer, as_pass}
use Rattle.power_views.proofs.Drain.{drain_is}
use Rattle.power_views.proofs.Write.{write_is}
use Rattle.script.specs.Script.{Operation, offers, drains, writes, powers, recovers, resets, flushes}
use Rattle.script.specs.Laws.{Writes, EachWrites}
use Rattle.rig.specs.Rig.{bench, draining, writing, powering, played, image_after, plays, plays_image}
use Rattle.rig.specs.Laws.{SoundBench}
use Rattle.rig.specs.declared.Bench.{Bench}
use Rattle.rig.proofs.Laws.{operation_keeps}
use Rattle.power_lives.specs.Lives.{OfLife, EachOfLife, takes, calls_of, life_from}

-- the device that a bench and an image are to the theory, with a history
abbrev pub device_of : ℕ → Bench → List ℕ → List (List (ℕ × FlightRecord)) → List (ℕ × FlightRecord) → Device real
device_of pages b image past now =
    record { log = pages_of pages image; writer = as_writer b.writer; queue = records_held b.queue; past = past; now = now }

-- a device of the theory is a bench and an image, with some history
pub record Reaches (pages : ℕ) (d : Device real) (b : Bench) (image : List ℕ) : Type 0 where
  pub past : List (List (ℕ × FlightRecord))
  pub now : List (ℕ × FlightRecord)
  pub same : d ≡ device_of pages b image past now

-- what the states of a played script have
pub record Fine (capacity : ℕ) (b : Bench) (image : List ℕ) : Type 0 where
  pub valid : valid_capacity capacity ≡ true
  pub whole : length image ≡ capacity
  pub sound : SoundBench b

-- "reads have no faults"
zeros : (n i : ℕ) → get_or {A = ℕ} (replicate n 0) i 0 ≡ 0
zeros zero i = refl
zeros (suc n) zero = refl
zeros (suc n) (suc i) = zeros n i

pub none_faulty : (capacity : ℕ) → NoFaults (no_faults capacity)
none_faulty capacity i = zeros (capacity / 256) i

pub one_a_page : (capacity : ℕ) → length (no_faults capacity) ≡ capacity / 256
one_a_page capacity = length-replicate {A = ℕ} (capacity / 256) 0

-- ---- one operation

module _ (capacity : ℕ) (b : Bench) (image : List ℕ) (f : Fine capacity b image) (past : List (List (ℕ × FlightRecord))) (now : List (ℕ × FlightRecord)) where
  abbrev pages : ℕ
  pages = pages_in capacity

  abbrev before : Device real
  before = device_of pages b image past now

  space : log_start + pages * 256 ≤ length image
  space = omega (arith, has_room capacity f.valid, f.whole)

  abbrev Goes : Operation → Type 0
  Goes o = Reaches pages (Life.lives real (calls_of o b) before) (played capacity o b image).bench (image_after capacity o b image)

  offer_goes : (r : FlightRecord) → Goes (offers r)
  unfolding played image_after
  offer_goes r = go (takes b) refl
    where
      held : length (records_held b.queue) ≡ b.queue.held
      held = (holds_at_most_31 b.queue f.sound.queue).0

      go : (z : Bool) → takes b ≡ z
          → Reaches pages (Life.lives real (cond z (Life.offers r ∷ []) []) before) (bench b.writer (offered b.queue r).queue) image
      go true e =
          let h = (offer_appends b.queue r f.sound.queue).room (omega (arith, held, ltb-true)) in
          record {
            past = past;
            now = now;
            same =
                ap (λ (queue : List FlightRecord). record { log = pages_of pages image; writer = as_writer b.writer; queue = queue; past = past; now = now })
                (sym h.1);
          }
      go false e =
          let h = (offer_appends b.queue r f.sound.queue).full (omega (arith, held, ltb-false)) in
          record { past = past; now = now; same = ap (λ (q : RecordQueue). device_of pages (bench b.writer q) image past now) (sym h.1) }

  drain_goes : (order : DrainOrder) (keep : List ℕ) → length keep ≡ 256 → Goes (drains order keep)
  unfolding played image_after drained after_drain
  drain_goes order keep k =
      let on : OnLog capacity (length image) (length keep) = record { valid = f.valid; whole = f.whole; kept = k } in
      let h = drain_is pages order keep (begin b.writer b.queue order.succeed) image [] None space
      (record { sound = f.sound.writer; held = f.sound.queue }) refl in
      record {
        past = past;
        now = now ++ h.logged;
        same =
            ap (Life.after_pass real before) h.same
            ∙ ap₂ (λ (x : Answer Pass) (m : Answer (List ℕ)). device_of pages (draining (drain_told b.writer b.queue x)).bench (leaves image m) past (now ++ h.logged))
            (sym (passed_log capacity (length image) (length keep) (gives _) on)) (sym (passed_log capacity (length image) (length keep) (gives _) on));
      }

  write_goes : (succeed : ℕ) (next : NextProgram) (keep : List ℕ) → length keep ≡ 256 → Goes (writes succeed next keep)
  unfolding played image_after page_written after_write
  write_goes succeed next keep k =
      let on : OnLog capacity (length image) (length keep) = record { valid = f.valid; whole = f.whole; kept = k } in
      let h = write_is pages next keep image b.writer b.queue succeed space f.sound.writer in
      let t = Theory.write_pending real (as_pass pages next keep (begin b.writer b.queue succeed) image [] None) in
      record {
        past = past;
        now = now ++ t.logged;
        same =
            ap (λ (log : List (List ℕ)). record { log = log; writer = t.writer; queue = t.queue; past = past; now = now ++ t.logged }) h.log
            ∙ ap₂ (λ (w : Model.Writer real) (queue : List FlightRecord).
            record { log = pages_of pages (write_image pages next keep b.writer succeed image); writer = w; queue = queue; past = past; now = now ++ t.logged })
            h.writer h.queue
            ∙ ap₂ (λ (x : Answer WriteTold) (m : Answer (List ℕ)). device_of pages (writing (write_told b.writer b.queue x)).bench (leaves image m) past (now ++ t.logged))
            (sym (passed_log capacity (length image) (length keep) (gives _) on)) (sym (passed_log capacity (length image) (length keep) (gives _) on));
      }

  power_goes : Goes powers
  unfolding played image_after recovered fresh Assembler.fresh empty
  power_goes =
      record {
        past = past ++ now ∷ [];
        now = [];
        same =
            ap (λ (x : Answer Scan). device_of pages (powering x).bench image (past ++ now ∷ []) [])
            (sym (scan_is_theory capacity image (no_faults capacity) f.valid f.whole (one_a_page capacity) (none_faulty capacity)));
      }

  -- the start time of the write-back buffer is no part of the view
  flush_goes : (buffered : Bool) (clock : ℕ) → buffered ≡ false → Goes (flushes buffered clock)
  unfolding played image_after flushed with_since
  flush_goes true clock e = absurd (false≢true (sym e))
  flush_goes false clock e = record { past = past; now = now; same = refl }

  pub goes : (o : Operation) → OfLife o → Writes o → Goes o
  goes (offers r) l w = offer_goes r
  goes (drains order keep) l w = drain_goes order keep w.2
  goes (writes succeed next keep) l w = write_goes succeed next keep w.1
  goes powers l w = power_goes
  goes (recovers page flight writable) l w = absurd l
  goes resets l w = absurd l
  goes (flushes buffered clock) l w = flush_goes buffered clock l

-- ---- the image

pub only_log : (capacity : ℕ) (o : Operation) (b : Bench) (image : List ℕ) → SoundBench b
    → OnlyAt log_start (pages_in capacity * 256) image (image_after capacity o b image)
unfolding image_after
only_log c (offers r) b image s = only_same log_start (pages_in c * 256) image
only_log c (drains order keep) b image s = drain_only_log order c image keep b.writer b.queue (s.writer, s.queue)
only_log c (writes succeed next keep) b image s = write_only_log c image keep next b.writer b.queue succeed (s.writer, s.queue)
only_log c powers b image s = only_same log_start (pages_in c * 256) image
only_log c (recovers page flight writable) b image s = only_same log_start (pages_in c * 256) image
only_log c resets b image s = only_same log_start (pages_in c * 256) image
only_log c (flushes buffered clock) b image s = only_same log_start (pages_in c * 256) image

-- an operation keeps what the states have
pub fine_after : (capacity : ℕ) (o : Operation) (b : Bench) (image : List ℕ) → Fine capacity b image
    → Fine capacity (played capacity o b image).bench (image_after capacity o b image)
fine_after c o b image f =
    record { valid = f.valid; whole = (only_log c o b image f.sound).long ∙ f.whole; sound = operation_keeps c o b image f.sound }

-- ---- a list of operations

pub all_go : (capacity : ℕ) (os : List Operation) (b : Bench) (image : List ℕ) → Fine capacity b image → EachOfLife os → EachWrites os
    → (past : List (List (ℕ × FlightRecord))) (now : List (ℕ × FlightRecord))
    → Reaches (pages_in capacity) (Life.lives real (life_from capacity os b image) (device_of (pages_in capacity) b image past now)) (plays capacity os b image)
    (plays_image capacity os b image)
unfolding plays plays_image
all_go c [] b image f l w past now = record { past = past; now = now; same = refl }
all_go c (o ∷ os) b image f l w past now =
    let h = goes c b image f past now o l.0 w.0 in
    let b' = (played c o b image).bench in
    let image' = image_after c o b image in
    let t = all_go c os b' image' (fine_after c o b image f) l.1 w.1 h.past h.now in
    record {
      past = t.past;
      now = t.now;
      same =
          lives_append real real_lawful (calls_of o b) (life_from c os b' image') (device_of (pages_in c) b image past now)
          ∙ ap (Life.lives real (life_from c os b' image')) h.same ∙ t.same;
    }

pub all_only_log : (capacity : ℕ) (os : List Operation) (b : Bench) (image : List ℕ) → SoundBench b
    → OnlyAt log_start (pages_in capacity * 256) image (plays_image capacity os b image)
unfolding plays_image
all_only_log c [] b image s = only_same log_start (pages_in c * 256) image
all_only_log c (o ∷ os) b image s =
    only_then log_start (pages_in c * 256) image (image_after c o b image) (plays_image c os (played c o b image).bench (image_after c o b image))
    (only_log c o b image s) (all_only_log c os (played c o b image).bench (image_after c o b image) (operation_keeps c o b image s))

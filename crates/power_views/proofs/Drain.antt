-- A drain is the theory's drain on the view. Assumes nothing.
use Prim.Native.Nat.{ℕ, zero, suc, ◌+◌, ◌*◌, ◌≤◌}
use mathlib.Core.Path.{◌≡◌, refl, sym, ap, ap₂, ◌∙◌}
use mathlib.Core.Bool.{Bool, true, false, cond}
use mathlib.Core.List.{List}
use Rattle.std.specs.Prelude.{Option}
use native.Mathlib.Omega.{arith}
use borrow.Author.Tests.{eq-eqb, ne_eqb}
use lib.Dec.{eqb}
use lib.ListN.{length}
use Rattle.laws.proofs.Choice.{cond_true, cond_false}
use Rattle.power.specs.Writer as Model
use Rattle.power.specs.Calls as Theory
use Rattle.layout.specs.Layout.{log_start}
use Rattle.blackbox.specs.declared.FlightRecord.{FlightRecord}
use Rattle.queue.specs.declared.Dequeued.{Dequeued}
use Rattle.queue.proofs.Laws.{none_leaves, one_leaves}
use Rattle.log_state.specs.Writer.{with_assembler, ended}
use Rattle.log_state.specs.WellFormed.{SoundWriter}
use Rattle.log_state.specs.declared.Logged.{Logged}
use Rattle.log_writer.specs.Pass.{counted, turn, turn_image, turns, turns_image, dropping_it, dropping, on_empty_queue, drain_pass, drain_image}
use Rattle.log_writer.specs.WellFormed.{SoundPass}
use Rattle.log_writer.specs.declared.Pass.{Pass}
use Rattle.log_writer.specs.declared.DrainOrder.{DrainOrder}
use Rattle.log_writer.specs.declared.NextProgram.{NextProgram}
use Rattle.log_writer.proofs.Turns.{still, still_image, another, another_image}
use Rattle.log_writer.proofs.Keeps.{turn_sound}
use Rattle.log_laws.proofs.OnlyLog.{turn_only}
use Rattle.power_pages.specs.Store.{real, pages_of}
use Rattle.power_views.specs.Views.{as_writer, as_queue, as_next, as_order, as_pass}
use Rattle.power_views.proofs.Steps.{none_held, one_held, stopped_is}
use Rattle.power_views.proofs.Turns.{viewed_as, Is, stepped, turn_is}

-- a pass of the theory is a pass of the code, with an image, and with something logged and something left unfinished
pub record Ends (pages : ℕ) (next : NextProgram) (keep : List ℕ) (t : Theory.Pass real) (p : Pass) (image : List ℕ) : Type 0 where
  pub logged : List (ℕ × FlightRecord)
  pub unfinished : Option (List ℕ × List ℕ)
  pub same : t ≡ as_pass pages next keep p image logged unfinished

module _ (pages : ℕ) (order : DrainOrder) (keep : List ℕ) where
  abbrev Reaches : ℕ → Pass → List ℕ → Type 0
  Reaches n p image =
      (l : List (ℕ × FlightRecord)) (u : Option (List ℕ × List ℕ))
      → Ends pages order.next keep (Theory.turns real order.record_while_disarmed n (as_pass pages order.next keep p image l u)) (turns pages order n p)
      (turns_image pages order keep n p image)

  turns_is : (n : ℕ) (p : Pass) (image : List ℕ) → log_start + pages * 256 ≤ length image → SoundPass p → p.progress.going ≡ true → Reaches n p image
  unfolding turns turns_image
  turns_is zero p image space s on l u = record { logged = l; unfinished = u; same = refl }
  turns_is (suc n) p image space s on l u =
      go (turn_is pages order keep p image l u space s on) q.progress.going refl
      (λ live. turns_is n q after (omega (arith, (turn_only pages order keep p image s space).long)) (turn_sound pages order p s) live)
    where
      q : Pass
      q = turn pages order p

      after : List ℕ
      after = turn_image pages order keep p image

      onwards : Theory.Step real → Theory.Pass real
      onwards step = Theory.onward real (λ x. Theory.turns real order.record_while_disarmed n x) step

      tp : Theory.Pass real
      tp = as_pass pages order.next keep p image l u

      -- the code's turns are the turn and those after it
      there : {t : Theory.Pass real} → Ends pages order.next keep t (turns pages order n q) (turns_image pages order keep n q after)
          → Ends pages order.next keep t (turns pages order (suc n) p) (turns_image pages order keep (suc n) p image)
      there {t} h =
          record {
            logged = h.logged;
            unfinished = h.unfinished;
            same =
                h.same ∙ ap₂ (λ (x : Pass) (m : List ℕ). as_pass pages order.next keep x m h.logged h.unfinished)
                (sym (another pages order keep n p on)) (sym (another_image pages order keep n p image on));
          }

      go : (t : Is pages order.next keep (Theory.turn real order.record_while_disarmed tp) q after) (z : Bool) → q.progress.going ≡ z → (q.progress.going ≡ true → Reaches n q after)
          → Ends pages order.next keep (onwards (Theory.turn real order.record_while_disarmed tp)) (turns pages order (suc n) p)
          (turns_image pages order keep (suc n) p image)
      go t true e rest =
          let h = rest e t.logged t.unfinished in
          let same = ap onwards t.same ∙ ap (λ (z : Bool). onwards (stepped z (as_pass pages order.next keep q after t.logged t.unfinished))) e in
          there (record { logged = h.logged; unfinished = h.unfinished; same = same ∙ h.same })
      go t false e rest =
          let same = ap onwards t.same ∙ ap (λ (z : Bool). onwards (stepped z (as_pass pages order.next keep q after t.logged t.unfinished))) e in
          there
          (record {
            logged = t.logged;
            unfinished = t.unfinished;
            same =
                same ∙ ap₂ (λ (x : Pass) (m : List ℕ). as_pass pages order.next keep x m t.logged t.unfinished)
                (sym (still pages order keep n q e)) (sym (still_image pages order keep n q after e));
          })

  -- ---- the ways of a drain

  module _ (p : Pass) (image : List ℕ) (l : List (ℕ × FlightRecord)) (u : Option (List ℕ × List ℕ)) where
    abbrev viewed : Model.Writer real → List FlightRecord → Theory.Pass real
    viewed w queue = viewed_as (pages_of pages image) w queue p.progress.succeed (as_next order.next keep) p.progress.report.pages_written l u p.progress.cut

    abbrev view : Theory.Pass real
    view = as_pass pages order.next keep p image l u

    -- not writable: one record is dropped
    none_dropped : p.queue.held ≡ 0 → as_pass pages order.next keep (dropping p) image l u ≡ Theory.with_queue real (Theory.drop_one real (as_queue p.queue)) view
    unfolding dropping
    none_dropped e =
        ap (λ (d : Dequeued). as_pass pages order.next keep (dropping_it p d) image l u) (none_leaves p.queue e)
        ∙ ap (viewed (as_writer p.writer)) (none_held p.queue e)
        ∙ sym (ap (λ (queue : List FlightRecord). viewed (as_writer p.writer) (Theory.drop_one real queue)) (none_held p.queue e))

    one_dropped : (n : ℕ) → p.queue.held ≡ suc n
        → as_pass pages order.next keep (dropping p) image l u ≡ Theory.with_queue real (Theory.drop_one real (as_queue p.queue)) view
    unfolding dropping
    one_dropped n e =
        ap (λ (d : Dequeued). as_pass pages order.next keep (dropping_it p d) image l u) (one_leaves p.queue (λ z. omega arith))
        ∙ ap (λ (queue : List FlightRecord). viewed (as_writer p.writer) (Theory.drop_one real queue)) (sym (one_held p.queue n e))

    dropped_is : (n : ℕ) → p.queue.held ≡ n
        → as_pass pages order.next keep (dropping p) image l u ≡ Theory.with_queue real (Theory.drop_one real (as_queue p.queue)) view
    dropped_is zero e = none_dropped e
    dropped_is (suc n) e = one_dropped n e

    -- the queue is empty: the flight ends, unless something holds it
    ended_is : SoundWriter p.writer → (on : Bool) → p.writer.assembler.recording ≡ on
        → as_writer (ended p.writer).writer
        ≡ cond on (Model.with_assembler real (Model.stopped real (as_writer p.writer).assembler) (as_writer p.writer)) (as_writer p.writer)
    unfolding ended with_assembler
    ended_is s true e =
        ap (λ (x : Logged). as_writer x.writer) (cond_true p.writer.assembler.recording _ _ e)
        ∙ ap (λ (a : Model.Assembler real). Model.with_assembler real a (as_writer p.writer)) (stopped_is p.writer.assembler s.rows)
    ended_is s false e = ap (λ (x : Logged). as_writer x.writer) (cond_false p.writer.assembler.recording _ _ e)

    rests_at : SoundWriter p.writer → (b c on : Bool) → p.writer.assembler.recording ≡ on
        → as_pass pages order.next keep (cond b p (cond c p (counted p p.queue (ended p.writer)))) image l u
        ≡ cond (Theory.ends_flight real b c on)
        (Theory.with_writer real (Model.with_assembler real (Model.stopped real (as_writer p.writer).assembler) (as_writer p.writer)) view) view
    unfolding counted
    rests_at s true c on e = refl
    rests_at s false true on e = refl
    rests_at s false false true e = ap (λ (w : Model.Writer real). viewed w (as_queue p.queue)) (ended_is s true e)
    rests_at s false false false e = ap (λ (w : Model.Writer real). viewed w (as_queue p.queue)) (ended_is s false e)

    rests_is : SoundWriter p.writer → as_pass pages order.next keep (on_empty_queue order p) image l u ≡ Theory.on_empty_queue real order.record_while_disarmed order.armed view
    unfolding on_empty_queue
    rests_is s = rests_at s order.record_while_disarmed order.armed p.writer.assembler.recording refl

    abbrev theirs : Theory.Pass real
    theirs = Theory.drain real (as_order order keep) view

    module _ (space : log_start + pages * 256 ≤ length image) (s : SoundPass p) (on : p.progress.going ≡ true) where
      writable_is : (n : ℕ) → p.queue.held ≡ n
          → Ends pages order.next keep (Theory.drain_writable real (as_order order keep) (as_queue p.queue) view)
          (cond (eqb p.queue.held 0) (on_empty_queue order p) (turns pages order order.limit p))
          (cond (eqb p.queue.held 0) image (turns_image pages order keep order.limit p image))
      writable_is zero e =
          record {
            logged = l;
            unfinished = u;
            same =
                ap (λ (queue : List FlightRecord). Theory.drain_writable real (as_order order keep) queue view) (none_held p.queue e)
                ∙ sym (rests_is s.sound)
                ∙ ap₂ (λ (x : Pass) (m : List ℕ). as_pass pages order.next keep x m l u)
                (sym (cond_true (eqb p.queue.held 0) _ _ (eq-eqb p.queue.held 0 e))) (sym (cond_true (eqb p.queue.held 0) _ _ (eq-eqb p.queue.held 0 e)));
          }
      writable_is (suc n) e =
          let t = turns_is order.limit p image space s on l u in
          let as_many : (as_order order keep).limit ≡ order.limit = omega arith in
          let away = ne_eqb p.queue.held 0 (λ z. omega arith) in
          record {
            logged = t.logged;
            unfinished = t.unfinished;
            same =
                ap (λ (queue : List FlightRecord). Theory.drain_writable real (as_order order keep) queue view) (one_held p.queue n e)
                ∙ ap (λ (limit : ℕ). Theory.turns real order.record_while_disarmed limit view) as_many
                ∙ t.same
                ∙ ap₂ (λ (x : Pass) (m : List ℕ). as_pass pages order.next keep x m t.logged t.unfinished)
                (sym (cond_false (eqb p.queue.held 0) _ _ away)) (sym (cond_false (eqb p.queue.held 0) _ _ away));
          }

      pub drain_is : Ends pages order.next keep theirs (drain_pass pages order p) (drain_image pages order keep p image)
      unfolding drain_pass drain_image
      drain_is = go p.writer.writable
        where
          go : (z : Bool)
              → Ends pages order.next keep
              (cond z (Theory.drain_writable real (as_order order keep) (as_queue p.queue) view) (Theory.with_queue real (Theory.drop_one real (as_queue p.queue)) view))
              (cond z (cond (eqb p.queue.held 0) (on_empty_queue order p) (turns pages order order.limit p)) (dropping p))
              (cond z (cond (eqb p.queue.held 0) image (turns_image pages order keep order.limit p image)) image)
          go true = writable_is p.queue.held refl
          go false = record { logged = l; unfinished = u; same = sym (dropped_is p.queue.held refl) }

-- "Logged" is what the code did: the theory's device is the view of the bench and the image, and each operation adds to what was logged what it should.
-- Assumes nothing.
use Prim.Native.Nat.{ℕ}
use mathlib.Core.Path.{◌≡◌, refl, sym, ap, ap₂, ◌∙◌}
use mathlib.Core.Bool.{Bool, true, false, cond}
use mathlib.Core.Logic.{◌⊎◌, inl, inr}
use mathlib.Core.List.{List, [], ◌∷◌, ◌++◌, append-nil}
use Rattle.power.specs.Pages.{Each}
use Rattle.power.specs.Writer.{Writer}
use Rattle.power.specs.Calls.{Next, Pass}
use Rattle.power.specs.Life.{Call, Device}
use Rattle.power.specs.Life as Life
use Rattle.power.specs.Reports.{mark_first, LoggedExactly}
use Rattle.power.proofs.Counted.{unwritable_logs_nothing, write_logs_nothing}
use Rattle.power.proofs.Logged.{drain_logs, marks_in_lives}
use Rattle.power.proofs.Moments.{lives_append}
use Rattle.power.proofs.Offers.{ones_loggable}
use Rattle.blackbox.specs.declared.FlightRecord.{FlightRecord}
use Rattle.queue.specs.Queue.{records_held}
use Rattle.power_pages.specs.Store.{real}
use Rattle.power_pages.proofs.Real.{real_lawful}
use Rattle.power_views.specs.Views.{as_next, as_order}
use Rattle.script.specs.Script.{Operation, offers, drains, writes, powers, recovers, resets, flushes, operations}
use Rattle.rig.specs.Rig.{unpowered}
use Rattle.rig.specs.declared.Bench.{Bench}
use Rattle.power_lives.specs.Lives.{takes, drain_of, calls_of, life_from, life_of, device_before, device_after}
use Rattle.power_lives.specs.Theorem.{Plays, log_of, logged_in, bench_after, SameDevice, DevicesAgree, DrainLogged, LoggedBy, LoggedStepByStep, NothingLoggedFirst}
use Rattle.power_lives.proofs.Theorem.{reached, log_is, longer_life}

pub devices_agree : DevicesAgree
devices_agree c image script output p =
    let h = reached c image script output p in
    record {
      log = log_is c image script output p;
      writer = ap (λ (d : Device real). d.writer) h.same;
      queue = ap (λ (d : Device real). d.queue) h.same;
    }

-- every record is of the one edition
one_edition : (records : List FlightRecord) → Each (λ r. ◌≡◌ {A = Unit {0}} tt tt) records
one_edition [] = tt
one_edition (r ∷ records) = (refl, one_edition records)

-- the mark by the same flag, on the same records
marked_as : {logged ones ones' : List FlightRecord} {due due' : Bool} → logged ≡ mark_first real due ones → due ≡ due' → ones ≡ ones'
    → logged ≡ mark_first real due' ones'
marked_as l q r = l ∙ ap₂ (mark_first real) q r

module _ (c : ℕ) (image script output longer output' : List ℕ) (p : Plays c image script output) (p' : Plays c image longer output') where
  abbrev d : Device real
  d = device_after c image script

  abbrev b : Bench
  b = bench_after c image script

  -- the calls of the operation are made where the script ends
  after_one : (o : Operation) → operations longer ≡ operations script ++ o ∷ []
      → device_after c image longer ≡ Life.lives real (calls_of o b) d
  after_one o e =
      ap (λ (l : List (Call real)). Life.lives real l (device_before c image)) (longer_life c image script longer (o ∷ []) e)
      ∙ lives_append real real_lawful (life_of c image script) (calls_of o b ++ []) (device_before c image)
      ∙ ap (λ (l : List (Call real)). Life.lives real l d) (append-nil (calls_of o b))

  -- an operation that logs nothing
  logs_none : (o : Operation) → operations longer ≡ operations script ++ o ∷ [] → Life.history real (Life.lives real (calls_of o b) d) ≡ Life.history real d
      → logged_in c image longer ≡ logged_in c image script
  logs_none o e h = ap (Life.history real) (after_one o e) ∙ h

  module _ (while_disarmed : Bool) (succeed : ℕ) (o : Operation) (e : operations longer ≡ operations script ++ o ∷ []) where
    same : SameDevice c image script output
    same = devices_agree c image script output p

    same' : SameDevice c image longer output'
    same' = devices_agree c image longer output' p'

    drained : (x : Call real) (n : Next (List ℕ)) (pass : Pass real) → calls_of o b ≡ x ∷ [] → Life.call real x d ≡ Life.after_pass real d pass
        → LoggedExactly real while_disarmed (Life.begin real d succeed n) pass
        → DrainLogged while_disarmed b (bench_after c image longer) (logged_in c image script) (logged_in c image longer)
    drained x n pass ox is h =
        record {
          past = d.past;
          now = d.now;
          more = pass.logged;
          was_logged = refl;
          is_logged = ap (Life.history real) there;
          left = h.left;
          rest = h.rest;
          leaving = search (sym same.queue ∙ h.queue);
          waiting = by pass.power_gone refl;
          exactly =
              marked_as {due' = b.writer.boot_session_start} h.logged (search (ap (λ (w : Writer real). w.mark_due) same.writer))
              (ones_loggable real real_lawful tt while_disarmed d.writer.assembler.recording d.writer.assembler.edition (λ z. refl) h.left (one_edition h.left));
        }
      where
        there : device_after c image longer ≡ Life.after_pass real d pass
        there = after_one o e ∙ ap (λ (l : List (Call real)). Life.lives real l d) ox ∙ is

        waits : records_held (bench_after c image longer).queue ≡ pass.queue
        waits = sym same'.queue ∙ ap (λ (x : Device real). x.queue) there

        by : (z : Bool) → pass.power_gone ≡ z
            → (records_held (bench_after c image longer).queue ≡ h.rest) ⊎ (records_held (bench_after c image longer).queue ≡ [])
        by true g = inr (waits ∙ h.cut g)
        by false g = inl (waits ∙ h.alive g)

  logged_by_lem : (o : Operation) → operations longer ≡ operations script ++ o ∷ []
      → LoggedBy o b (bench_after c image longer) (logged_in c image script) (logged_in c image longer)
  logged_by_lem (offers r) e = logs_none (offers r) e (go (takes b))
    where
      go : (z : Bool) → Life.history real (Life.lives real (cond z (Life.offers r ∷ []) []) d) ≡ Life.history real d
      go true = refl
      go false = refl
  logged_by_lem (drains order keep) e = (
    λ on.
        drained order.record_while_disarmed order.succeed (drains order keep) e (drain_of order keep) (as_next order.next keep) _ refl refl
        (drain_logs real real_lawful d (as_order order keep) (ap (λ (w : Writer real). w.writable) (devices_agree c image script output p).writer ∙ on)
        (marks_in_lives real real_lawful (log_of c image) (life_of c image script))),
    λ off.
        logs_none (drains order keep) e
        (ap (λ (l : List (ℕ × FlightRecord)). d.past ++ l ∷ [])
        (ap (λ (l : List (ℕ × FlightRecord)). d.now ++ l)
        (unwritable_logs_nothing real d (as_order order keep) (ap (λ (w : Writer real). w.writable) (devices_agree c image script output p).writer ∙ off))
        ∙ append-nil d.now)),
  )
  logged_by_lem (writes succeed next keep) e =
      logs_none (writes succeed next keep) e
      (ap (λ (l : List (ℕ × FlightRecord)). d.past ++ l ∷ [])
      (ap (λ (l : List (ℕ × FlightRecord)). d.now ++ l) (write_logs_nothing real d succeed (as_next next keep)) ∙ append-nil d.now))
  logged_by_lem powers e = ap (Life.history real) (after_one powers e)
  logged_by_lem (recovers page flight writable) e = logs_none (recovers page flight writable) e refl
  logged_by_lem resets e = logs_none resets e refl
  logged_by_lem (flushes buffered clock) e = logs_none (flushes buffered clock) e refl

pub logged_step_by_step : LoggedStepByStep
logged_step_by_step c image script output longer output' o p p' e = logged_by_lem c image script output longer output' p p' o e

pub nothing_logged_first : NothingLoggedFirst
nothing_logged_first c image script e =
    ap (λ (os : List Operation). Life.history real (Life.lives real (life_from c os unpowered image) (device_before c image))) e

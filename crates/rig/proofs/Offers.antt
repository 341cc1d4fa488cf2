-- What each arm of the player's loop leaves is what the row's operation does. Assumes nothing.
use Prim.Native.Nat.{ℕ, ◌+◌}
use mathlib.Core.Path.{◌≡◌, refl, sym, ap, ◌∙◌, subst}
use mathlib.Core.Bool.{Bool, true, false}
use mathlib.Core.List.{List}
use mir.Val.{bool_byte}
use denote.Ref.{Bor}
use Rattle.blackbox.specs.declared.FlightRecord.{FlightRecord}
use Rattle.store.specs.Store.{no_faults}
use Rattle.records.specs.Scan.{scanned}
use Rattle.queue.specs.Queue.{offered}
use Rattle.log_state.specs.Writer.{recovered}
use Rattle.log_state.specs.Flush.{flushed}
use Rattle.log_state.specs.declared.LogWriter.{LogWriter}
use Rattle.log_state.specs.declared.FlushAnswer.{FlushAnswer}
use Rattle.log_writer.specs.Pass.{drain_report}
use Rattle.log_writer.specs.declared.DrainOrder.{DrainOrder}
use Rattle.log_writer.specs.declared.DrainReport.{DrainReport}
use Rattle.log_writer.specs.declared.NextProgram.{NextProgram}
use Rattle.std.specs.Prelude.{Option, Some, IfSome}
use Rattle.script.specs.Script.{drains, writes, flag_byte, operation_in}
use Rattle.script.specs.Said.{said, Fitting}
use Rattle.script.specs.declared.Operation as Code
use Rattle.script.specs.declared.Operation.TheVariants.{Offer, Drain, Write, Power, Recover, Reset, Flush}
use Rattle.rig.specs.Rig.{bench, playing, offering, powering, played, image_after}
use Rattle.rig.specs.declared.Bench.{Bench}
use Rattle.rig.specs.declared.Played.{Played}

-- what a row says, where it says something
pub says_it : (r : Option Code.Operation) (o : Code.Operation) (row : List ℕ) → IfSome r (λ o. (said o ≡ operation_in row) × Fitting o) → r ≡ Some o
    → said o ≡ operation_in row
says_it r o row h e = let k = subst (λ (x : Option Code.Operation). IfSome x (λ o. (said o ≡ operation_in row) × Fitting o)) e h in k.0

-- ---- a call without a report

-- no page written, no record dropped and no fault
abbrev None : DrainReport → Type 0
None d = (d.pages_written ≡ 0) × ((d.records_dropped ≡ 0) × (d.write_faults ≡ 0))

abbrev told : Bench → ℕ → DrainReport → Played
told b n d = record { bench = b; outcome = n; report = d }

pub quiet : (b : Bench) (n : ℕ) (x : Played) (d : DrainReport) → x ≡ told b n d → None d → x ≡ playing b.writer b.queue n 0 0 0
quiet b n x d ex z = ex ∙ (λ k. told b n (drain_report (z.0 k) (z.1.0 k) (z.1.1 k)))

-- ---- arm by arm

module _ (c : ℕ) (image : List ℕ) (b : Bench) (o : Code.Operation) (image' : List ℕ) (x : Played) where
  -- what was left is what the operation of the row does
  pub record Does : Type 0 where
    pub bench : x ≡ played c (said o) b image
    pub picture : image' ≡ image_after c (said o) b image

  does : (y : Code.Operation) → o ≡ y → x ≡ played c (said y) b image → image' ≡ image_after c (said y) b image → Does
  does y e ex em =
      record {
        bench = ex ∙ ap (λ (z : Code.Operation). played c (said z) b image) (sym e);
        picture = em ∙ ap (λ (z : Code.Operation). image_after c (said z) b image) (sym e);
      }

  pub offer_does : (r : FlightRecord) (p : Played) → o ≡ Offer r → x ≡ p → p ≡ offering b.writer (offered b.queue r) → image' ≡ image → Does
  unfolding played image_after
  offer_does r p e ex ep em = does (Offer r) e (ex ∙ ep) em

  pub drain_does : (order : DrainOrder) (keep : Bor (List ℕ)) (p : Played) → o ≡ Drain order keep → x ≡ p
      → p ≡ played c (drains order keep.now) b image → image' ≡ image_after c (drains order keep.now) b image → Does
  drain_does order keep p e ex ep em = does (Drain order keep) e (ex ∙ ep) em

  pub write_does : (succeed : ℕ) (next : NextProgram) (keep : Bor (List ℕ)) (p : Played) → o ≡ Write succeed next keep → x ≡ p
      → p ≡ played c (writes succeed next keep.now) b image → image' ≡ image_after c (writes succeed next keep.now) b image → Does
  write_does succeed next keep p e ex ep em = does (Write succeed next keep) e (ex ∙ ep) em

  pub power_does : (p : Played) → o ≡ Power → x ≡ p → p ≡ powering (scanned c image (no_faults c)) → image' ≡ image → Does
  unfolding played image_after
  power_does p e ex ep em = does Power e (ex ∙ ep) em

  module _ (v : LogWriter) (n : ℕ) (d : DrainReport) (ex : x ≡ told (bench v b.queue) n d) (z : None d) (em : image' ≡ image) where
    pub recover_does : (page flight : ℕ) (writable : Bool) → o ≡ Recover page flight writable → v ≡ recovered b.writer page flight writable → n ≡ 0
        → Does
    unfolding played image_after
    recover_does page flight writable e ev en =
        does (Recover page flight writable) e (quiet (bench v b.queue) n x d ex z ∙ (λ k. playing (ev k) b.queue (en k) 0 0 0)) em

    pub reset_does : o ≡ Reset → v ≡ recovered b.writer 0 1 true → n ≡ 0 → Does
    unfolding played image_after
    reset_does e ev en = does Reset e (quiet (bench v b.queue) n x d ex z ∙ (λ k. playing (ev k) b.queue (en k) 0 0 0)) em

    pub flush_does : (buffered : Bool) (clock : ℕ) (a : FlushAnswer) → o ≡ Flush buffered clock → a ≡ flushed b.writer buffered clock → v ≡ a.writer
        → n ≡ bool_byte a.flush → Does
    unfolding played image_after
    flush_does buffered clock a e ea ev en =
        does (Flush buffered clock) e
        (quiet (bench v b.queue) n x d ex z ∙ (λ k. playing (ev k) b.queue ((en ∙ flag_as a.flush) k) 0 0 0)
        ∙ ap (λ (y : FlushAnswer). playing y.writer b.queue (flag_byte y.flush) 0 0 0) ea) em
      where
        flag_as : (f : Bool) → bool_byte f ≡ flag_byte f
        flag_as true = refl
        flag_as false = refl

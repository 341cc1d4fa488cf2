-- A write_pending that finds the region full or whose program fails keeps the page waiting. Assumes nothing.
use Prim.Native.Nat.{ℕ}
use Rattle.std.specs.Prelude.{Option, None, Some, is_some, List}
use mathlib.Core.Path.{◌≡◌, refl, sym, ap}
use mathlib.Core.Bool.{Bool, true, false, cond}
use mathlib.Core.Logic.{◌⊎◌, inl, inr}
use lib.Dec.{eqb, ltb}
use lib.ListN.{length}
use Rattle.laws.specs.Refusals.{invalid_layout, bad_length}
use Rattle.laws.specs.Answers.{Answer, gives, refuses, must}
use Rattle.laws.proofs.Chain.{no_refusal}
use Rattle.layout.specs.Layout.{valid_capacity, pages_in}
use Rattle.store.specs.Store.{on_image, on_lengths}
use Rattle.assembler.specs.Assembler.{without_ready, taken}
use Rattle.assembler.proofs.Laws.{never}
use Rattle.queue.specs.declared.RecordQueue.{RecordQueue}
use Rattle.log_state.specs.Writer.{has_pending, waiting_if, fetched, fetched_if_writable}
use Rattle.log_state.specs.declared.LogWriter.{LogWriter}
use Rattle.log_writer.specs.Calls.{WriteTold, write_answer, goes_well, writing, page_write, write_told, page_written}
use Rattle.log_writer.specs.declared.NextProgram.{NextProgram}
use Rattle.log_writer.specs.declared.NextProgram.TheVariants.{Busy, Fault, Cut}
use Rattle.log_writer.specs.declared.PageWrite.{PageWrite}
use Rattle.log_writer.specs.declared.PageWrite.TheVariants.{Nothing, Written, RegionFull, ProgramFailed, PowerCut}
use Rattle.log_laws.specs.Laws.{SamePage, KeepsWaiting, FailureKeepsWaiting}

-- the two outcomes
abbrev keeps : PageWrite → Bool
keeps Nothing = false
keeps Written = false
keeps RegionFull = true
keeps ProgramFailed = true
keeps PowerCut = false

abbrev told_keeps : Answer PageWrite → Bool
told_keeps (gives o) = keeps o
told_keeps (refuses number fault) = false

either_keeps : (a : Answer PageWrite) → (a ≡ gives RegionFull) ⊎ (a ≡ gives ProgramFailed) → told_keeps a ≡ true
either_keeps a (inl e) = ap told_keeps e
either_keeps a (inr e) = ap told_keeps e

module _ (w : LogWriter) (q : RecordQueue) where
  v : LogWriter
  v = fetched_if_writable w

  -- once a ready page was taken
  waits_before : (has_pending v) ≡ true → SamePage w v
  unfolding v fetched_if_writable fetched taken
  waits_before = go w.writable (has_pending w) w.assembler.ready_page refl refl
    where
      out : Bool → Bool → Option (List ℕ) → LogWriter
      out x y o = cond x (cond y w (waiting_if w (without_ready w.assembler) o)) w

      go : (x y : Bool) (o : Option (List ℕ)) → has_pending w ≡ y → w.assembler.ready_page ≡ o → has_pending (out x y o) ≡ true → SamePage w (out x y o)
      go true true o e r h = inl (h, refl)
      go true false (Some page) e r h = inr (e, ap (λ (o : Option (List ℕ)). is_some o) r, cc)
      go true false None e r h = inl (h, refl)
      go false y o e r h = inl (h, refl)

  still_waits : (has_pending v) ≡ true → (o : PageWrite) → KeepsWaiting w (write_answer (gives o) v q)
  unfolding v
  still_waits h o = record { not_refused = λ number fault e. no_refusal (sym e); waits = h; page = waits_before h }

  writing_keeps : (b : Bool) (next : NextProgram) → (has_pending v) ≡ true → told_keeps (writing b next v q).outcome ≡ true
      → KeepsWaiting w (writing b next v q)
  writing_keeps true next h e = never e
  writing_keeps false Busy h e = still_waits h ProgramFailed
  writing_keeps false Fault h e = still_waits h ProgramFailed
  writing_keeps false Cut h e = never e

  write_keeps : (pages : ℕ) (next : NextProgram) (succeed : ℕ) → told_keeps (page_write pages next w q succeed).outcome ≡ true
      → KeepsWaiting w (page_write pages next w q succeed)
  unfolding page_write v
  write_keeps pages next succeed = go (has_pending v) (ltb v.next_page pages) refl
    where
      out : Bool → Bool → WriteTold
      out x y = cond x (cond y (writing (goes_well succeed next) next v q) (write_answer (gives RegionFull) v q)) (write_answer (gives Nothing) v q)

      go : (x y : Bool) → (has_pending v) ≡ x → told_keeps (out x y).outcome ≡ true → KeepsWaiting w (out x y)
      go true true h e = writing_keeps (goes_well succeed next) next h e
      go true false h e = still_waits h RegionFull
      go false y h e = never e

pub failure_keeps_waiting : FailureKeepsWaiting
unfolding page_written on_lengths on_image
failure_keeps_waiting c image keep next w q succeed h =
    go (valid_capacity c) (eqb (length image) c) (eqb (length keep) 256)
    (either_keeps (page_written c image keep next w q succeed).outcome h)
  where
    out : Bool → Bool → Bool → WriteTold
    out x y z = write_told w q (must x invalid_layout (must y bad_length (must z bad_length (gives (page_write (pages_in c) next w q succeed)))))

    go : (x y z : Bool) → told_keeps (out x y z).outcome ≡ true → KeepsWaiting w (out x y z)
    go true true true e = write_keeps w q (pages_in c) next succeed e
    go true true false e = never e
    go true false z e = never e
    go false y z e = never e

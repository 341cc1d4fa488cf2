-- A refused drain or write_pending hands writer, queue and image back as they were. Assumes nothing.
use Prim.Native.Nat.{ℕ}
use mathlib.Core.Path.{◌≡◌, refl, sym}
use mathlib.Core.Bool.{Bool, true, false, cond}
use mathlib.Core.List.{List}
use lib.Dec.{eqb, ltb}
use lib.ListN.{length}
use Rattle.laws.specs.Refusals.{invalid_layout, bad_length}
use Rattle.laws.specs.Answers.{Answer, gives, refuses, must}
use Rattle.laws.proofs.Chain.{no_refusal}
use Rattle.layout.specs.Layout.{valid_capacity, pages_in}
use Rattle.store.specs.Store.{leaves, on_image, on_lengths}
use Rattle.queue.specs.declared.RecordQueue.{RecordQueue}
use Rattle.log_state.specs.Writer.{has_pending, fetched_if_writable}
use Rattle.log_state.specs.declared.LogWriter.{LogWriter}
use Rattle.log_writer.specs.Pass.{begin, drain_pass, drain_image}
use Rattle.log_writer.specs.Calls.{drain_told, drained, after_drain, WriteTold, write_answer, goes_well, writing, page_write, write_image}
use Rattle.log_writer.specs.Calls.{write_told, page_written, after_write}
use Rattle.log_writer.specs.declared.Pass.{Pass}
use Rattle.log_writer.specs.declared.NextProgram.{NextProgram}
use Rattle.log_writer.specs.declared.NextProgram.TheVariants.{Busy, Fault, Cut}
use Rattle.log_writer.specs.declared.PageWrite.{PageWrite}
use Rattle.log_writer.specs.declared.PageWrite.TheVariants.{Nothing, RegionFull}
use Rattle.log_laws.specs.Laws.{Unaltered, DrainRefused, WriteRefused}

same : (w : LogWriter) (q : RecordQueue) (image : List ℕ) → Unaltered w w q q image image
same w q image = record { writer = refl; queue = refl; image = refl }

pub drain_refused : DrainRefused
unfolding drained after_drain on_lengths on_image
drain_refused order c image keep w q number fault = go (valid_capacity c) (eqb (length image) c) (eqb (length keep) 256)
  where
    p : Pass
    p = drain_pass (pages_in c) order (begin w q order.succeed)

    after : List ℕ
    after = drain_image (pages_in c) order keep (begin w q order.succeed) image

    tests : {A : Type 0} → Bool → Bool → Bool → A → Answer A
    tests x y z a = must x invalid_layout (must y bad_length (must z bad_length (gives a)))

    go : (x y z : Bool) → (drain_told w q (tests x y z p)).report ≡ refuses number fault
        → Unaltered w (drain_told w q (tests x y z p)).writer q (drain_told w q (tests x y z p)).queue image (leaves image (tests x y z after))
    go true true true h = absurd (no_refusal (sym h))
    go true true false h = same w q image
    go true false z h = same w q image
    go false y z h = same w q image

-- what write_pending did is never a refusal
abbrev Given : Answer PageWrite → Type 0
Given (gives o) = Unit {0}
Given (refuses number fault) = ⊥

never_refused : (a : Answer PageWrite) (number fault : ℕ) → Given a → a ≡ refuses number fault → ⊥
never_refused (gives o) number fault g e = no_refusal (sym e)
never_refused (refuses n f) number fault g e = g

writing_done : (b : Bool) (next : NextProgram) (w : LogWriter) (q : RecordQueue) → Given (writing b next w q).outcome
writing_done true next w q = tt
writing_done false Busy w q = tt
writing_done false Fault w q = tt
writing_done false Cut w q = tt

write_done : (pages : ℕ) (next : NextProgram) (w : LogWriter) (q : RecordQueue) (succeed : ℕ) → Given (page_write pages next w q succeed).outcome
unfolding page_write
write_done pages next w q succeed = go (has_pending v) (ltb v.next_page pages)
  where
    v : LogWriter
    v = fetched_if_writable w

    go : (x y : Bool)
        → Given (cond x (cond y (writing (goes_well succeed next) next v q) (write_answer (gives RegionFull) v q)) (write_answer (gives Nothing) v q)).outcome
    go true true = writing_done (goes_well succeed next) next v q
    go true false = tt
    go false y = tt

pub write_refused : WriteRefused
unfolding page_written after_write on_lengths on_image
write_refused c image keep next w q succeed number fault = go (valid_capacity c) (eqb (length image) c) (eqb (length keep) 256)
  where
    a : WriteTold
    a = page_write (pages_in c) next w q succeed

    after : List ℕ
    after = write_image (pages_in c) next keep w succeed image

    tests : {A : Type 0} → Bool → Bool → Bool → A → Answer A
    tests x y z e = must x invalid_layout (must y bad_length (must z bad_length (gives e)))

    go : (x y z : Bool) → (write_told w q (tests x y z a)).outcome ≡ refuses number fault
        → Unaltered w (write_told w q (tests x y z a)).writer q (write_told w q (tests x y z a)).queue image (leaves image (tests x y z after))
    go true true true h = absurd (never_refused a.outcome number fault (write_done (pages_in c) next w q succeed) h)
    go true true false h = same w q image
    go true false z h = same w q image
    go false y z h = same w q image

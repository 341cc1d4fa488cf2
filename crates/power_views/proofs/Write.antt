-- write_pending is the theory's write_pending on the view. Assumes nothing.
use Prim.Native.Nat.{ℕ, zero, suc, ◌+◌, ◌*◌, ◌≤◌, ◌<◌}
use mathlib.Core.Path.{◌≡◌, refl, sym, ap, ◌∙◌}
use mathlib.Core.Bool.{Bool, true, false, cond}
use mathlib.Core.List.{List, []}
use Rattle.std.specs.Prelude.{Option, None, Some, is_some}
use native.Mathlib.Numerals.{add-one}
use borrow.Author.Tests.{lt-ltb, le-ltb, ltb-true, ltb-false}
use lib.Dec.{ltb}
use lib.ListN.{length}
use Rattle.power.specs.Writer as Model
use Rattle.power.specs.Calls as Theory
use Rattle.laws.specs.Answers.{gives}
use Rattle.layout.specs.Layout.{log_start}
use Rattle.store.specs.Store.{mask}
use Rattle.queue.specs.Queue.{empty}
use Rattle.queue.specs.declared.RecordQueue.{RecordQueue}
use Rattle.assembler.specs.Assembler as Assembler
use Rattle.assembler.specs.declared.PageAssembler.{PageAssembler}
use Rattle.log_state.specs.Writer.{log_writer, fresh, fetched_if_writable, written}
use Rattle.log_state.specs.WellFormed.{SoundWriter}
use Rattle.log_state.specs.declared.LogWriter.{LogWriter}
use Rattle.log_state.proofs.Sound.{fetched_if_sound}
use Rattle.log_writer.specs.Pass.{begin, programmed_page}
use Rattle.log_writer.specs.Calls.{WriteTold, write_answer, goes_well, writing, page_write, write_image}
use Rattle.log_writer.specs.declared.NextProgram.{NextProgram}
use Rattle.log_writer.specs.declared.NextProgram.TheVariants.{Busy, Fault, Cut}
use Rattle.log_writer.specs.declared.PageWrite.TheVariants.{Nothing, RegionFull}
use Rattle.power_pages.specs.Store.{real, pages_of}
use Rattle.power_pages.proofs.Scan.{length_pages}
use Rattle.power_views.specs.Views.{as_writer, as_queue, as_next, as_pass}
use Rattle.power_views.proofs.Images.{pages_programmed}
use Rattle.power_views.proofs.Steps.{fetched_if_is}

-- what a call of the theory left is what write_pending left, and nothing is logged in it
pub record Leaves (pages : ℕ) (t : Theory.Pass real) (answer : WriteTold) (image : List ℕ) : Type 0 where
  pub log : t.log ≡ pages_of pages image
  pub writer : t.writer ≡ as_writer answer.writer
  pub queue : t.queue ≡ as_queue answer.queue
  pub logged : t.logged ≡ []

leaves_as : {pages : ℕ} {t x : Theory.Pass real} {b : WriteTold} {m : List ℕ} → t ≡ x → Leaves pages x b m → Leaves pages t b m
leaves_as {pages} {t} {x} {b} {m} e h =
    record {
      log = ap (λ (y : Theory.Pass real). y.log) e ∙ h.log;
      writer = ap (λ (y : Theory.Pass real). y.writer) e ∙ h.writer;
      queue = ap (λ (y : Theory.Pass real). y.queue) e ∙ h.queue;
      logged = ap (λ (y : Theory.Pass real). y.logged) e ∙ h.logged;
    }

module _ (pages : ℕ) (keep image : List ℕ) (space : log_start + pages * 256 ≤ length image)
    (a : PageAssembler) (at flight : ℕ) (writable boot : Bool) (since : Option ℕ) (q : RecordQueue) where
  abbrev v : Option (List ℕ) → LogWriter
  v waits = log_writer a waits at flight writable boot since

  abbrev view : Option (List ℕ) → ℕ → NextProgram → Theory.Pass real
  view waits g next = as_pass pages next keep (begin (v waits) q g) image [] None

  abbrev theirs : Option (List ℕ) → ℕ → NextProgram → Theory.Pass real
  theirs waits g next = Theory.write_one real waits (view waits g next)

  abbrev ours : Option (List ℕ) → Bool → ℕ → NextProgram → WriteTold
  ours waits room g next =
      cond (is_some waits) (cond room (writing (goes_well g next) next (v waits) q) (write_answer (gives RegionFull) (v waits) q))
      (write_answer (gives Nothing) (v waits) q)

  abbrev ours_image : Option (List ℕ) → Bool → ℕ → NextProgram → List ℕ
  ours_image waits room g next = cond (is_some waits) (cond room (programmed_page image (v waits) (mask (goes_well g next) keep)) image) image

  module _ (page : List ℕ) (s : SoundWriter (v (Some page))) (room : at < pages) where
    log_is : (k : List ℕ) → Theory.programmed_at real (pages_of pages image) at page k ≡ pages_of pages (programmed_page image (v (Some page)) k)
    log_is k = sym (pages_programmed pages image page k at space room s.page)

    programs : ℕ → NextProgram → Theory.Pass real
    programs g next = Theory.ended_with real (Theory.program real (Theory.unasked real g (as_next next keep)) (as_next next keep) page (view (Some page) g next))

    program_is : (g : ℕ) (next : NextProgram) → Leaves pages (programs g next) (ours (Some page) true g next) (ours_image (Some page) true g next)
    unfolding programs written fresh Assembler.fresh empty
    program_is (suc g) next =
        record { log = log_is []; writer = ap (λ (i : ℕ). as_writer (log_writer a None i flight writable boot since)) (sym (add-one at)); queue = refl; logged = refl }
    program_is zero Busy =
        record { log = log_is []; writer = ap (λ (i : ℕ). as_writer (log_writer a None i flight writable boot since)) (sym (add-one at)); queue = refl; logged = refl }
    program_is zero Fault = record { log = log_is keep; writer = refl; queue = refl; logged = refl }
    program_is zero Cut = record { log = log_is keep; writer = refl; queue = refl; logged = refl }

    theirs_is : (g : ℕ) (next : NextProgram) → theirs (Some page) g next ≡ programs g next
    unfolding programs
    theirs_is g next =
        ap (λ (z : Bool). Theory.ended_with real (cond z (Theory.program real (Theory.unasked real g (as_next next keep)) (as_next next keep) page (view (Some page) g next))
        (Theory.Step.ends (view (Some page) g next)))) (ap (ltb at) (length_pages image 0 pages) ∙ lt-ltb at pages room)

  full_is : (page : List ℕ) (g : ℕ) (next : NextProgram) → pages ≤ at → theirs (Some page) g next ≡ view (Some page) g next
  full_is page g next h =
      ap (λ (z : Bool). Theory.ended_with real (cond z (Theory.program real (Theory.unasked real g (as_next next keep)) (as_next next keep) page (view (Some page) g next))
      (Theory.Step.ends (view (Some page) g next)))) (ap (ltb at) (length_pages image 0 pages) ∙ le-ltb at pages h)

  from_fetched : (waits : Option (List ℕ)) (g : ℕ) (next : NextProgram) → SoundWriter (v waits)
      → Leaves pages (theirs waits g next) (ours waits (ltb at pages) g next) (ours_image waits (ltb at pages) g next)
  from_fetched None g next s = record { log = refl; writer = refl; queue = refl; logged = refl }
  from_fetched (Some page) g next s = by (ltb at pages) refl
    where
      by : (z : Bool) → ltb at pages ≡ z → Leaves pages (theirs (Some page) g next) (ours (Some page) z g next) (ours_image (Some page) z g next)
      by true e = leaves_as (theirs_is page s (ltb-true at pages e) g next) (program_is page s (ltb-true at pages e) g next)
      by false e = leaves_as (full_is page g next (ltb-false at pages e)) (record { log = refl; writer = refl; queue = refl; logged = refl })

pub write_is : (pages : ℕ) (next : NextProgram) (keep image : List ℕ) (w : LogWriter) (q : RecordQueue) (g : ℕ)
    → log_start + pages * 256 ≤ length image → SoundWriter w
    → Leaves pages (Theory.write_pending real (as_pass pages next keep (begin w q g) image [] None)) (page_write pages next w q g) (write_image pages next keep w g image)
unfolding page_write write_image
write_is pages next keep image w q g space s =
    let b = fetched_if_writable w in
    let t = from_fetched pages keep image space b.assembler b.next_page b.next_flight b.writable b.boot_session_start
    b.write_back_since_ms q b.pending g next (fetched_if_sound w s) in
    leaves_as
    (ap (λ (x : Model.Writer real). Theory.write_one real x.waiting (Theory.with_writer real x (as_pass pages next keep (begin w q g) image [] None)))
    (sym (fetched_if_is w))) t

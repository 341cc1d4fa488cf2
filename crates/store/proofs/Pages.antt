-- A program of a whole log page, and one of no bytes. Assumes nothing.
use Prim.Native.Nat.{ℕ, ◌+◌, ◌≤◌, ◌<◌}
use mathlib.Core.Path.{◌≡◌, refl, sym, ap, ◌∙◌}
use mathlib.Core.Bool.{Bool, true, false}
use mathlib.Core.List.{List, []}
use native.Mathlib.Omega.{arith}
use borrow.Author.Tests.{ltb-true, ltb-false}
use lib.Dec.{eqb, ltb}
use lib.ListN.{length}
use Rattle.laws.specs.Answers.{Answer, gives, then}
use Rattle.layout.specs.Layout.{valid_capacity, pages_in, page_at}
use Rattle.layout.proofs.Capacity.{valid}
use Rattle.store.specs.Store.{leaves, replied, part, programmed, mask, program_stores, after_program}
use Rattle.store.specs.Laws.{OnlyAt, EmptyProgram, PageProgrammed, LogPage}
use Rattle.store.proofs.Bytes.{none_yet, programmed_all}
use Rattle.store.proofs.Checks.{in_page}
use Rattle.store.proofs.Laws.{Accepted, program_stores_lem, program_only_its, program_its_part}

pub empty_program : EmptyProgram
empty_program c m a k reply v w l h =
    let ok : Accepted c m a [] k = record { valid = v; whole = w; masked = l; in_page = in_page c a 0 (omega arith) (omega arith) } in
    let stored : program_stores c m a [] k reply ≡ gives (programmed m a [] (mask (eqb reply 0) k)) = program_stores_lem c m a [] k reply ok in
    let same : programmed m a [] (mask (eqb reply 0) k) ≡ m =
    sym (none_yet m a [] (mask (eqb reply 0) k) (omega arith) ∙ programmed_all m a [] (mask (eqb reply 0) k)) in
    (ap (λ (s : Answer (List ℕ)). then s (λ _. replied reply)) stored, ap (leaves m) stored ∙ same)

module _ (c : ℕ) (m : List ℕ) (i : ℕ) (p k : List ℕ) (reply : ℕ) (v : valid_capacity c ≡ true) (w : length m ≡ c) (h : i < pages_in c)
    (n : length p ≡ 256) (l : length k ≡ 256) where
  room : page_at i + length p ≤ length m
  room = let x = valid c v in omega arith

  stored : program_stores c m (page_at i) p k reply ≡ gives (programmed m (page_at i) p (mask (eqb reply 0) k))
  stored =
      program_stores_lem c m (page_at i) p k reply
      record { valid = v; whole = w; masked = l; in_page = in_page c (page_at i) (length p) (omega (arith, room)) (omega arith) }

  new : after_program c m (page_at i) p k reply ≡ programmed m (page_at i) p (mask (eqb reply 0) k)
  new = ap (leaves m) stored

  only_page : OnlyAt (page_at i) 256 m (after_program c m (page_at i) p k reply)
  only_page = rw new (rw n at (program_only_its m (page_at i) p (mask (eqb reply 0) k) room))

  other_page : (j : ℕ) → (j ≡ i → ⊥) → part (page_at j) 256 (after_program c m (page_at i) p k reply) ≡ part (page_at j) 256 m
  other_page j d = go (ltb j i) refl
    where
      go : (q : Bool) → ltb j i ≡ q → part (page_at j) 256 (after_program c m (page_at i) p k reply) ≡ part (page_at j) 256 m
      go true e = let b = ltb-true j i e in only_page.part_below (page_at j) 256 (omega arith)
      go false e = let b = ltb-false j i e in only_page.part_above (page_at j) 256 (omega arith)

  page_programmed : PageProgrammed c m i p k reply
  page_programmed =
      record {
        answers = ap (λ (s : Answer (List ℕ)). then s (λ _. replied reply)) stored;
        only = only_page;
        own = ap (part (page_at i) 256) new ∙ (rw n at (program_its_part m (page_at i) p (mask (eqb reply 0) k) room));
        others = other_page;
      }

pub log_page : LogPage
log_page = page_programmed

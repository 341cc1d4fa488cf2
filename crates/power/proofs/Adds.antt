-- Whole pages stay and records are only added behind: over one program of a page that waits, and over many. Assumes nothing.
use Prim.Native.Nat.{ℕ, ◌<◌}
use mathlib.Core.Path.{◌≡◌, refl, sym, ap, ◌∙◌}
use Rattle.std.specs.Prelude.{Option, None, Some}
use mathlib.Core.Logic.{inl, inr}
use mathlib.Core.List.{List, [], ◌∷◌, ◌++◌, append_assoc, append-nil}
use native.Mathlib.Omega.{arith}
use native.Mathlib.Decide.{ℕ_discrete}
use lib.ListN.{length, set, length-append, length-set}
use lib.Seq.{set_at, get_or_at, get_or-set_same, get_or-set_other}
use Rattle.power.specs.Pages.{Decoded, PageStore}
use Rattle.power.specs.Lawful.{Lawful}
use Rattle.power.specs.Reading.{Whole, page_at, records_of, records_on}
use Rattle.power.specs.Claims.{OnlyAdds}
use Rattle.power.specs.Calls.{programmed_cell, programmed_at}
use Rattle.power.specs.Life.{Undecoded}
use Rattle.power.proofs.Used.{none_some, records_append, records_blanks}
use Rattle.power.proofs.Invariant.{Tail}

module _ {Page Record Mask : Type 0} (S : PageStore Page Record Mask) (L : Lawful S) where
  pub adds_none : (l : List Page) → OnlyAdds S l l
  adds_none l = record { as_long = refl; stays = λ i c d. refl; added = ([], sym (append-nil (records_on S l))) }

  pub adds_then : {l₁ l₂ l₃ : List Page} → OnlyAdds S l₁ l₂ → OnlyAdds S l₂ l₃ → OnlyAdds S l₁ l₃
  adds_then {l₁} {l₂} {l₃} a b =
      record {
        as_long = b.as_long ∙ a.as_long;
        stays = λ i c d. b.stays i c (rw (a.stays i c d) d) ∙ a.stays i c d;
        added = (a.added.0 ++ b.added.0, b.added.1 ∙ rw a.added.1 (append_assoc (records_on S l₁) a.added.0 b.added.0));
      }

  -- the cell of the next page is there, if the next page is in the log
  pub cell_there : (base more : List Page) (nx : ℕ) → nx ≡ length base → nx < length (base ++ more) → (cell : Page) × (rest : List Page) × (more ≡ cell ∷ rest)
  cell_there base [] nx e h = absurd (omega (arith, length-append base []))
  cell_there base (cell ∷ rest) nx e h = (cell, rest, refl)

  -- the log after a program at the cell behind the used pages
  module _ (l base rest : List Page) (cell page : Page) (nx : ℕ) (keep : Mask) (e : l ≡ base ++ cell ∷ rest) (h : nx ≡ length base) where
    pub cell_is : page_at S l nx ≡ cell
    cell_is = rw e (get_or_at base cell rest S.blank nx (sym h))

    pub program_at : programmed_at S l nx page keep ≡ base ++ S.programmed cell page keep ∷ rest
    program_at =
        ap (λ (c : Page). set l nx (S.programmed c page keep)) cell_is
        ∙ ap (λ (log : List Page). set log nx (S.programmed cell page keep)) e
        ∙ set_at base cell rest (S.programmed cell page keep) nx (sym h)

    next_inside : nx < length l
    next_inside = omega (arith, ap length e, length-append base (cell ∷ rest))

    pub program_adds : Tail S L page (cell ∷ rest) → OnlyAdds S l (programmed_at S l nx page keep)
    program_adds tail = record { as_long = length-set l nx (programmed_cell S l nx page keep); stays = stays; added = added (S.decode cell) refl }
      where
        -- the cell decodes only if it is the page itself
        same : (c : Decoded Record) → Whole S cell c → Undecoded S (Some (page, cell)) → S.programmed cell page keep ≡ cell
        same c d (inl y) = absurd (none_some y d)
        same c d (inr y) = rw y (L.program_self page keep)

        stays : (i : ℕ) (c : Decoded Record) → Whole S (page_at S l i) c → page_at S (programmed_at S l nx page keep) i ≡ page_at S l i
        stays i c d = go (ℕ_discrete i nx)
          where
            go : Dec (i ≡ nx) → page_at S (programmed_at S l nx page keep) i ≡ page_at S l i
            go (yes q) =
                rw q
                (get_or-set_same l nx (programmed_cell S l nx page keep) S.blank next_inside ∙ ap (λ (x : Page). S.programmed x page keep) cell_is
                ∙ same c (rw (q, cell_is) at d) tail.1 ∙ sym cell_is)
            go (no q) = get_or-set_other l nx i (programmed_cell S l nx page keep) S.blank q

        behind : records_on S rest ≡ []
        behind = records_blanks S L rest tail.2

        added : (d : Option (Decoded Record)) → S.decode cell ≡ d
            → (more : List (ℕ × Record)) × (records_on S (programmed_at S l nx page keep) ≡ records_on S l ++ more)
        added None d = (
          records_of S (S.decode (S.programmed cell page keep)),
          rw program_at (records_append S L base (S.programmed cell page keep ∷ rest) ∙ rw (behind, append-nil) (sym unread)),
        )
          where
            unread : records_on S l ++ records_of S (S.decode (S.programmed cell page keep)) ≡ records_on S base ++ records_of S
                (S.decode (S.programmed cell page keep))
            unread = rw (e, records_append S L base (cell ∷ rest), d, behind, append-nil (records_on S base)) refl
        added (Some c) d = ([], rw (program_at, same c d tail.1, ← e) (sym (append-nil (records_on S l))))

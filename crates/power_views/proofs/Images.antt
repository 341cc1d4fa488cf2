-- A program of one page of the log, on the image, is that page programmed in the list of pages. Assumes nothing.
use Prim.Native.Nat.{ℕ, zero, suc, ◌+◌, ◌*◌, ◌≤◌, ◌<◌}
use mathlib.Core.Path.{◌≡◌, refl, sym, ap, ap₂, ◌∙◌}
use mathlib.Core.List.{List, ◌∷◌}
use native.Mathlib.Nat.{add-zero}
use native.Mathlib.Decide.{dec_lt}
use native.Mathlib.Omega.{arith}
use lib.ListN.{length, get_or, set}
use Rattle.layout.specs.Layout.{log_start, page_at}
use Rattle.store.specs.Store.{programmed, programmed_bytes}
use Rattle.store.specs.Laws.{OnlyAt}
use Rattle.store.proofs.Laws.{only_its_bytes, its_bytes}
use Rattle.blackbox.specs.Page.{blank_page}
use Rattle.records.specs.Pages.{page_in}
use Rattle.power_pages.specs.Store.{pages_from, pages_of}
use Rattle.power_pages.proofs.Scan.{page_at_lem}

-- pages that are the same one by one
pages_same : (a b : List ℕ) (n s : ℕ) → ((j : ℕ) → s ≤ j → page_in a j ≡ page_in b j) → pages_from a s n ≡ pages_from b s n
unfolding pages_from
pages_same a b zero s h = refl
pages_same a b (suc n) s h =
    ap₂ {C = List (List ℕ)} (λ (x : List ℕ) (l : List (List ℕ)). x ∷ l) (h s (omega arith)) (pages_same a b n (suc s) (λ j l. h j (omega arith)))

-- but for one
pages_set : (a b : List ℕ) (n s k : ℕ) → k < n → ((j : ℕ) → (j ≡ s + k → ⊥) → page_in a j ≡ page_in b j)
    → pages_from a s n ≡ set (pages_from b s n) k (page_in a (s + k))
unfolding pages_from
pages_set a b zero s k l h = absurd (omega arith)
pages_set a b (suc n) s zero l h =
    ap₂ {C = List (List ℕ)} (λ (x : List ℕ) (y : List (List ℕ)). x ∷ y) (ap (page_in a) (sym (add-zero s)))
    (pages_same a b n (suc s) (λ j g. h j (λ e. omega (arith, add-zero s))))
pages_set a b (suc n) s (suc k) l h =
    ap₂ {C = List (List ℕ)} (λ (x : List ℕ) (y : List (List ℕ)). x ∷ y) (h s (λ e. omega arith))
    (pages_set a b n (suc s) k (omega arith) (λ j g. h j (λ e. g (omega arith)))
    ∙ ap (λ (i : ℕ). set (pages_from b (suc s) n) k (page_in a i)) {x = suc s + k} {y = s + suc k} (omega arith))

module _ (pages : ℕ) (image page keep : List ℕ) (i : ℕ) (room : log_start + pages * 256 ≤ length image) (l : i < pages) (long : length page ≡ 256) where
  inside : page_at i + length page ≤ length image
  inside = omega (arith, within)
    where
      within : i * 256 + 256 ≤ pages * 256
      within = omega arith

  only : OnlyAt (page_at i) 256 image (programmed image (page_at i) page keep)
  only = rw long at (only_its_bytes image (page_at i) page keep inside)

  its_page : page_in (programmed image (page_at i) page keep) i ≡ programmed_bytes (page_in image i) page keep
  its_page = rw long at (its_bytes image (page_at i) page keep inside)

  below : (j : ℕ) → j < i → page_in (programmed image (page_at i) page keep) j ≡ page_in image j
  below j h = only.part_below (page_at j) 256 (omega arith)

  above : (j : ℕ) → i < j → page_in (programmed image (page_at i) page keep) j ≡ page_in image j
  above j h = only.part_above (page_at j) 256 (omega arith)

  others : (j : ℕ) → (j ≡ 0 + i → ⊥) → page_in (programmed image (page_at i) page keep) j ≡ page_in image j
  others j h = elim (dec_lt j i) [ yes k ↦ below j k | no k ↦ above j (omega arith) ]

  pub pages_programmed : pages_of pages (programmed image (page_at i) page keep)
      ≡ set (pages_of pages image) i (programmed_bytes (get_or (pages_of pages image) i blank_page) page keep)
  pages_programmed =
      let z : 0 + i ≡ i = omega arith in
      pages_set (programmed image (page_at i) page keep) image pages 0 i l others
      ∙ ap (set (pages_of pages image) i)
      (ap (page_in (programmed image (page_at i) page keep)) z ∙ its_page
      ∙ ap (λ (p : List ℕ). programmed_bytes p page keep) (sym (page_at_lem image pages i l)))

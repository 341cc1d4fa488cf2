-- A scan without faults. Assumes nothing.
use Prim.Native.Nat.{ℕ, zero, suc, ◌/◌}
use mathlib.Core.Path.{◌≡◌, refl, sym, ap, ◌∙◌}
use mathlib.Core.List.{List, []}
use lib.ListN.{length, get_or, replicate, length-replicate}
use Rattle.std.specs.Prelude.{Result}
use Rattle.laws.specs.Answers.{Answer, gives, refuses, told}
use Rattle.laws.specs.declared.Refusal.{Refusal}
use Rattle.layout.specs.Layout.{pages_in}
use Rattle.store.specs.Store.{no_faults, on_image, on_lengths}
use Rattle.store.proofs.Checks.{on_lengths_lem, image_refused, image_held}
use Rattle.records.specs.Scan.{scan_pages, scanned}
use Rattle.records.proofs.Faults.{scan_alike}
use Rattle.records.specs.declared.Scan.{Scan}

-- ---- a scan without faults

-- a fault byte that isn't there is 0, as each of those that are
no_fault : (n i : ℕ) → get_or {A = ℕ} [] i 0 ≡ get_or (replicate n 0) i 0
no_fault zero i = refl
no_fault (suc n) zero = refl
no_fault (suc n) (suc i) = no_fault n i

module _ (c : ℕ) (image : List ℕ) where
  pub scan_refused : (x y : ℕ) → ◌≡◌ {A = Answer (Unit {0})} (refuses x y) (on_image c (length image) (gives tt))
      → refuses x y ≡ scanned c image (no_faults c)
  unfolding scanned on_lengths
  scan_refused x y e = image_refused c (length image) tt _ x y e

  pub scan_made : (u : Unit {0}) (s : Result Scan Refusal) (pages : ℕ) → gives u ≡ on_image c (length image) (gives tt) → pages ≡ pages_in c
      → told s ≡ scan_pages pages image [] → told s ≡ scanned c image (no_faults c)
  unfolding scanned
  scan_made u s pages e ep es =
      let h = image_held {B = Unit {0}} c (length image) (tt {0}) (gives tt) u e in
      es ∙ ap (λ (n : ℕ). scan_pages n image []) ep ∙ scan_alike image [] (no_faults c) (λ a. no_fault (c / 256) (a / 256)) (pages_in c)
      ∙ sym (on_lengths_lem c (length image) (length (no_faults c)) (c / 256) _ h.0 h.1 (length-replicate (c / 256) 0))

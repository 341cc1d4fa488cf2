-- Pages of rows, over the records per page of an edition: a page takes one more record until it is full, and what is lost with one page is
-- no more than may be. Assumes nothing.
use Prim.Native.Nat.{ℕ, suc, ◌≤◌}
use mathlib.Core.Path.{◌≡◌, refl, ap}
use mathlib.Core.Bool.{true, false, not}
use mathlib.Core.List.{List, [], ◌∷◌, ◌++◌}
use native.Mathlib.Omega.{arith}
use borrow.Author.Tests.{lt-ltb, ltb-true, not-false}
use lib.Dec.{ltb}
use lib.ListN.{length, length-append}
use Rattle.power.specs.Pages.{PageStore, Each, in_flight, Packs, full, last_per_page, most_lost}
use Rattle.power.specs.Lawful.{Lawful}

each_more : {A : Type 0} (P : A → Type 0) (xs : List A) (x : A) → Each P xs → P x → Each P (xs ++ x ∷ [])
each_more P [] x h k = (k, tt)
each_more P (y ∷ xs) x h k = (h.0, each_more P xs x h.1 k)

module _ {Page Record Mask : Type 0} (S : PageStore Page Record Mask) (L : Lawful S) where
  -- what may be lost of itself
  abbrev pub Short : List (ℕ × Record) → Type 0
  Short lost = length lost ≤ most_lost S lost

  pub full_none : (e : S.Edition) → full S e [] ≡ false
  full_none e = ap not (lt-ltb 0 (S.per_page e) (L.some_room e))

  pub packs_none : (e : S.Edition) → Packs S e []
  packs_none e = record { few = omega arith; each = tt }

  pub packs_more : (e : S.Edition) (rows : List Record) (r : Record) → Packs S e rows → full S e rows ≡ false → S.Fits r → S.joins e r ≡ true
      → Packs S e (rows ++ r ∷ [])
  packs_more e rows r h unfilled fits joins =
      record {
        few = omega (arith, length-append rows (r ∷ []), ltb-true (length rows) (S.per_page e) (not-false (ltb (length rows) (S.per_page e)) unfilled));
        each = each_more (λ x. S.Fits x × (S.edition x ≡ e)) rows r h.each (fits, L.joins_is e r joins);
      }

  pub short_none : Short []
  short_none = omega arith

  pub length_in_flight : (f : ℕ) (rows : List Record) → length (in_flight f rows) ≡ length rows
  length_in_flight f [] = refl
  length_in_flight f (r ∷ rows) = ap suc (length_in_flight f rows)

  last_page : (e : S.Edition) (f n : ℕ) (rows : List Record) → Each (λ r. S.Fits r × (S.edition r ≡ e)) rows → n ≡ S.per_page e
      → last_per_page S n (in_flight f rows) ≡ S.per_page e
  last_page e f n [] h k = k
  last_page e f n (r ∷ rows) h k = last_page e f (S.per_page (S.edition r)) rows h.1 (ap S.per_page h.0.1)

  -- the rows of one page are few enough to be lost
  pub short_page : (e : S.Edition) (f : ℕ) (rows : List Record) → Packs S e rows → Short (in_flight f rows)
  short_page e f [] h = omega arith
  short_page e f (r ∷ rows) h =
      omega (arith, length_in_flight f (r ∷ rows), h.few, last_page e f (S.per_page (S.edition r)) rows h.each.1 (ap S.per_page h.each.0.1))

  last_behind : (n m : ℕ) (kept : List (ℕ × Record)) (x : ℕ × Record) (lost : List (ℕ × Record))
      → last_per_page S n (kept ++ x ∷ lost) ≡ last_per_page S m (x ∷ lost)
  last_behind n m [] x lost = refl
  last_behind n m (k ∷ kept) x lost = last_behind (S.per_page (S.edition k.1)) m kept x lost

  -- what is lost behind what was kept is as few by the last record logged
  pub lost_few : (kept lost : List (ℕ × Record)) → Short lost → length lost ≤ most_lost S (kept ++ lost)
  lost_few kept [] h = omega arith
  lost_few kept (x ∷ lost) h = omega (arith, last_behind 0 0 kept x lost)

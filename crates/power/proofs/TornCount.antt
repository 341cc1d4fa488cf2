-- Counting torn pages: over lists of pages, over a program at the cell behind the used pages, and what a call may add. Assumes nothing.
use Prim.Native.Nat.{ℕ, suc, ◌+◌, ◌≤◌}
use mathlib.Core.Logic.{◌⊎◌, inl, inr}
use mathlib.Core.Path.{◌≡◌, refl, sym, ap, ◌∙◌}
use mathlib.Core.Bool.{Bool, true, false}
use Rattle.std.specs.Prelude.{Option, None, Some}
use mathlib.Core.List.{List, [], ◌∷◌, ◌++◌}
use native.Mathlib.Omega.{arith}
use lib.ListN.{length, take}
use lib.Seq.{take_at, append_snoc}
use Rattle.power.specs.Pages.{Decoded, PageStore}
use Rattle.power.specs.Lawful.{Lawful}
use Rattle.power.specs.Reading.{Blanks, Whole, Torn, page_at}
use Rattle.power.specs.Writer.{Writer}
use Rattle.power.specs.Calls.{Pass}
use Rattle.power.specs.Torn.{torn_one, torn_in}
use Rattle.power.proofs.Used.{length_snoc, blank_yes, none_some}

module _ {Page Record Mask : Type 0} (S : PageStore Page Record Mask) (L : Lawful S) where
  torn_few : (blank : Bool) (o : Option (Decoded Record)) → torn_one S blank o ≤ 1
  torn_few blank (Some c) = omega arith
  torn_few true None = omega arith
  torn_few false None = omega arith

  pub torn_append : (a b : List Page) → torn_in S (a ++ b) ≡ torn_in S a + torn_in S b
  torn_append [] b = omega arith
  torn_append (p ∷ a) b = omega (arith, torn_append a b)

  torn_blank : (page : Page) → page ≡ S.blank → torn_one S (S.is_blank page) (S.decode page) ≡ 0
  torn_blank page e = rw (e, blank_yes S L S.blank refl, L.decode_blank) refl

  pub torn_blanks : (l : List Page) → Blanks S l → torn_in S l ≡ 0
  torn_blanks [] h = refl
  torn_blanks (p ∷ l) h = omega (arith, torn_blank p h.0, torn_blanks l h.1)

  pub torn_whole : (page : Page) (c : Decoded Record) → Whole S page c → torn_one S (S.is_blank page) (S.decode page) ≡ 0
  torn_whole page c d = rw d refl

  -- a page behind others, blank ones behind it
  module _ (l base rest : List Page) (cell : Page) (nx : ℕ) (e : l ≡ base ++ cell ∷ rest) (h : nx ≡ length base) (b : Blanks S rest) where
    pub torn_below : torn_in S (take nx l) ≡ torn_in S base
    torn_below = rw e (ap (torn_in S) (take_at base (cell ∷ rest) nx (sym h)))

    pub torn_here : torn_in S l ≤ suc (torn_in S base)
    torn_here = rw e (omega (arith, torn_append base (cell ∷ rest), torn_few (S.is_blank cell) (S.decode cell), torn_blanks rest b))

    pub torn_at_least : torn_in S base ≤ torn_in S l
    torn_at_least = rw e (omega (arith, torn_append base (cell ∷ rest)))

    module _ (c : Decoded Record) (d : Whole S cell c) where
      pub torn_not : torn_in S l ≡ torn_in S base
      torn_not = rw e (omega (arith, torn_append base (cell ∷ rest), torn_whole cell c d, torn_blanks rest b))

      pub torn_below_next : torn_in S (take (suc nx) l) ≡ torn_in S base
      torn_below_next =
          rw (e, ← append_snoc base cell rest)
          (ap (torn_in S) (take_at (base ++ cell ∷ []) rest (suc nx) (omega (arith, h, length_snoc base cell)))
          ∙ omega (arith, torn_append base (cell ∷ []), torn_whole cell c d))

  -- at most one page of a list is used, the first
  abbrev pub AtFront : List Page → Type 0
  AtFront [] = Unit {0}
  AtFront (cell ∷ rest) = Blanks S rest

  pub blanks_front : (l : List Page) → Blanks S l → AtFront l
  blanks_front [] h = tt
  blanks_front (p ∷ l) h = h.1

  -- so many torn pages at most, then one page that may be torn too, then blank ones
  pub record Ends (so_many : ℕ) (l : List Page) : Type 0 where
    pub base : List Page
    pub rest : List Page
    pub split : l ≡ base ++ rest
    pub few : torn_in S base ≤ so_many
    pub front : AtFront rest

  -- at most one torn page more than so many; none among those below the next page, and none at all while no page waits
  pub record Few (so_many : ℕ) (l : List Page) (w : Writer S) : Type 0 where
    pub at_most : torn_in S l ≤ suc so_many
    pub below : w.writable ≡ true → torn_in S (take w.next_page l) ≤ so_many
    pub clear : w.writable ≡ true → w.waiting ≡ None → torn_in S l ≤ so_many
    pub ends : Ends so_many l

  -- the first k pages are below the next page of a writer that may write
  abbrev pub Under : ℕ → Writer S → Type 0
  Under k w = w.writable ≡ true → k ≤ w.next_page

  abbrev pub LeftTorn : Pass S → Pass S → ℕ → Type 0
  LeftTorn p q i = Torn S (page_at S p.log i) ⊎ ((page : Page) × (q.unfinished ≡ Some (page, page_at S q.log i)))

  -- from one moment of a call to another
  pub record Tears (p q : Pass S) : Type 0 where
    pub few : (so_many : ℕ) → Few so_many p.log p.writer → Few so_many q.log q.writer
    pub calm : q.unfinished ≡ None → (p.unfinished ≡ None) × (torn_in S q.log ≤ torn_in S p.log)
    pub front : (k : ℕ) → Under k p.writer → (take k q.log ≡ take k p.log) × Under k q.writer
    -- a page that is torn was torn before, or the program that was left unfinished left it
    pub left : p.unfinished ≡ None → (i : ℕ) → Torn S (page_at S q.log i) → LeftTorn p q i

  pub tears_none : (p : Pass S) → Tears p p
  tears_none p = record { few = λ n f. f; calm = λ u. (u, omega arith); front = λ k u. (refl, u); left = λ u i t. inl t }

  -- where the first leaves no program unfinished
  pub tears_then : {p q r : Pass S} → q.unfinished ≡ p.unfinished → Tears p q → Tears q r → Tears p r
  tears_then {p} {q} {r} e a b =
      record {
        few = λ n f. b.few n (a.few n f);
        calm = λ u. ((a.calm (b.calm u).0).0, omega (arith, (a.calm (b.calm u).0).1, (b.calm u).1));
        front = λ k u. ((b.front k (a.front k u).1).0 ∙ (a.front k u).0, (b.front k (a.front k u).1).1);
        left = λ u i t. second u i (b.left (e ∙ u) i t);
      }
    where
      first : (i : ℕ) → q.unfinished ≡ None → LeftTorn p q i → Torn S (page_at S p.log i)
      first i u (inl t) = t
      first i u (inr l) = absurd (none_some u l.1)

      second : p.unfinished ≡ None → (i : ℕ) → LeftTorn q r i → LeftTorn p r i
      second u i (inl t) = inl (first i (e ∙ u) (a.left u i t))
      second u i (inr l) = inr l

  -- nothing but the writer changed, and of that neither the next page nor whether it may write, and no page waits that did not before
  pub tears_as : (p q : Pass S) → q.log ≡ p.log → q.unfinished ≡ p.unfinished → q.writer.next_page ≡ p.writer.next_page
      → (q.writer.writable ≡ true → p.writer.writable ≡ true) → (q.writer.waiting ≡ None → p.writer.waiting ≡ None) → Tears p q
  tears_as p q e u x on wait =
      record {
        few = λ n f.
            record {
              at_most = rw e f.at_most;
              below = λ a. rw (e, x) (f.below (on a));
              clear = λ a b. rw e (f.clear (on a) (wait b));
              ends = rw e f.ends;
            };
        calm = λ k. (sym u ∙ k, rw e (omega arith));
        front = λ k h. (ap (take k) e, λ a. rw x (h (on a)));
        left = λ u i t. inl (rw e at t);
      }

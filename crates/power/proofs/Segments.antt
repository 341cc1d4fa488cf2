-- The law of segments: the kept parts of the power-ons, each beginning with its mark and having no other, are what the log splits into.
-- Assumes nothing.
use Prim.Native.Nat.{ℕ}
use mathlib.Core.Path.{◌≡◌, refl, sym, ap, ◌∙◌, subst}
use mathlib.Core.Bool.{Bool, true, false}
use mathlib.Core.List.{List, [], ◌∷◌, ◌++◌, append_assoc, append-nil}
use native.Mathlib.Omega.{arith}
use Rattle.power.specs.Pages.{PageStore, Each}
use Rattle.power.specs.Lawful.{Lawful}
use Rattle.power.specs.Reading.{records_on}
use Rattle.power.specs.Claims.{Kept, no_power_on, power_on_lem}
use Rattle.power.specs.Life.{Call, offers, drains, writes, powers, lives, unpowered, history}
use Rattle.power.specs.Theorem.{erased}
use Rattle.power.specs.Segments.{Split, split_more, split_by, joined, filled, FirstRest, KeptPart, KeptParts, starts, PlainOffers}
use Rattle.power.specs.Segments.{FirstMarked, Segmented, SegmentsFromErased, SegmentsFromBeginning}
use Rattle.power.proofs.Passes.{each_append}
use Rattle.power.proofs.Theorem.{every_life, from_erased}
use Rattle.power.proofs.Marked.{first_left, OffersAre, well_lives, well_unpowered}

-- ---- lists

pub joined_more : {A : Type 0} (parts : List (List A)) (xs : List A) → joined (parts ++ xs ∷ []) ≡ joined parts ++ xs
joined_more [] xs = append-nil xs
joined_more {A} (p ∷ parts) xs = ap (λ (l : List A). p ++ l) (joined_more parts xs) ∙ sym (append_assoc p (joined parts) xs)

module _ {A : Type 0} (test : A → Bool) where
  abbrev split_after : List A → Split A → Split A
  split_after xs s = record { before = xs ++ s.before; segments = s.segments }

  split_plain : (xs ys : List A) → Each (λ x. test x ≡ false) xs → split_by test (xs ++ ys) ≡ split_after xs (split_by test ys)
  split_plain [] ys h = refl
  split_plain (x ∷ xs) ys h =
      ap (λ (s : Split A). split_more (test x) x s) (split_plain xs ys h.1)
      ∙ ap (λ (b : Bool). split_more b x (split_after xs (split_by test ys))) h.0

  -- lists of which the first is a mark and no other is, one after another, are split again into those that are not empty
  pub split_joined : (parts : List (List A)) → Each (FirstRest (λ x. test x ≡ true) (λ x. test x ≡ false)) parts
      → split_by test (joined parts) ≡ record { before = []; segments = filled parts }
  split_joined [] h = refl
  split_joined ([] ∷ parts) h = split_joined parts h.1
  split_joined ((x ∷ xs) ∷ parts) h =
      ap (λ (s : Split A). split_more (test x) x s) (split_plain xs (joined parts) h.0.1)
      ∙ ap (λ (b : Bool). split_more b x (split_after xs (split_by test (joined parts)))) h.0.0
      ∙ ap (λ (s : Split A). split_more true x (split_after xs s)) (split_joined parts h.1)
      ∙ ap (λ (l : List A). record { before = []; segments = (x ∷ l) ∷ filled parts }) (append-nil xs)

module _ {Page Record Mask : Type 0} (S : PageStore Page Record Mask) (L : Lawful S) where
  kept_parts_more : (hist parts : List (List (ℕ × Record))) (logged kept : List (ℕ × Record)) → KeptParts S hist parts → KeptPart S logged kept
      → KeptParts S (hist ++ logged ∷ []) (parts ++ kept ∷ [])
  kept_parts_more [] [] logged kept h k = (k, tt)
  kept_parts_more [] (p ∷ parts) logged kept h k = absurd h
  kept_parts_more (l ∷ hist) [] logged kept h k = absurd h
  kept_parts_more (l ∷ hist) (p ∷ parts) logged kept h k = (h.0, kept_parts_more hist parts logged kept h.1 k)

  -- the records on flash are the kept parts, one for each power-on
  pub record PartsOf (there : List (ℕ × Record)) (hist : List (List (ℕ × Record))) (flash : List (ℕ × Record)) : Type 0 where
    pub parts : List (List (ℕ × Record))
    pub kept : KeptParts S hist parts
    pub on_flash_lem : flash ≡ there ++ joined parts

  pub parts_of : {there : List (ℕ × Record)} {hist : List (List (ℕ × Record))} {flash : List (ℕ × Record)} → Kept S there hist flash
      → PartsOf there hist flash
  parts_of {there} no_power_on = record { parts = []; kept = tt; on_flash_lem = sym (append-nil there) }
  parts_of {there} (power_on_lem {history = h} {flash = f} kept lost k s) =
      let i = parts_of k in
      record {
        parts = i.parts ++ kept ∷ [];
        kept = kept_parts_more h i.parts (kept ++ lost) kept i.kept (record { lost = lost; short = omega (arith, s); all = refl });
        on_flash_lem =
            ap (λ (l : List (ℕ × Record)). l ++ kept) i.on_flash_lem ∙ append_assoc there (joined i.parts) kept
            ∙ ap (λ (l : List (ℕ × Record)). there ++ l) (sym (joined_more i.parts kept));
      }

  pub parts_marked : (hist parts : List (List (ℕ × Record))) → KeptParts S hist parts → Each (FirstMarked S) hist → Each (FirstMarked S) parts
  parts_marked [] [] k h = tt
  parts_marked [] (p ∷ parts) k h = absurd k
  parts_marked (l ∷ hist) [] k h = absurd k
  parts_marked (l ∷ hist) (p ∷ parts) k h = (
    first_left (λ entry. starts S entry ≡ true) (λ entry. starts S entry ≡ false) p k.0.lost
        (subst (FirstMarked S) k.0.all h.0),
    parts_marked hist parts k.1 h.1,
  )

  parts_segmented : (hist parts : List (List (ℕ × Record))) → KeptParts S hist parts → Each (FirstMarked S) hist → Segmented S hist (joined parts)
  parts_segmented hist parts k h =
      record { parts = parts; kept = k; on_flash_lem = refl; marks = h; segments = split_joined (starts S) parts (parts_marked hist parts k h) }

  pub segmented : (hist : List (List (ℕ × Record))) (flash : List (ℕ × Record)) → Kept S [] hist flash → Each (FirstMarked S) hist
      → Segmented S hist flash
  segmented hist flash k h =
      let i = parts_of k in
      subst (Segmented S hist) (sym i.on_flash_lem) (parts_segmented hist i.parts i.kept h)

  abbrev Marked : Record → Type 0
  Marked r = S.has_mark r ≡ true

  abbrev Plain : Record → Type 0
  Plain r = S.has_mark r ≡ false

  setting : (r : Record) → Plain r → Marked (S.marked r)
  setting r h = L.mark_set r

  abbrev AnyEdition : S.Edition → Type 0
  AnyEdition e = Unit {0}

  any_own : (r : Record) → Plain r → AnyEdition (S.edition r)
  any_own r h = tt

  offers_are : (life : List (Call S)) → PlainOffers S life → OffersAre S L Marked Plain AnyEdition setting any_own life
  offers_are [] h = tt
  offers_are (offers r ∷ life) h = (h.0, offers_are life h.1)
  offers_are (drains order ∷ life) h = offers_are life h
  offers_are (writes g z ∷ life) h = offers_are life h
  offers_are (powers ∷ life) h = offers_are life h

  -- in every life whose offers have no mark the first record that a power-on logged has it, and no other
  pub marks_first : (life : List (Call S)) (log : List Page) → PlainOffers S life → Each (FirstMarked S) (history S (lives S life (unpowered S log)))
  marks_first life log h =
      let w = well_lives S L Marked Plain AnyEdition setting any_own life (unpowered S log) (offers_are life h) (well_unpowered S L Marked Plain AnyEdition setting any_own log) in
      each_append (FirstMarked S) (lives S life (unpowered S log)).past ((lives S life (unpowered S log)).now ∷ []) w.past (w.due.begins, tt)

  pub segments_from_erased : SegmentsFromErased S
  segments_from_erased pages life b =
      segmented (history S (lives S life (unpowered S (erased S pages)))) (records_on S (lives S life (unpowered S (erased S pages))).log)
      (from_erased S L pages b.some_page b.few_pages life b.assumed).records (marks_first life (erased S pages) b.plain)

  pub segments_from_beginning : SegmentsFromBeginning S
  segments_from_beginning log b life a fit plain =
      let i = parts_of (every_life S L log b life a fit).records in
      record {
        added = joined i.parts;
        behind = i.on_flash_lem;
        since = parts_segmented (history S (lives S life (unpowered S log))) i.parts i.kept (marks_first life log plain);
      }

-- What one log tells of the power-ons. "boot-session flag (bit 2) on the first logged record of the power-on": so the records on flash split at that
-- bit into segments, one for each power-on of which something is on flash. proofs/Segments shows the law.
use Rattle.std.specs.Prelude.{ℕ, ◌+◌, ◌≤◌, ◌<◌, ◌≡◌, Bool, true, false, List, [], ◌∷◌, ◌++◌, length}
use Rattle.power.specs.Pages.{PageStore, Each, most_lost}
use Rattle.power.specs.Reading.{records_on}
use Rattle.power.specs.Life.{Call, offers, drains, writes, powers, lives, unpowered, history, AllAssumed, FlightsFit}
use Rattle.power.specs.Theorem.{erased, after, Beginning}

-- ---- a list split where a test holds

-- what stands before the first place where it does, and the segments from there on, each of which begins at one and has no other
pub record Split (A : Type 0) : Type 0 where
  pub before : List A
  pub segments : List (List A)

-- one more element in front
abbrev pub split_more : {A : Type 0} → Bool → A → Split A → Split A
split_more true x s = record { before = []; segments = (x ∷ s.before) ∷ s.segments }
split_more false x s = record { before = x ∷ s.before; segments = s.segments }

abbrev pub split_by : {A : Type 0} → (A → Bool) → List A → Split A
split_by test [] = record { before = []; segments = [] }
split_by test (x ∷ xs) = split_more (test x) x (split_by test xs)

-- lists one after another
abbrev pub joined : {A : Type 0} → List (List A) → List A
joined [] = []
joined (xs ∷ parts) = xs ++ joined parts

-- those that are not empty
abbrev pub filled : {A : Type 0} → List (List A) → List (List A)
filled [] = []
filled ([] ∷ parts) = filled parts
filled ((x ∷ xs) ∷ parts) = (x ∷ xs) ∷ filled parts

-- the first element has one property, and every other has another
abbrev pub FirstRest : {A : Type 0} → (A → Type 0) → (A → Type 0) → List A → Type 0
FirstRest R Q [] = Unit {0}
FirstRest R Q (x ∷ xs) = R x × Each Q xs

-- ---- what the power-ons kept

module _ {Page Record Mask : Type 0} (S : PageStore Page Record Mask) where
  -- of what a power-on logged the front is kept; what is missing is its end, and no more than a page of the last record's edition holds
  pub record KeptPart (logged kept : List (ℕ × Record)) : Type 0 where
    pub lost : List (ℕ × Record)
    pub short : length lost ≤ most_lost S logged
    pub all : logged ≡ kept ++ lost

  -- so it is power-on by power-on
  abbrev pub KeptParts : List (List (ℕ × Record)) → List (List (ℕ × Record)) → Type 0
  KeptParts [] [] = Unit {0}
  KeptParts [] (kept ∷ parts) = ⊥
  KeptParts (logged ∷ hist) [] = ⊥
  KeptParts (logged ∷ hist) (kept ∷ parts) = KeptPart logged kept × KeptParts hist parts

  -- whether an entry has the boot-session bit
  abbrev pub starts : ℕ × Record → Bool
  starts entry = S.has_mark entry.1

  -- no record is offered that has it already
  abbrev pub PlainOffers : List (Call S) → Type 0
  PlainOffers [] = Unit {0}
  PlainOffers (offers r ∷ life) = (S.has_mark r ≡ false) × PlainOffers life
  PlainOffers (drains order ∷ life) = PlainOffers life
  PlainOffers (writes succeed next ∷ life) = PlainOffers life
  PlainOffers (powers ∷ life) = PlainOffers life

  -- of what a power-on logged the first record has it, and no other
  abbrev pub FirstMarked : List (ℕ × Record) → Type 0
  FirstMarked logged = FirstRest (λ entry. starts entry ≡ true) (λ entry. starts entry ≡ false) logged

  -- SEGMENTS, of what was logged in each power-on and of the records on flash: split at the bit, these are the kept parts of the power-ons that kept
  -- anything, a segment each and in order, and nothing stands before the first. So inside a segment nothing is missing.
  pub record Segmented (hist : List (List (ℕ × Record))) (flash : List (ℕ × Record)) : Type 0 where
    pub parts : List (List (ℕ × Record))
    pub kept : KeptParts hist parts
    pub on_flash_lem : flash ≡ joined parts
    pub marks : Each FirstMarked hist
    pub segments : split_by starts flash ≡ record { before = []; segments = filled parts }

  -- a board: an erased log of one page or more, a life in which no unfinished page decodes, and no record is offered that has the bit already
  pub record Board (pages : ℕ) (life : List (Call S)) : Type 0 where
    pub some_page : 0 < pages
    pub few_pages : pages + 2 ≤ S.limit
    pub assumed : AllAssumed S life (unpowered S (erased S pages))
    pub plain : PlainOffers life

  -- so it is after every life of a board
  abbrev pub SegmentsFromErased : Type 0
  SegmentsFromErased =
      (pages : ℕ) (life : List (Call S)) → Board pages life → Segmented (history S (after S pages life)) (records_on S (after S pages life).log)

  -- The same from a log that isn't erased: what the power-ons since then kept stands behind the records that were there.
  pub record SegmentedAfter (there : List (ℕ × Record)) (hist : List (List (ℕ × Record))) (flash : List (ℕ × Record)) : Type 0 where
    pub added : List (ℕ × Record)
    pub behind : flash ≡ there ++ added
    pub since : Segmented hist added

  abbrev pub SegmentsFromBeginning : Type 0
  SegmentsFromBeginning =
      (log : List Page) → Beginning S log → (life : List (Call S)) → AllAssumed S life (unpowered S log)
      → FlightsFit S (history S (lives S life (unpowered S log))) → PlainOffers life
      → SegmentedAfter (records_on S log) (history S (lives S life (unpowered S log))) (records_on S (lives S life (unpowered S log)).log)

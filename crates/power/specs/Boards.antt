-- Two boards on one bench: which differences of their logs power cuts, failed programs and a busy store explain. Records are compared by a key of
-- the reader's choice, as the record without its flight: a flight all of whose pages were lost gives its number away again, so flights may
-- differ where nothing else does. proofs/Aligned, proofs/Tested, proofs/Boards and proofs/Shut show each statement here.
use Rattle.std.specs.Prelude.{ℕ, ◌+◌, ◌≤◌, ◌≡◌, Bool, true, false, cond, ◌⊎◌, ◌↔◌, List, [], ◌∷◌, ◌++◌, leb, length, map}
use Rattle.power.specs.Pages.{PageStore, Each}
use Rattle.power.specs.Reading.{records_on}
use Rattle.power.specs.Scan.{scan}
use Rattle.power.specs.Life.{Device, Call, powers, power_on, lives, history}
use Rattle.power.specs.Theorem.{after}
use Rattle.power.specs.Segments.{split_by, filled, KeptPart, starts, Board}

-- ---- lists

-- xs is the front of ys, which has at most n more
pub record Behind {A : Type 0} (n : ℕ) (xs ys : List A) : Type 0 where
  pub more : List A
  pub few : length more ≤ n
  pub all : ys ≡ xs ++ more

-- one of the two is the front of the other, which has at most n more
abbrev pub Near : {A : Type 0} → ℕ → List A → List A → Type 0
Near n xs ys = Behind n xs ys ⊎ Behind n ys xs

-- xs is the front of ys, however much more that has
pub record Front {A : Type 0} (xs ys : List A) : Type 0 where
  pub more : List A
  pub all : ys ≡ xs ++ more

-- seen through a key
abbrev pub seen : {A B : Type 0} → (A → B) → List A → List B
seen view = map view

abbrev pub each_seen : {A B : Type 0} → (A → B) → List (List A) → List (List B)
each_seen view = map (seen view)

-- list by list one is the front of the other
abbrev pub NearAll : {A : Type 0} → ℕ → List (List A) → List (List A) → Type 0
NearAll n [] [] = Unit {0}
NearAll n [] (b ∷ right) = ⊥
NearAll n (a ∷ left) [] = ⊥
NearAll n (a ∷ left) (b ∷ right) = Near n a b × NearAll n left right

-- ---- two lists of segments

-- Two lists of segments are aligned within n. Segment by segment, one is the front of the other, which has at most n more. Three exceptions: a segment
-- of at most n records may have no counterpart, since the other board may have kept nothing of that power-on; a log that is shut, foreign
-- or full, may end inside or behind its last segment while the other goes on; and a shut log may be empty.
pub data Aligned {A : Type 0} (n : ℕ) (shut_left shut_right : Bool) : List (List A) → List (List A) → Type 0 where
  at_end : Aligned n shut_left shut_right [] []
  both : {a b : List A} {left right : List (List A)} → Near n a b → Aligned n shut_left shut_right left right
      → Aligned n shut_left shut_right (a ∷ left) (b ∷ right)
  left_only : {a : List A} {left right : List (List A)} → length a ≤ n → Aligned n shut_left shut_right left right
      → Aligned n shut_left shut_right (a ∷ left) right
  right_only : {b : List A} {left right : List (List A)} → length b ≤ n → Aligned n shut_left shut_right left right
      → Aligned n shut_left shut_right left (b ∷ right)
  left_shut : {right : List (List A)} → shut_left ≡ true → Aligned n shut_left shut_right [] right
  right_shut : {left : List (List A)} → shut_right ≡ true → Aligned n shut_left shut_right left []
  left_last : {a b : List A} {right : List (List A)} → shut_left ≡ true → Front a b → Aligned n shut_left shut_right (a ∷ []) (b ∷ right)
  right_last : {a b : List A} {left : List (List A)} → shut_right ≡ true → Front b a → Aligned n shut_left shut_right (a ∷ left) (b ∷ [])

-- ---- what it means

-- of each of some lists a front is left, and at most m of it are missing
abbrev pub Lacks : {A : Type 0} → ℕ → List (List A) → List (List A) → Type 0
Lacks m [] [] = Unit {0}
Lacks m [] (k ∷ parts) = ⊥
Lacks m (l ∷ hist) [] = ⊥
Lacks m (l ∷ hist) (k ∷ parts) = Behind m k l × Lacks m hist parts

-- one history of which both are left, each with at most n missing at the end of each power-on
pub record CommonHistory {A : Type 0} (n : ℕ) (left right : List (List A)) : Type 0 where
  pub hist : List (List A)
  pub kept_left : List (List A)
  pub kept_right : List (List A)
  pub lacks_left : Lacks n hist kept_left
  pub lacks_right : Lacks n hist kept_right
  pub left_is : filled kept_left ≡ left
  pub right_is : filled kept_right ≡ right

-- NO MORE IS ALLOWED THAN CAN BE LOST: where neither log is shut, segments are aligned within n exactly if both are left of one history
abbrev pub AlignedIsSharp : Type 1
AlignedIsSharp =
    (A : Type 0) (n : ℕ) (left right : List (List A)) → Each (λ xs. ¬ (xs ≡ [])) left → Each (λ xs. ¬ (xs ≡ [])) right
    → Aligned n false false left right ↔ CommonHistory n left right

-- ---- the same as a test

abbrev pub both? : Bool → Bool → Bool
both? a b = cond a b false

abbrev pub either? : Bool → Bool → Bool
either? a b = cond a true b

abbrev pub none? : {A : Type 0} → List A → Bool
none? [] = true
none? (x ∷ xs) = false

module _ {A : Type 0} (same : A → A → Bool) where
  abbrev pub behind? : ℕ → List A → List A → Bool
  behind? n [] ys = leb (length ys) n
  behind? n (x ∷ xs) [] = false
  behind? n (x ∷ xs) (y ∷ ys) = both? (same x y) (behind? n xs ys)

  abbrev pub front? : List A → List A → Bool
  front? [] ys = true
  front? (x ∷ xs) [] = false
  front? (x ∷ xs) (y ∷ ys) = both? (same x y) (front? xs ys)

  abbrev pub near? : ℕ → List A → List A → Bool
  near? n xs ys = either? (behind? n xs ys) (behind? n ys xs)

  module _ (n : ℕ) (shut_left shut_right : Bool) where
    abbrev pub few? : List A → Bool
    few? xs = leb (length xs) n

    abbrev pub all_few? : List (List A) → Bool
    all_few? [] = true
    all_few? (b ∷ right) = both? (few? b) (all_few? right)

    -- a segment of the left one against the segments of the right one; `rest` tells of the segments behind it, `last` whether there are none
    abbrev pub segment? : (List (List A) → Bool) → Bool → List A → List (List A) → Bool
    segment? rest last a [] = either? shut_right (both? (few? a) (rest []))
    segment? rest last a (b ∷ right) =
        either? (both? (near? n a b) (rest right))
        (either? (both? (few? a) (rest (b ∷ right)))
        (either? (both? (few? b) (segment? rest last a right))
        (either? (both? shut_right (both? (none? right) (front? b a))) (both? shut_left (both? last (front? a b))))))

    abbrev pub aligned? : List (List A) → List (List A) → Bool
    aligned? [] right = either? shut_left (all_few? right)
    aligned? (a ∷ left) right = segment? (λ r. aligned? left r) (none? left) a right

-- the test tells it, if `same` tells equal keys
abbrev pub AlignedIsTested : Type 1
AlignedIsTested =
    (A : Type 0) (same : A → A → Bool) → ((x y : A) → (same x y ≡ true) ↔ (x ≡ y)) → (n : ℕ) (shut_left shut_right : Bool) (left right : List (List A))
    → (aligned? same n shut_left shut_right left right ≡ true) ↔ Aligned n shut_left shut_right left right

-- where the right log is shut, whatever follows in the left one needs no counterpart
abbrev pub ShutGoesOn : Type 1
ShutGoesOn =
    (A : Type 0) (n : ℕ) (left right more : List (List A)) → Aligned n false true left right → Aligned n false true (left ++ more) right

-- equal lists are aligned within nothing
abbrev pub EqualAligned : Type 1
EqualAligned = (A : Type 0) (shut_left shut_right : Bool) (parts : List (List A)) → Aligned 0 shut_left shut_right parts parts

-- ---- two boards

module _ {Page Record Mask : Type 0} (S : PageStore Page Record Mask) where
  -- no page holds more than so many records: five for pages of five
  abbrev pub AtMost : ℕ → Type 0
  AtMost most = (e : S.Edition) → S.per_page e ≤ most

  -- A SHUT LOG: after a scan that says not writable, be the log foreign or full, nothing is logged, in that power-on or a later one
  abbrev pub ShutLogsNothing : Type 0
  ShutLogsNothing =
      (d : Device S) (life : List (Call S)) → (scan S d.log).writable ≡ false
      → filled (history S (lives S life (power_on S d))) ≡ filled (history S d)

module _ {Page Record Mask : Type 0} (S : PageStore Page Record Mask) {Key : Type 0} (view : ℕ × Record → Key) where
  -- ONE POWER-ON OF EACH: where what was logged differs at its end alone, by at most n records, so does what was kept, by at most `most` more. Where the
  -- same was logged n is 0.
  abbrev pub TwoPowerOns : Type 0
  TwoPowerOns =
      (most : ℕ) → AtMost S most → (n : ℕ) (logged kept logged' kept' : List (ℕ × Record)) → KeptPart S logged kept → KeptPart S logged' kept'
      → Near n (seen view logged) (seen view logged') → Near (n + most) (seen view kept) (seen view kept')

  -- the segments of a log, seen through the key
  abbrev pub segments_of : List (ℕ × Record) → List (List Key)
  segments_of flash = each_seen view (split_by (starts S) flash).segments

  -- EXPLAINED within n: in neither log does a record stand before the first boot-session bit, and the segments are aligned within n
  pub record Explained (n : ℕ) (shut_left shut_right : Bool) (left right : List (ℕ × Record)) : Type 0 where
    pub left_begins : (split_by (starts S) left).before ≡ []
    pub right_begins : (split_by (starts S) right).before ≡ []
    pub segments : Aligned n shut_left shut_right (segments_of left) (segments_of right)

  -- what was logged in the power-ons in which something was, seen through the key
  abbrev pub logged_by : Device S → List (List Key)
  logged_by d = filled (each_seen view (history S d))

  -- SOUNDNESS: of two boards, the power going, programs failing and the store being busy at other moments of each: where what they logged is aligned
  -- within n, their logs are explained within `most` more
  abbrev pub ExplainedFromErased : Type 0
  ExplainedFromErased =
      (most : ℕ) → AtMost S most → (n : ℕ) (shut_left shut_right : Bool) (pages pages' : ℕ) (life life' : List (Call S)) → Board S pages life
      → Board S pages' life'
      → Aligned n shut_left shut_right (logged_by (after S pages life)) (logged_by (after S pages' life'))
      → Explained (n + most) shut_left shut_right (records_on S (after S pages life).log) (records_on S (after S pages' life').log)

  -- A BOARD THAT IS SHUT FIRST: from some power-on on the right board's scan says not writable, while the left board goes on. Where up to there what they
  -- logged is aligned within n, the logs are explained within `most` more, the right one being shut.
  abbrev pub ShutExplained : Type 0
  ShutExplained =
      (most : ℕ) → AtMost S most → (n : ℕ) (pages pages' : ℕ) (life more life' more' : List (Call S)) → Board S pages (life ++ powers ∷ more)
      → Board S pages' (life' ++ powers ∷ more') → (scan S (after S pages' life').log).writable ≡ false
      → Aligned n false true (logged_by (after S pages life)) (logged_by (after S pages' life'))
      → Explained (n + most) false true (records_on S (after S pages (life ++ powers ∷ more)).log)
      (records_on S (after S pages' (life' ++ powers ∷ more')).log)

-- Two boards on the small store, computed by the checker: what is explained and what is not. Two records to a page, so a power-on may lose two.
use Rattle.std.specs.Prelude.{ℕ, ◌≡◌, refl, Bool, true, false, List, [], ◌∷◌, eqb, length}
use Rattle.laws.specs.Halving.{bisect, bisecting}
use Rattle.power.specs.Reading.{records_on}
use Rattle.power.specs.Calls.{cut, order_of}
use Rattle.power.specs.Life.{Call, offers, drains, powers}
use Rattle.power.specs.Small.{SmallRecord, row, wide, flown, booted, keeps_some, keeps_all, small}
use Rattle.power.specs.Examples.{after, armed_pass}
use Rattle.power.specs.Segments.{split_by, starts}
use Rattle.power.specs.Boards.{segments_of, aligned?}
use Rattle.power.specs.Torn.{torn_in}

-- the key: a record's number
abbrev number : ℕ × SmallRecord → ℕ
number (flight, row armed mark n) = n
number (flight, wide armed mark n) = n

abbrev on_flash : List (Call small) → List (ℕ × SmallRecord)
on_flash life = records_on small (after life).log

-- whether two logs are explained within n, neither being shut
abbrev explained? : ℕ → List (ℕ × SmallRecord) → List (ℕ × SmallRecord) → Bool
explained? n left right =
    aligned? (λ x y. eqb x y) n false false (segments_of small number left) (segments_of small number right)

-- Five records, the power cut in the midst of the second page; then two more.
old : List (Call small)
old =
    powers ∷ offers (flown 1) ∷ offers (flown 2) ∷ offers (flown 3) ∷ offers (flown 4) ∷ offers (flown 5) ∷ drains (order_of 16 false true 1 (cut keeps_some))
    ∷ powers ∷ offers (flown 6) ∷ offers (flown 7) ∷ offers (flown 8) ∷ armed_pass 9 ∷ powers ∷ []

-- The same records on another board: in the first power-on all that was logged was written, in the next the power was cut before its first page.
new : List (Call small)
new =
    powers ∷ offers (flown 1) ∷ offers (flown 2) ∷ offers (flown 3) ∷ offers (flown 4) ∷ armed_pass 9
    ∷ powers ∷ offers (flown 6) ∷ offers (flown 7) ∷ offers (flown 8) ∷ drains (order_of 16 false true 0 (cut keeps_all)) ∷ powers ∷ []

-- one segment for each power-on of which something is on flash
old_segments : split_by (starts small) (on_flash old)
    ≡ record { before = []; segments = ((1, booted 1) ∷ (1, flown 2) ∷ []) ∷ ((2, booted 6) ∷ (2, flown 7) ∷ []) ∷ [] }
unfolding old bisect bisecting
old_segments = refl

new_segments : split_by (starts small) (on_flash new)
    ≡ record { before = []; segments = ((1, booted 1) ∷ (1, flown 2) ∷ (1, flown 3) ∷ (1, flown 4) ∷ []) ∷ [] }
unfolding new bisect bisecting
new_segments = refl

-- one torn page, from the power-on whose power was cut in a program
old_torn : torn_in small (after old).log ≡ 1
unfolding old bisect bisecting
old_torn = refl

-- the two are explained within two: the second power-on logged no more than two records, so its segment needs no counterpart
old_new : explained? 2 (on_flash old) (on_flash new) ≡ true
unfolding old new bisect bisecting
old_new = refl

-- and not within one
not_within_one : explained? 1 (on_flash old) (on_flash new) ≡ false
unfolding old new bisect bisecting
not_within_one = refl

-- A page that is missing between two others is not explained, however many records may be missing at an end.
whole : List (ℕ × SmallRecord)
whole = (1, booted 1) ∷ (1, flown 2) ∷ (1, flown 3) ∷ (1, flown 4) ∷ (1, flown 5) ∷ (1, flown 6) ∷ []

gap : List (ℕ × SmallRecord)
gap = (1, booted 1) ∷ (1, flown 2) ∷ (1, flown 5) ∷ (1, flown 6) ∷ []

a_gap : explained? 3 whole gap ≡ false
unfolding whole gap
a_gap = refl

-- Two pages at a power-on's end are too many.
short : List (ℕ × SmallRecord)
short = (1, booted 1) ∷ (1, flown 2) ∷ []

two_pages_lem : explained? 2 whole short ≡ false
unfolding whole short
two_pages_lem = refl

-- Short segments say little: two power-ons of two records each, of which either board may have kept one.
other : List (ℕ × SmallRecord)
other = (1, booted 8) ∷ (1, flown 9) ∷ []

short_segments : explained? 2 short other ≡ true
unfolding short other
short_segments = refl

-- Where the log of the right board is shut, what the left one has more is not compared.
right_shut : aligned? (λ x y. eqb x y) 2 false true (segments_of small number whole) (segments_of small number short) ≡ true
unfolding whole short
right_shut = refl

-- A record before the first mark belongs to no power-on.
headless : length (split_by (starts small) ((1, flown 3) ∷ (1, flown 4) ∷ [])).before ≡ 2
headless = refl

-- A log read from the front, page by page: blank, whole, torn, used, the records on flash; and what a scan and a search answer.
-- From document 01, "Scan, search and acknowledgements". Nothing here halves, and nothing here writes.
use Rattle.std.specs.Prelude.{ℕ, suc, ◌≡◌, Bool, false, cond, List, [], ◌∷◌, ◌++◌, get_or, Option, None, Some}
use Rattle.power.specs.Pages.{Decoded, PageStore, in_flight}

-- what a scan answers: the next page, the next flight, and whether the log may be written
pub record ScanAnswer : Type 0 where
  pub page : ℕ
  pub flight : ℕ
  pub writable : Bool

-- "foreign: (0, 1, false)"
abbrev pub foreign_answer : ScanAnswer
foreign_answer = record { page = 0; flight = 1; writable = false }

-- what a search finds for a flight: its first page and how many pages count with it
pub record Span : Type 0 where
  pub start : ℕ
  pub pages : ℕ

module _ {Page Record Mask : Type 0} (S : PageStore Page Record Mask) where
  -- each of these pages is blank
  abbrev pub Blanks : List Page → Type 0
  Blanks [] = Unit {0}
  Blanks (page ∷ rest) = (page ≡ S.blank) × Blanks rest

  -- a whole page decodes
  abbrev pub Whole : Page → Decoded Record → Type 0
  Whole page content = S.decode page ≡ Some content

  -- a torn page is used, so it is not blank, and it doesn't decode
  abbrev pub Torn : Page → Type 0
  Torn page = (S.decode page ≡ None) × ¬ (page ≡ S.blank)

  -- page i of the log; past its end nothing was written
  abbrev pub page_at : List Page → ℕ → Page
  page_at log i = get_or log i S.blank

  -- the first blank page, or the page count if there is none; the pages below it are used
  abbrev pub first_blank : List Page → ℕ
  first_blank [] = 0
  first_blank (page ∷ log) = cond (S.is_blank page) 0 (suc (first_blank log))

  -- the flight that a page says, or else another
  abbrev pub flight_or : Option (Decoded Record) → ℕ → ℕ
  flight_or None other = other
  flight_or (Some content) other = content.flight

  -- the flight of the last whole page, or else another
  abbrev pub newest_after : ℕ → List Page → ℕ
  newest_after other [] = other
  newest_after other (page ∷ log) = newest_after (flight_or (S.decode page) other) log

  -- the flight of the last whole page, 0 if there is none
  abbrev pub newest_flight : List Page → ℕ
  newest_flight log = newest_after 0 log

  -- the records that a page holds, each with its flight
  abbrev pub records_of : Option (Decoded Record) → List (ℕ × Record)
  records_of None = []
  records_of (Some content) = in_flight content.flight content.rows

  -- the records on flash, each with its flight, in page order
  abbrev pub records_on : List Page → List (ℕ × Record)
  records_on [] = []
  records_on (page ∷ log) = records_of (S.decode page) ++ records_on log

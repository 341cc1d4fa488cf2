-- The scan and the search as the code does them, by halving, over pages that read without a fault.
-- From document 01, "Scan, search and acknowledgements", and the Rust's scan_log, page_flight_id and find_flight.
use Rattle.std.specs.Prelude.{ℕ, zero, suc, ◌-◌, ◌<◌, ◌≡◌, true, cond, List, ltb, leb, eqb, length, Option, None, Some}
use Rattle.laws.specs.Halving.{bisecting}
use Rattle.power.specs.Pages.{Decoded, PageStore}
use Rattle.power.specs.Reading.{ScanAnswer, foreign_answer, Span, page_at}

module _ {Page Record Mask : Type 0} (S : PageStore Page Record Mask) where
  -- the flight that a page says
  abbrev pub flight_of : Option (Decoded Record) → Option ℕ
  flight_of None = None
  flight_of (Some content) = Some content.flight

  -- one flight, or else another
  abbrev pub or_else : Option ℕ → Option ℕ → Option ℕ
  or_else None other = other
  or_else (Some flight) other = Some flight

  -- a page's own flight, if it decodes
  abbrev pub own_flight : List Page → ℕ → Option ℕ
  own_flight log i = flight_of (S.decode (page_at S log i))

  -- "A page's flight is its own if it decodes, else that of the page before it if that one decodes, else none."
  abbrev pub page_flight : List Page → ℕ → Option ℕ
  page_flight log zero = own_flight log zero
  page_flight log (suc i) = or_else (own_flight log (suc i)) (own_flight log i)

  -- "The scan halves between 0 and the page count for the first blank": the pages below the point found are used
  abbrev pub used_pages : List Page → ℕ
  used_pages log = bisecting (λ i. S.is_blank (page_at S log i)) (length log)

  -- "page 0 must decode .. else foreign"
  abbrev pub if_begun : Option ℕ → ScanAnswer → ScanAnswer
  if_begun None answer = foreign_answer
  if_begun (Some flight) answer = answer

  -- "the last used page must have a flight, else foreign"; "Next flight is newest + 1, with 0 replaced by 1; writable if a blank page remains"
  abbrev pub appending : List Page → ℕ → Option ℕ → ScanAnswer
  appending log used None = foreign_answer
  appending log used (Some newest) = record { page = used; flight = S.flight_after newest; writable = ltb used (length log) }

  -- the verdict over the used pages: "Nothing used: (0, 1, true)"
  abbrev pub verdict : List Page → ℕ → ScanAnswer
  verdict log zero = record { page = 0; flight = 1; writable = true }
  verdict log (suc last) = if_begun (own_flight log 0) (appending log (suc last) (page_flight log last))

  -- scan_log
  abbrev pub scan : List Page → ScanAnswer
  scan log = verdict log (used_pages log)

  -- the number of a page's flight, where it has one
  abbrev pub number_of : Option ℕ → ℕ
  number_of None = 0
  number_of (Some flight) = flight

  -- each of so many pages has a flight
  abbrev pub FlightsKnown : List Page → ℕ → Type 0
  FlightsKnown log used = (i : ℕ) → i < used → (flight : ℕ) × (page_flight log i ≡ Some flight)

  -- the number that the search compares for page i
  abbrev pub flight_number : List Page → ℕ → ℕ
  flight_number log i = number_of (page_flight log i)

  -- "the first page whose flight is at least f", by halving over the used pages
  abbrev pub first_from : List Page → ℕ → ℕ → ℕ
  first_from log used flight = bisecting (λ i. leb flight (flight_number log i)) used

  -- "with start the first page whose flight is at least f, end the first with at least f + 1"
  abbrev pub span : ℕ → ℕ → Span
  span start end = record { start = start; pages = end - start }

  -- find_flight over the used pages
  abbrev pub find : List Page → ℕ → ℕ → Option Span
  find log used flight =
      cond (ltb (first_from log used flight) used)
      (cond (eqb (flight_number log (first_from log used flight)) flight) (Some (span (first_from log used flight) (first_from log used (suc flight)))) None)
      None

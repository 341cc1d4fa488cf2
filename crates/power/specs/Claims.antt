-- What demand 3 claims, sentence by sentence, as properties of pages that are read from the front, of what a scan and a search answer,
-- and of the history of what was logged. Nothing here halves, and nothing here writes.
use Rattle.std.specs.Prelude.{ℕ, suc, ◌+◌, ◌≤◌, ◌<◌, ◌≡◌, ◌⊎◌, ◌↔◌, List, [], ◌∷◌, ◌++◌, ltb, length, Option, None, Some}
use Rattle.power.specs.Pages.{Decoded, PageStore, Each, most_lost}
use Rattle.power.specs.Reading.{ScanAnswer, foreign_answer, Span, Whole, Torn, page_at, first_blank, newest_flight, records_on}

module _ {Page Record Mask : Type 0} (S : PageStore Page Record Mask) where
  -- (a) "Then of the records logged in a power-on, all but at most the last five are on flash, in order, in their flights"
  -- The history is one list for each power-on: what was logged in it, each record with its flight and as it is stored. Behind the records
  -- that were there at the beginning, power-on after power-on, what was logged is a kept part and a lost rest at its end; the records on
  -- flash are the kept parts, one after another; and each rest is at most as many records as a page of the edition of the last record that
  -- was logged in that power-on holds: five for version 1, four for version 2.
  pub data Kept (there : List (ℕ × Record)) : List (List (ℕ × Record)) → List (ℕ × Record) → Type 0 where
    no_power_on : Kept there [] there
    power_on_lem : {history : List (List (ℕ × Record))} {flash : List (ℕ × Record)} (kept lost : List (ℕ × Record)) → Kept there history flash
        → length lost ≤ most_lost S (kept ++ lost) → Kept there (history ++ (kept ++ lost) ∷ []) (flash ++ kept)

  -- (b) "and stay there"
  -- The log keeps its length, a whole page stays as it is, and records are only added behind those that are there.
  pub record OnlyAdds (before after : List Page) : Type 0 where
    pub as_long : length after ≡ length before
    pub stays : (i : ℕ) (content : Decoded Record) → Whole S (page_at S before i) content → page_at S after i ≡ page_at S before i
    pub added : (more : List (ℕ × Record)) × (records_on S after ≡ records_on S before ++ more)

  -- (c) "exactly if page 0 or the last two used pages are torn"
  abbrev pub FirstTorn : List Page → Type 0
  FirstTorn log = Torn S (page_at S log 0)

  abbrev pub LastTwoTorn : List Page → Type 0
  LastTwoTorn log = (i : ℕ) × (first_blank S log ≡ suc (suc i)) × Torn S (page_at S log i) × Torn S (page_at S log (suc i))

  abbrev pub ForeignLog : List Page → Type 0
  ForeignLog log = FirstTorn log ⊎ LastTwoTorn log

  -- "The next scan says foreign .. exactly if page 0 or the last two used pages are torn. Otherwise it gives the first blank page (the page
  -- count if none) and one more than the last whole page's flight (1 if none)", and writable says whether a blank page remains.
  pub record ScanSays (log : List Page) (answer : ScanAnswer) : Type 0 where
    pub foreign : answer ≡ foreign_answer ↔ ForeignLog log
    pub otherwise : ¬ ForeignLog log
        → answer ≡ record { page = first_blank S log; flight = suc (newest_flight S log); writable = ltb (first_blank S log) (length log) }

  -- (d) "and nothing is written to the log"
  abbrev pub NothingWritten : List Page → List Page → Type 0
  NothingWritten before after = after ≡ before

  -- (e) a whole page of a flight
  abbrev pub WholeOf : ℕ → Page → Type 0
  WholeOf flight page = (content : Decoded Record) × Whole S page content × (content.flight ≡ flight)

  -- a page that counts with a flight: a whole page of it, or a torn page right after one
  abbrev pub CountsWith : ℕ → List Page → ℕ → Type 0
  CountsWith flight log i = WholeOf flight (page_at S log i) ⊎ (Torn S (page_at S log i) × (j : ℕ) × (i ≡ suc j) × WholeOf flight (page_at S log j))

  -- the pages of a span
  abbrev pub InSpan : Span → ℕ → Type 0
  InSpan span i = (span.start ≤ i) × (i < span.start + span.pages)

  -- a span that is right for a flight: among the used pages exactly those that count with the flight, the first of them whole, and at most
  -- the last of them torn
  pub record SpanOf (log : List Page) (flight : ℕ) (span : Span) : Type 0 where
    pub within : span.start + span.pages ≤ first_blank S log
    pub pages : (i : ℕ) → i < first_blank S log → InSpan span i ↔ CountsWith flight log i
    pub first : WholeOf flight (page_at S log span.start)
    pub torn_last : (i : ℕ) → InSpan span i → InSpan span (suc i) → WholeOf flight (page_at S log i)

  -- "Over those pages the search finds for a flight its whole pages and a torn page right after them, and nothing for a flight without
  -- whole pages."
  abbrev pub SearchFinds : List Page → ℕ → Option Span → Type 0
  SearchFinds log flight None = (i : ℕ) → i < first_blank S log → ¬ WholeOf flight (page_at S log i)
  SearchFinds log flight (Some span) = SpanOf log flight span

  -- (f) P9: "A log may hold both, but a flight has one"
  -- The records of two whole pages of one flight are all of one edition.
  abbrev pub AllOf : S.Edition → List Record → Type 0
  AllOf e rows = Each (λ r. S.edition r ≡ e) rows

  abbrev pub OneEdition : List Page → Type 0
  OneEdition log =
      (i j : ℕ) (c d : Decoded Record) → Whole S (page_at S log i) c → Whole S (page_at S log j) d → c.flight ≡ d.flight
      → (e : S.Edition) × AllOf e c.rows × AllOf e d.rows

-- The page of 256 bytes as a page store of the theory of demand 3: what "five", "decodes" and "programmed" mean there, all by the codec's and the
-- store's own definitions; and the answers of scan and search as the code has them. That it meets the laws of a page store is proofs/Real.
-- Document 01, "Bytes on flash" and "Writer and store".
use Rattle.std.specs.Prelude.{ℕ, zero, suc, ◌+◌, ◌-◌, ◌%◌, ◌^◌, Bool, true, List, [], ◌∷◌, eqb, Option, None, Some}
use Rattle.laws.specs.Answers.{Answer, gives, refuses}
use Rattle.laws.specs.Bits.{bit}
use Rattle.power.specs.Pages.{Decoded, PageStore}
use Rattle.power.specs.Reading.{ScanAnswer, Span}
use Rattle.words.specs.Words.{same_bytes}
use Rattle.store.specs.Store.{programmed_bytes}
use Rattle.blackbox.specs.Flight.{next_flight}
use Rattle.blackbox.specs.Record.{Fit, is_armed}
use Rattle.blackbox.specs.Page.{rows_per_page, blank_page, encoded_page, decoded, records_in}
use Rattle.blackbox.specs.declared.FlightRecord.{FlightRecord}
use Rattle.blackbox.specs.declared.PageMetadata.{PageMetadata}
use Rattle.assembler.specs.Assembler.{marked}
use Rattle.records.specs.Pages.{page_in}
use Rattle.records.specs.Scan as Scan
use Rattle.records.specs.declared.Scan as Declared
use Rattle.log_search.specs.declared.StoredFlight.{StoredFlight}

-- what a page says: its flight, its sequence and as many records as it counts
abbrev pub content_in : List ℕ → Answer PageMetadata → Option (Decoded FlightRecord)
content_in page (gives m) =
    Some (record { flight = m.flight_id; sequence = m.page_sequence; rows = records_in m.record_count page })
content_in page (refuses number fault) = None

-- what a page says, if it decodes
unfoldable pub content : List ℕ → Option (Decoded FlightRecord)
content page = content_in page (decoded page)

-- "boot-session flag (bit 2)"
unfoldable pub has_boot_bit : FlightRecord → Bool
has_boot_bit r = eqb (bit 2 r.flags) 1

-- The 256-byte page, "five rows" to each: one edition. A keep mask is a list of bytes, and a byte past its end keeps nothing, so the empty one is that of
-- a program that succeeds. "page sequence and next flight wrap too" at 2^32, which is past the limit.
abbrev pub real : PageStore (List ℕ) FlightRecord (List ℕ)
real =
    record {
      blank = blank_page;
      is_blank = λ page. same_bytes page blank_page;
      decode = content;
      encode = encoded_page;
      programmed = programmed_bytes;
      clean = [];
      limit = 2 ^ 32 - 1;
      flight_after = next_flight;
      sequence_after = λ s. (s + 1) % 2 ^ 32;
      armed = is_armed;
      marked = marked true;
      has_mark = has_boot_bit;
      Fits = Fit;
      Edition = Unit {0};
      fresh_edition = tt;
      edition = λ r. tt;
      joins = λ e r. true;
      per_page = λ e. rows_per_page;
    }

-- the pages of an image's log, in order
unfoldable pub pages_from : List ℕ → ℕ → ℕ → List (List ℕ)
pages_from image i zero = []
pages_from image i (suc n) = page_in image i ∷ pages_from image (suc i) n

abbrev pub pages_of : ℕ → List ℕ → List (List ℕ)
pages_of page_count image = pages_from image 0 page_count

-- a scan's answer as the code has it
abbrev pub as_scan : ScanAnswer → Declared.Scan
as_scan s = Scan.scan s.page s.flight s.writable

-- a span as the code has it
abbrev pub as_found : ℕ → Option Span → Option StoredFlight
as_found flight None = None
as_found flight (Some span) = Some (record { flight_id = flight; start_page = span.start; pages = span.pages })

-- What the lines keep to beyond each call's own answer; proofs/ shows it.
use Rattle.std.specs.Prelude.{ℕ, ◌≤◌, ◌<◌, ◌^◌, Bool, List, [], ◌∷◌, length}
use Rattle.log_search.specs.declared.StoredFlight.{StoredFlight}
use Rattle.log_lines.specs.Lines.{count_line, flight_line, unsynced_lines, ack_text}

-- every field of a flight fits its type: what each flight that the code holds is
pub record Fit (f : StoredFlight) : Type 0 where
  pub id : f.flight_id < 2 ^ 32
  pub start : f.start_page < 2 ^ 32
  pub count : f.pages < 2 ^ 32

abbrev pub EachFit : List StoredFlight → Type 0
EachFit [] = Unit {0}
EachFit (f ∷ flights) = Fit f × EachFit flights

-- "USB_RESPONSE_CAPACITY, not given, is taken as 56 or more": every line fits a frame
abbrev pub FlightLineFits : Type 0
FlightLineFits = (f : StoredFlight) → Fit f → length (flight_line f) ≤ 56

abbrev pub CountLineFits : Type 0
CountLineFits = (n : ℕ) (more : Bool) → n < 2 ^ 32 → length (count_line n more) ≤ 56

abbrev pub AckTextFits : Type 0
AckTextFits = (number : ℕ) → length (ack_text number) ≤ 56

-- the whole answer is at most 472 bytes
abbrev pub LinesFit : Type 0
LinesFit = (flights : List StoredFlight) (more : Bool) → length flights ≤ 8 → EachFit flights → length (unsynced_lines flights more) ≤ 472

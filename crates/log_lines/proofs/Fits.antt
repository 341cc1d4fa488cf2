-- Every line fits a response frame of 56 bytes, and the whole answer 472; so what is pushed is the whole line. Assumes nothing.
use Prim.Native.Nat.{ℕ, ◌+◌, ◌*◌, ◌^◌, ◌≤◌, ◌<◌}
use mathlib.Core.Path.{◌≡◌, refl, ap}
use mathlib.Core.Bool.{Bool, true, false, cond}
use mathlib.Core.List.{List, [], ◌∷◌, map}
use native.Mathlib.Omega.{arith}
use lib.Dec.{eqb}
use lib.ListN.{length, length-append}
use Rattle.std.specs.Int.{from_bool}
use Rattle.laws.specs.Refusals.{no_such_flight, recording, length_changed, ledger_full}
use Rattle.words.specs.Words.{ascii}
use Rattle.blackbox.specs.Page.{joined}
use Rattle.log_search.specs.declared.StoredFlight.{StoredFlight}
use Rattle.digits.specs.Decimal.{digit, decimal_of}
use Rattle.digits.proofs.Notation.{decimal_small, decimal_short, decimal_ten}
use Rattle.digits.proofs.Pushed.{pushes, pushes_fit}
use Rattle.log_lines.specs.Lines.{flag, count_line, flight_line, unsynced_lines, ack_text}
use Rattle.log_lines.specs.Laws.{EachFit, FlightLineFits, CountLineFits, AckTextFits, LinesFit}

-- ---- a flight's line

abbrev pub flight_pieces : StoredFlight → List (List ℕ)
flight_pieces f =
    ascii "OK flight=" ∷ decimal_of f.flight_id ∷ ascii " start=" ∷ decimal_of f.start_page
    ∷ ascii " pages=" ∷ decimal_of f.pages ∷ ascii "\r\n" ∷ []

pub flight_line_fits : FlightLineFits
unfolding flight_line
flight_line_fits f h =
    simp length-append (omega (arith, decimal_ten f.flight_id h.id, decimal_ten f.start_page h.start, decimal_ten f.pages h.count))

pub flight_made : (f : StoredFlight) → length (flight_line f) ≤ 56 → pushes 56 [] (flight_pieces f) ≡ flight_line f
unfolding flight_line
flight_made f h = pushes_fit 56 (flight_pieces f) h

-- ---- the count line

-- `u32::from(more)`
pub flag_is : (more : Bool) → from_bool more ≡ flag more
flag_is true = refl
flag_is false = refl

decimal_flag : (more : Bool) → decimal_of (flag more) ≡ digit (flag more) ∷ []
decimal_flag true = decimal_small 1 (omega arith)
decimal_flag false = decimal_small 0 (omega arith)

abbrev pub count_pieces : ℕ → Bool → List (List ℕ)
count_pieces n more = ascii "OK unsynced n=" ∷ decimal_of n ∷ ascii " more=" ∷ decimal_of (flag more) ∷ ascii "\r\n" ∷ []

length_count : (n : ℕ) (more : Bool) → length (count_line n more) ≡ 23 + length (decimal_of n)
unfolding count_line
length_count n more = simp length-append (omega (arith, ap length (decimal_flag more)))

pub count_line_fits : CountLineFits
count_line_fits n more h = omega (arith, length_count n more, decimal_ten n h)

pub count_short : (n : ℕ) (more : Bool) → n < 10 → length (count_line n more) ≤ 24
count_short n more h = omega (arith, length_count n more, decimal_short 1 n (omega arith) (omega arith))

pub count_made : (n : ℕ) (more : Bool) → n < 2 ^ 32 → pushes 56 [] (count_pieces n more) ≡ count_line n more
unfolding count_line
count_made n more h = pushes_fit 56 (count_pieces n more) (count_line_fits n more h)

-- ---- the other texts

-- one of two texts that fit
fits_either : (test : Bool) (x y : List ℕ) → length x ≤ 56 → length y ≤ 56 → length (cond test x y) ≤ 56
fits_either true x y h k = h
fits_either false x y h k = k

pub ack_text_fits : AckTextFits
unfolding ack_text
ack_text_fits number =
    fits_either (eqb number no_such_flight) _ _ (omega arith)
    (fits_either (eqb number recording) _ _ (omega arith)
    (fits_either (eqb number length_changed) _ _ (omega arith)
    (fits_either (eqb number ledger_full) _ _ (omega arith) (omega arith))))

flights_fit : (flights : List StoredFlight) → EachFit flights → length (joined (map flight_line flights)) ≤ 56 * length flights
unfolding joined
flights_fit [] h = omega arith
flights_fit (f ∷ flights) h =
    omega (arith, length-append (flight_line f) (joined (map flight_line flights)), flight_line_fits f h.0, flights_fit flights h.1)

pub lines_all_fit : LinesFit
unfolding unsynced_lines
lines_all_fit flights more few h =
    let first : length (count_line (length flights) more) ≤ 24 = count_short (length flights) more (omega arith) in
    omega (arith, length-append (count_line (length flights) more) (joined (map flight_line flights)), flights_fit flights h)

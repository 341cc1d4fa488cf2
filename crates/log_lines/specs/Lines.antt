-- The lines that `logs unsynced` answers and the texts that refuse an acknowledgement. Document 01, "Scan, search and
-- acknowledgements": "emit_unsynced_lines and the four ERR texts are kept byte for byte; all lines come at once, and
-- USB_RESPONSE_CAPACITY, not given, is taken as 56 or more."
use Rattle.std.specs.Prelude.{ℕ, Bool, true, false, cond, List, [], ◌++◌, map, eqb, leb, length, take}
use Rattle.laws.specs.Refusals.{no_such_flight, recording, length_changed, ledger_full, bad_length}
use Rattle.laws.specs.Answers.{Answer, gives, must}
use Rattle.words.specs.Words.{ascii}
use Rattle.blackbox.specs.Page.{joined}
use Rattle.log_search.specs.declared.StoredFlight.{StoredFlight}
use Rattle.digits.specs.Decimal.{decimal_of}

-- ---- the texts

-- `u8::from(more)`
abbrev pub flag : Bool → ℕ
flag true = 1
flag false = 0

-- "OK unsynced n={} more={}\r\n"
unfoldable pub count_line : ℕ → Bool → List ℕ
count_line n more = ascii "OK unsynced n=" ++ decimal_of n ++ ascii " more=" ++ decimal_of (flag more) ++ ascii "\r\n"

-- "OK flight={} start={} pages={}\r\n"
unfoldable pub flight_line : StoredFlight → List ℕ
flight_line f =
    ascii "OK flight=" ++ decimal_of f.flight_id ++ ascii " start=" ++ decimal_of f.start_page
    ++ ascii " pages=" ++ decimal_of f.pages ++ ascii "\r\n"

-- "The `logs unsynced` answer: a count line, then one line per flight."
unfoldable pub unsynced_lines : List StoredFlight → Bool → List ℕ
unsynced_lines flights more = count_line (length flights) more ++ joined (map flight_line flights)

-- the first `count` of eight entries; "a flight count above 8" is refused
unfoldable pub unsynced : List StoredFlight → ℕ → Bool → Answer (List ℕ)
unsynced flights count more = must (leb count 8) bad_length (gives (unsynced_lines (take count flights) more))

-- `AckRefusal::response`, by the refusal's number; no other number has a text
unfoldable pub ack_text : ℕ → List ℕ
ack_text number =
    cond (eqb number no_such_flight) (ascii "ERR no such flight\r\n")
    (cond (eqb number recording) (ascii "ERR flight still recording\r\n")
    (cond (eqb number length_changed) (ascii "ERR flight length changed; download it again\r\n")
    (cond (eqb number ledger_full) (ascii "ERR sync ledger full; erase the log over USB\r\n")
    [])))

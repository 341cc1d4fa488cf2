-- What the calls of the unsynced list, its lines and the ERR texts lay in their answer rows, and the flights that are handed in as bytes.
use Rattle.std.specs.Prelude.{ℕ, ◌+◌, ◌%◌, List, [], ◌∷◌, ◌++◌, map, eqb, length}
use Rattle.laws.specs.Refusals.{bad_length}
use Rattle.laws.specs.Answers.{Answer, must}
use Rattle.words.specs.Words.{le_bytes, u32_at}
use Rattle.blackbox.specs.Page.{joined, padded}
use Rattle.log_search.specs.declared.StoredFlight.{StoredFlight}
use Rattle.log_sync.specs.declared.Unsynced.{Unsynced}
use Rattle.log_lines.specs.Lines.{unsynced}
use Rattle.reply.specs.Reply.{is_set, flag_of}
use Rattle.reply_log.specs.LogRows.{stored_row}

-- ---- the list

-- the count (at most eight) and whether a ninth exists, then the eight entries
unfoldable pub list_row : Unsynced → List ℕ
list_row u = (u.count % 256 ∷ flag_of u.more ∷ []) ++ joined (map stored_row u.flights)

-- ---- texts

-- the length of a text, and the text in an array with 0x00 behind it
unfoldable pub text_row : ℕ → List ℕ → List ℕ
text_row room text = le_bytes 4 (length text) ++ padded room 0 text

-- ---- flights that are handed in

abbrev pub stored_at : List ℕ → ℕ → StoredFlight
stored_at bytes at = record { flight_id = u32_at bytes at; start_page = u32_at bytes (at + 4); pages = u32_at bytes (at + 8) }

-- eight entries of 12 bytes
unfoldable pub flights_in : List ℕ → List StoredFlight
flights_in bytes =
    stored_at bytes 0 ∷ stored_at bytes 12 ∷ stored_at bytes 24 ∷ stored_at bytes 36 ∷ stored_at bytes 48 ∷ stored_at bytes 60 ∷ stored_at bytes 72
    ∷ stored_at bytes 84 ∷ []

-- "a flight row not 8, a flight count above 8" are refused 17
unfoldable pub lines_of : List ℕ → ℕ → ℕ → Answer (List ℕ)
lines_of flights count more = must (eqb (length flights) 96) bad_length (unsynced (flights_in flights) count (is_set more))

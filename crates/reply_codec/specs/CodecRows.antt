-- What the calls of layout and codec lay in their answer rows, number by number in the order of the struct's fields.
use Rattle.std.specs.Prelude.{ℕ, List, [], ◌∷◌, ◌++◌, eqb, length, get_or}
use Rattle.laws.specs.Refusals.{bad_length}
use Rattle.laws.specs.Answers.{Answer, must}
use Rattle.words.specs.Words.{le_bytes}
use Rattle.layout.specs.declared.StorageLayout.{StorageLayout}
use Rattle.blackbox.specs.Page.{rows_per_page, encoded, records_in}
use Rattle.blackbox.specs.declared.PageMetadata.{PageMetadata}

-- capacity, the two config slots, the log's start and its pages
unfoldable pub layout_row : StorageLayout → List ℕ
layout_row l =
    le_bytes 4 l.capacity_bytes ++ (le_bytes 4 (get_or l.config_slot_addresses 0 0)
    ++ (le_bytes 4 (get_or l.config_slot_addresses 1 0) ++ (le_bytes 4 l.log_start_address ++ le_bytes 4 l.log_page_count)))

-- flight, page sequence, record count
unfoldable pub metadata_row : PageMetadata → List ℕ
metadata_row m = le_bytes 4 m.flight_id ++ (le_bytes 4 m.page_sequence ++ (m.record_count ∷ []))

-- a page as it is
abbrev pub as_is : List ℕ → List ℕ
as_is page = page

-- ---- a page from bytes

-- "The records a page is made of are held as five rows": 240 bytes, 48 for each; another length is refused 17
unfoldable pub encoded_rows : ℕ → ℕ → List ℕ → ℕ → Answer (List ℕ)
encoded_rows flight sequence rows count =
    must (eqb (length rows) 240) bad_length (encoded flight sequence (records_in rows_per_page rows) count)

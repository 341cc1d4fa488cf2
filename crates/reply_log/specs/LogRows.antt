-- What the calls of scan, search, ledger and log sync lay in their answer rows, number by number in the order of the struct's fields,
-- and what the numbers that they are handed stand for.
use Rattle.std.specs.Prelude.{ℕ, Bool, true, false, cond, Option, None, Some, List, [], ◌∷◌, ◌++◌, eqb}
use Rattle.words.specs.Words.{le_bytes}
use Rattle.records.specs.declared.Scan.{Scan}
use Rattle.records.specs.declared.PageFlight.{PageFlight}
use Rattle.records.specs.Explain.{ToldReason, first_torn, last_torn, full, nothing}
use Rattle.sync_ledger.specs.declared.LedgerHeader.{LedgerHeader}
use Rattle.sync_ledger.specs.declared.LedgerHeader.TheVariants as Header
use Rattle.sync_ledger.specs.declared.BitLocation.{BitLocation}
use Rattle.sync_ledger.specs.declared.MarkStep.{MarkStep}
use Rattle.sync_ledger.specs.declared.MarkStep.TheVariants as Mark
use Rattle.log_search.specs.declared.StoredFlight.{StoredFlight}
use Rattle.reply.specs.Reply.{is_set, flag_of, some_row}

-- ---- rows

-- next page, next flight, writable
unfoldable pub scan_row : Scan → List ℕ
scan_row s = le_bytes 4 s.next_page ++ (le_bytes 4 s.next_flight ++ (flag_of s.writable ∷ []))

-- why the scan answers as it does, the two decode refusals and the two pages, each 0 where there is none: 0 nothing wrong, 1 page 0 doesn't
-- decode, 2 the last two used pages don't, 3 no blank page
unfoldable pub reason_numbers : ℕ → ℕ → ℕ → ℕ → ℕ → List ℕ
reason_numbers reason earlier later i j = reason ∷ earlier ∷ later ∷ (le_bytes 4 i ++ le_bytes 4 j)

abbrev pub reason_row : ToldReason → List ℕ
reason_row nothing = reason_numbers 0 0 0 0 0
reason_row (first_torn by) = reason_numbers 1 by.number 0 0 0
reason_row (last_torn t) = reason_numbers 2 t.earlier.number t.later.number t.earlier_page t.later_page
reason_row full = reason_numbers 3 0 0 0 0

-- a page's flight, an Option
abbrev pub flight_row : Option PageFlight → List ℕ
flight_row None = 0 ∷ 0 ∷ 0 ∷ 0 ∷ 0 ∷ []
flight_row (Some f) = some_row f.flight_id

-- flight, start page, pages
unfoldable pub stored_row : StoredFlight → List ℕ
stored_row f = le_bytes 4 f.flight_id ++ (le_bytes 4 f.start_page ++ le_bytes 4 f.pages)

-- a stored flight, an Option
abbrev pub found_row : Option StoredFlight → List ℕ
found_row None = 0 ∷ 0 ∷ 0 ∷ 0 ∷ 0 ∷ 0 ∷ 0 ∷ 0 ∷ 0 ∷ 0 ∷ 0 ∷ 0 ∷ 0 ∷ []
found_row (Some f) = 1 ∷ stored_row f

-- one flag
abbrev pub flag_row : Bool → List ℕ
flag_row b = flag_of b ∷ []

-- 0 Blank, 1 Valid, 2 Foreign
abbrev pub header_row : LedgerHeader → List ℕ
header_row Header.Blank = 0 ∷ []
header_row Header.Valid = 1 ∷ []
header_row Header.Foreign = 2 ∷ []

-- the byte's address and the bit's mask
unfoldable pub bit_row : BitLocation → List ℕ
bit_row b = le_bytes 4 b.address ++ (b.mask ∷ [])

-- kind, address, value
unfoldable pub step_numbers : ℕ → ℕ → ℕ → List ℕ
step_numbers kind address value = kind ∷ (le_bytes 4 address ++ (value ∷ []))

-- 0 EraseLedger, 1 ProgramHeader, 2 ProgramBit, 3 Done
abbrev pub step_row : MarkStep → List ℕ
step_row (Mark.EraseLedger address) = step_numbers 0 address 0
step_row (Mark.ProgramHeader address) = step_numbers 1 address 0
step_row (Mark.ProgramBit address value) = step_numbers 2 address value
step_row Mark.Done = step_numbers 3 0 0

-- ---- numbers that are handed in

-- a step by its kind: "Done, which asks nothing" from 3 on
abbrev pub step_of : ℕ → ℕ → ℕ → MarkStep
step_of kind address value =
    cond (eqb kind 0) (Mark.EraseLedger address)
    (cond (eqb kind 1) (Mark.ProgramHeader address) (cond (eqb kind 2) (Mark.ProgramBit address value) Mark.Done))

-- an Option is a flag and a number
abbrev pub recording_if : Bool → ℕ → Option ℕ
recording_if true flight = Some flight
recording_if false flight = None

abbrev pub recording_of : ℕ → ℕ → Option ℕ
recording_of flag flight = recording_if (is_set flag) flight

-- The refusal numbers, by the names that document 01's table "Refusal numbers" gives them.
use Rattle.std.specs.Prelude.{ℕ}

-- "more than 5 records, or a record index not below the page's count"
abbrev pub invalid_record_count : ℕ
invalid_record_count = 1

-- "bytes 240, 241 are not "FB""
abbrev pub invalid_magic : ℕ
invalid_magic = 2

-- "byte 242 is not 1"
abbrev pub unsupported_version : ℕ
unsupported_version = 3

-- "stored checksum differs"
abbrev pub crc_mismatch : ℕ
crc_mismatch = 4

-- "capacity that StorageLayout::new refuses"
abbrev pub invalid_layout : ℕ
invalid_layout = 5

-- "a read has a fault, or start_mark_step fails; the fault byte goes along"
abbrev pub device : ℕ
device = 6

-- "a page the search reads has no flight, or lies past the log"
abbrev pub corrupt : ℕ
corrupt = 7

-- "flight 0 or above 32,704, at the ledger"
abbrev pub out_of_range : ℕ
out_of_range = 8

-- "push while no flight is recorded"
abbrev pub not_recording : ℕ
not_recording = 9

-- "push while a finished page waits"
abbrev pub page_not_consumed : ℕ
page_not_consumed = 10

-- "encoding fails inside the assembler"
abbrev pub format : ℕ
format = 11

-- "acknowledgement of flight 0 or of one not found"
abbrev pub no_such_flight : ℕ
no_such_flight = 12

-- "acknowledgement of the unfinished flight"
abbrev pub recording : ℕ
recording = 13

-- "page count differs from the flight found"
abbrev pub length_changed : ℕ
length_changed = 14

-- "acknowledgement above 32,704"
abbrev pub ledger_full : ℕ
ledger_full = 15

-- "a record offered to a queue that holds 31"
abbrev pub queue_full : ℕ
queue_full = 16

-- "image length not the capacity, fault bytes not one per 256, a page or keep mask not 256 bytes, a record not 48, .."
abbrev pub bad_length : ℕ
bad_length = 17

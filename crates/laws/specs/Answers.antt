-- What a call answers: a value, or a refusal with its number and fault byte; and how refusals follow one another.
use Rattle.std.specs.Prelude.{ℕ, Bool, true, false, Result, Ok, Err}
use Rattle.laws.specs.Refusals as Number
use Rattle.laws.specs.declared.Refusal.{Refusal}
use Rattle.laws.specs.declared.Refusal.TheVariants as Why

-- "A refused answer carries its number, the fault byte for 6, and zeros elsewhere"
pub data Answer (A : Type 0) : Type 0 where
  gives : A → Answer A
  refuses : ℕ → ℕ → Answer A

-- the number of a refusal, by document 01's table
abbrev pub number_of : Refusal → ℕ
number_of Why.InvalidRecordCount = Number.invalid_record_count
number_of Why.InvalidMagic = Number.invalid_magic
number_of Why.UnsupportedVersion = Number.unsupported_version
number_of Why.CrcMismatch = Number.crc_mismatch
number_of Why.InvalidLayout = Number.invalid_layout
number_of (Why.Device fault) = Number.device
number_of Why.Corrupt = Number.corrupt
number_of Why.OutOfRange = Number.out_of_range
number_of Why.NotRecording = Number.not_recording
number_of Why.PageNotConsumed = Number.page_not_consumed
number_of Why.Format = Number.format
number_of Why.NoSuchFlight = Number.no_such_flight
number_of Why.Recording = Number.recording
number_of Why.LengthChanged = Number.length_changed
number_of Why.LedgerFull = Number.ledger_full
number_of Why.QueueFull = Number.queue_full
number_of Why.BadLength = Number.bad_length

-- "the fault byte for 6, and zeros elsewhere"
abbrev pub fault_of : Refusal → ℕ
fault_of (Why.Device fault) = fault
fault_of other = 0

-- one test of a chain: the first that does not hold gives its number
abbrev pub must : {A : Type 0} → Bool → ℕ → Answer A → Answer A
must true number rest = rest
must false number rest = refuses number 0

-- one call after another: the first refusal is that of the whole
abbrev pub then : {A B : Type 0} → Answer A → (A → Answer B) → Answer B
then (gives a) rest = rest a
then (refuses number fault) rest = refuses number fault

-- what an answer of the code tells
abbrev pub told : {A : Type 0} → Result A Refusal → Answer A
told (Ok a) = gives a
told (Err r) = refuses (number_of r) (fault_of r)

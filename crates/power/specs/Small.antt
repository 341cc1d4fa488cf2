-- A small page store of two editions: two records to a page, or three, and a page is blank, torn or whole. It meets the laws of a page store
-- (proofs/Small), so what the theorems ask can be met, and lives on it can be computed: specs/Examples and specs/BoardExamples have some.
use Rattle.std.specs.Prelude.{ℕ, suc, Bool, true, false, List, Option, None, Some}
use Rattle.power.specs.Pages.{Decoded, PageStore}

-- a record of the first edition, or of the second: armed or not, with the boot-session bit or not, and a number to tell it by
pub data SmallRecord : Type 0 where
  row : Bool → Bool → ℕ → SmallRecord
  wide : Bool → Bool → ℕ → SmallRecord

-- an armed record
abbrev pub flown : ℕ → SmallRecord
flown n = row true false n

-- the same with the boot-session bit
abbrev pub booted : ℕ → SmallRecord
booted n = row true true n

-- a disarmed record
abbrev pub parked : ℕ → SmallRecord
parked n = row false false n

-- a page: blank, torn, or whole with its flight, sequence and rows
pub data SmallPage : Type 0 where
  clear : SmallPage
  ragged : SmallPage
  sheet : ℕ → ℕ → List SmallRecord → SmallPage

-- what a program leaves unprogrammed: nothing, some bits, or all of them
pub data SmallMask : Type 0 where
  keeps_nothing : SmallMask
  keeps_some : SmallMask
  keeps_all : SmallMask

-- a page that is whole decodes to what it says
abbrev small_decode : SmallPage → Option (Decoded SmallRecord)
small_decode clear = None
small_decode ragged = None
small_decode (sheet f s rows) = Some (record { flight = f; sequence = s; rows = rows })

-- nothing makes a programmed bit blank again: a whole page stays, and a torn one becomes whole or stays torn
abbrev pub small_programmed : SmallPage → SmallPage → SmallMask → SmallPage
small_programmed old clear keep = old
small_programmed clear ragged keep = ragged
small_programmed ragged ragged keep = ragged
small_programmed (sheet f s rows) ragged keep = sheet f s rows
small_programmed clear (sheet g t more) keeps_nothing = sheet g t more
small_programmed clear (sheet g t more) keeps_some = ragged
small_programmed clear (sheet g t more) keeps_all = clear
small_programmed ragged (sheet g t more) keeps_nothing = sheet g t more
small_programmed ragged (sheet g t more) keeps_some = ragged
small_programmed ragged (sheet g t more) keeps_all = ragged
small_programmed (sheet f s rows) (sheet g t more) keep = sheet f s rows

-- whether a page is blank
abbrev pub small_blank : SmallPage → Bool
small_blank clear = true
small_blank ragged = false
small_blank (sheet f s rows) = false

-- the armed bit
abbrev small_armed : SmallRecord → Bool
small_armed (row armed mark n) = armed
small_armed (wide armed mark n) = armed

-- the boot-session bit
abbrev pub small_marked : SmallRecord → SmallRecord
small_marked (row armed mark n) = row armed true n
small_marked (wide armed mark n) = wide armed true n

abbrev pub small_has_mark : SmallRecord → Bool
small_has_mark (row armed mark n) = mark
small_has_mark (wide armed mark n) = mark

-- the edition of a record: true is the second
abbrev pub small_edition : SmallRecord → Bool
small_edition (row armed mark n) = false
small_edition (wide armed mark n) = true

-- two rows to a page of the first, three to one of the second
abbrev pub small_per_page : Bool → ℕ
small_per_page false = 2
small_per_page true = 3

-- a record joins a flight of its edition
abbrev pub same : Bool → Bool → Bool
same false false = true
same false true = false
same true false = false
same true true = true

-- the store
abbrev pub small : PageStore SmallPage SmallRecord SmallMask
small =
    record {
      blank = clear;
      is_blank = small_blank;
      decode = small_decode;
      encode = sheet;
      programmed = small_programmed;
      clean = keeps_nothing;
      limit = 100;
      flight_after = suc;
      sequence_after = suc;
      armed = small_armed;
      marked = small_marked;
      has_mark = small_has_mark;
      Fits = λ r. Unit {0};
      Edition = Bool;
      fresh_edition = false;
      edition = small_edition;
      joins = λ e r. same e (small_edition r);
      per_page = small_per_page;
    }

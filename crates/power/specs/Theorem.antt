-- Demand 3 as theorems: what holds at every moment of every life. proofs/Theorem proves each statement here.
-- "Power comes on any number of times, each with a fresh writer set by one scan alone; reads have no faults, nothing is erased, and only the
-- writer programs the log. Programs may fail, and power may go at any moment, leaving any bits of a page unprogrammed."
use Rattle.std.specs.Prelude.{ℕ, ◌+◌, ◌≤◌, ◌<◌, ◌≡◌, false, List, [], length, replicate}
use Rattle.power.specs.Pages.{PageStore}
use Rattle.power.specs.Reading.{first_blank, newest_flight, records_on}
use Rattle.power.specs.Grammar.{Loose, Strict}
use Rattle.power.specs.Claims.{Kept, OnlyAdds, ForeignLog, ScanSays, NothingWritten, SearchFinds, OneEdition}
use Rattle.power.specs.Scan.{scan, find, FlightsKnown, flight_number}
use Rattle.power.specs.Life.{Device, Call, lives, unpowered, power_on, history, AllAssumed, FlightsFit}

module _ {Page Record Mask : Type 0} (S : PageStore Page Record Mask) where
  -- What holds of a device whose log began with the records `there`. The scan and the search are those of the next power-on, or of a bench
  -- that reads the log as it is.
  pub record Holds (there : List (ℕ × Record)) (d : Device S) : Type 0 where
    -- (a) "of the records logged in a power-on, all but at most the last five are on flash, in order, in their flights"
    pub records : Kept S there (history S d) (records_on S d.log)
    -- (c) "The next scan says foreign .. exactly if page 0 or the last two used pages are torn. Otherwise it gives .."
    pub scanned : ScanSays S d.log (scan S d.log)
    -- (e) "Over those pages the search finds for a flight its whole pages and a torn page right after them, and nothing for .."
    pub searched : ¬ ForeignLog S d.log → (flight : ℕ) → SearchFinds S d.log flight (find S d.log (first_blank S d.log) flight)
    -- so no page that it reads is refused for want of a flight
    pub known : ¬ ForeignLog S d.log → FlightsKnown S d.log (first_blank S d.log)
    -- and none has a flight that is not below the limit
    pub below : ¬ ForeignLog S d.log → (i : ℕ) → i < first_blank S d.log → flight_number S d.log i < S.limit

  -- a log from which the theorem starts: of one page or more and fewer than the limit, by the loose grammar, its newest flight below the limit
  pub record Beginning (log : List Page) : Type 0 where
    pub loose : Loose S log
    pub some_page : 0 < length log
    pub long : length log < S.limit
    pub newest_fits : newest_flight S log < S.limit

  -- (a), (c), (e): every life from every such beginning, under the two assumptions of demand 3
  abbrev pub EveryLife : Type 0
  EveryLife =
      (log : List Page) → Beginning log → (life : List (Call S)) → AllAssumed S life (unpowered S log)
      → FlightsFit S (history S (lives S life (unpowered S log))) → Holds (records_on S log) (lives S life (unpowered S log))

  -- (b) "and stay there": whatever comes after
  abbrev pub RecordsStay : Type 0
  RecordsStay =
      (log : List Page) → Beginning log → (life after : List (Call S)) → AllAssumed S life (unpowered S log)
      → AllAssumed S after (lives S life (unpowered S log))
      → FlightsFit S (history S (lives S after (lives S life (unpowered S log))))
      → OnlyAdds S (lives S life (unpowered S log)).log (lives S after (lives S life (unpowered S log))).log

  -- (d) after a scan that says not writable, be the log foreign or full, nothing is written in that power-on, nor in a later one
  abbrev pub NotWritable : Type 0
  NotWritable = (d : Device S) (life : List (Call S)) → (scan S d.log).writable ≡ false → NothingWritten S d.log (lives S life (power_on S d)).log

  -- "flight numbers don't wrap" where the log has room for few: each flight that begins takes a page at least
  abbrev pub NoWrap : Type 0
  NoWrap =
      (log : List Page) → Beginning log → newest_flight S log + length log + 2 ≤ S.limit → (life : List (Call S))
      → AllAssumed S life (unpowered S log) → FlightsFit S (history S (lives S life (unpowered S log)))

  -- "Begin with an erased log of one fixed capacity"
  abbrev pub erased : ℕ → List Page
  erased pages = replicate pages S.blank

  -- the device after a life from an erased log
  abbrev pub after : ℕ → List (Call S) → Device S
  after pages life = lives S life (unpowered S (erased pages))

  -- from an erased log, the one assumption being "no unfinished page decodes"
  abbrev pub FromErased : Type 0
  FromErased =
      (pages : ℕ) → 0 < pages → pages + 2 ≤ S.limit → (life : List (Call S)) → AllAssumed S life (unpowered S (erased pages))
      → Holds [] (after pages life)

  -- and the log that is left is one of the strict grammar
  abbrev pub StrictFromErased : Type 0
  StrictFromErased =
      (pages : ℕ) → 0 < pages → pages + 2 ≤ S.limit → (life : List (Call S)) → AllAssumed S life (unpowered S (erased pages))
      → Strict S (after pages life).log

  -- so a flight has one edition
  abbrev pub OneEditionFromErased : Type 0
  OneEditionFromErased =
      (pages : ℕ) → 0 < pages → pages + 2 ≤ S.limit → (life : List (Call S)) → AllAssumed S life (unpowered S (erased pages))
      → OneEdition S (after pages life).log

  -- and the records stay there, whatever comes after
  abbrev pub StayFromErased : Type 0
  StayFromErased =
      (pages : ℕ) → 0 < pages → pages + 2 ≤ S.limit → (life more : List (Call S)) → AllAssumed S life (unpowered S (erased pages))
      → AllAssumed S more (after pages life)
      → OnlyAdds S (after pages life).log (lives S more (after pages life)).log

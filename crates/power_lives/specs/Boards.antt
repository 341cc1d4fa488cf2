-- What may be concluded from the images of one board and of two: into what a log splits, where torn pages come from, in what two logs may differ. Of
-- the bytes that rig leaves; the same laws over abstract pages are power's Segments, Torn, Boards and Offers. proofs/Boards shows each statement.
use Rattle.std.specs.Prelude.{ℕ, suc, ◌+◌, ◌≤◌, ◌<◌, ◌≡◌, Bool, true, false, not, ◌↔◌, ◌⊎◌, List, [], ◌∷◌, ◌++◌, length, Some}
use Rattle.power.specs.Pages.{Each}
use Rattle.power.specs.Life.{Call, Device}
use Rattle.power.specs.Life as Life
use Rattle.power.specs.Reading.{records_on, Torn, page_at}
use Rattle.power.specs.Scan.{scan}
use Rattle.power.specs.Segments.{split_by, filled, starts, PlainOffers, KeptPart, Segmented}
use Rattle.power.specs.Boards.{Near, NearAll, seen, each_seen, Aligned, both?, none?, aligned?, segments_of, Explained, ShutExplained}
use Rattle.power.specs.Offers.{accepted, SettingIs, AllLoggedBut, Heeded, unflown}
use Rattle.power.specs.Torn.{torn_in, AllFinished, MarkAfterTorn, unfinished_in}
use Rattle.words.specs.Words.{same_bytes}
use Rattle.blackbox.specs.Record.{record_bytes}
use Rattle.blackbox.specs.declared.FlightRecord.{FlightRecord}
use Rattle.log_state.specs.Writer.{has_pending}
use Rattle.log_state.specs.declared.LogWriter.{LogWriter}
use Rattle.power_pages.specs.Store.{real}
use Rattle.script.specs.Script.{Operation, offers, drains, writes, powers, recovers, resets, flushes, operations}
use Rattle.rig.specs.Rig.{after_play}
use Rattle.power_lives.specs.Lives.{drain_of, write_of, life_of, life_after, device_before, device_after}
use Rattle.power_lives.specs.Theorem.{Plays, log_of, Erased, Assumed, logged_in, bench_after}

-- A board: its script is played from an erased log, no unfinished page decodes, and no record is offered that has the boot-session bit already.
pub record Board (capacity : ℕ) (image script output : List ℕ) : Type 0 where
  pub played : Plays capacity image script output
  pub erased : Erased capacity image
  pub assumed : Assumed capacity image script
  pub plain : PlainOffers real (life_of capacity image script)

-- the records on flash, each with its flight
abbrev pub on_flash : ℕ → List ℕ → List (ℕ × FlightRecord)
on_flash capacity image = records_on real (log_of capacity image)

-- ---- one image

-- SEGMENTS: split at the boot-session bit, the records on flash are one segment for each power-on of which something is on flash, in order. A segment is
-- what its power-on logged without at most five records at its end (`FiveAtMost`): inside it nothing is missing.
abbrev pub SegmentsOfImage : Type 0
SegmentsOfImage =
    (capacity : ℕ) (image script output : List ℕ) → Board capacity image script output
    → Segmented real (logged_in capacity image script) (on_flash capacity (after_play capacity image script output))

-- operations of one power-on
abbrev pub NoPowerOn : List Operation → Type 0
NoPowerOn [] = Unit {0}
NoPowerOn (offers r ∷ os) = NoPowerOn os
NoPowerOn (drains order keep ∷ os) = NoPowerOn os
NoPowerOn (writes succeed next keep ∷ os) = NoPowerOn os
NoPowerOn (powers ∷ os) = ⊥
NoPowerOn (recovers page flight writable ∷ os) = NoPowerOn os
NoPowerOn (resets ∷ os) = NoPowerOn os
NoPowerOn (flushes buffered clock ∷ os) = NoPowerOn os

-- the torn pages of a log in a power-on: at most one more than at its beginning, after a cut too; and as long as the power is on, only while the page
-- waits, so that a program which finishes it makes it whole
pub record TornOnce (before after : List (List ℕ)) (w : LogWriter) : Type 0 where
  pub at_most_one : torn_in real after ≤ suc (torn_in real before)
  pub only_waiting : w.writable ≡ true → has_pending w ≡ false → torn_in real after ≤ torn_in real before

-- AT MOST ONE TORN PAGE FROM ONE POWER-ON: a script that goes on where another ends, with a power-on and no further one
abbrev pub OneTornPage : Type 0
OneTornPage =
    (capacity : ℕ) (image script output longer output' : List ℕ) (more : List Operation) → Plays capacity image script output
    → Board capacity image longer output' → operations longer ≡ operations script ++ powers ∷ more → NoPowerOn more
    → TornOnce (log_of capacity (after_play capacity image script output)) (log_of capacity (after_play capacity image longer output'))
    (bench_after capacity image longer).writer

-- a drain or a write_pending left a program unfinished, cut or failed, and this in the page's place
abbrev pub LeavesUnfinished : Operation → Device real → List ℕ → Type 0
LeavesUnfinished (offers r) d left = ⊥
LeavesUnfinished (drains order keep) d left =
    (page : List ℕ) × (unfinished_in real (drain_of order keep) d ≡ Some (page, left))
LeavesUnfinished (writes succeed next keep) d left = (page : List ℕ) × (unfinished_in real (write_of succeed next keep) d ≡ Some (page, left))
LeavesUnfinished powers d left = ⊥
LeavesUnfinished (recovers page flight writable) d left = ⊥
LeavesUnfinished resets d left = ⊥
LeavesUnfinished (flushes buffered clock) d left = ⊥

-- A TORN PAGE IS WHAT AN UNFINISHED PROGRAM LEFT: over one operation more, each torn page was torn before it, or is what the program left that the operation
-- did not finish
abbrev pub TornIsLeft : Type 0
TornIsLeft =
    (capacity : ℕ) (image script output longer output' : List ℕ) (o : Operation) → Plays capacity image script output
    → Board capacity image longer output' → operations longer ≡ operations script ++ o ∷ [] → (i : ℕ)
    → Torn real (page_at real (log_of capacity (after_play capacity image longer output')) i)
    → Torn real (page_at real (log_of capacity (after_play capacity image script output)) i)
    ⊎ LeavesUnfinished o (device_after capacity image script) (page_at real (log_of capacity (after_play capacity image longer output')) i)

-- NONE WHERE ALL FINISHED: where a script goes on and none of its further programs is cut and none fails, no page is torn that was
-- not torn before
abbrev pub NoneTornIfFinished : Type 0
NoneTornIfFinished =
    (capacity : ℕ) (image script output longer output' : List ℕ) (more : List Operation) → Plays capacity image script output
    → Board capacity image longer output' → operations longer ≡ operations script ++ more
    → AllFinished real (life_after capacity image script more) (device_after capacity image script)
    → torn_in real (log_of capacity (after_play capacity image longer output')) ≤ torn_in real (log_of capacity (after_play capacity image script output))

-- A TORN PAGE IS THE END OF A POWER-ON: a whole page right behind it begins with the boot-session bit. So a page that doesn't decode between two pages of
-- one power-on was not torn by this writer.
abbrev pub TornEndsPowerOn : Type 0
TornEndsPowerOn =
    (capacity : ℕ) (image script output : List ℕ) → Board capacity image script output
    → MarkAfterTorn real (log_of capacity (after_play capacity image script output))

-- ---- two images

-- two power-ons in which the same was logged, seen through a key of the reader's choice: what one kept is the front of what the other kept, and at
-- most five records shorter
abbrev pub SameLoggedNear : Type 1
SameLoggedNear =
    (Key : Type 0) (view : ℕ × FlightRecord → Key) (logged kept logged' kept' : List (ℕ × FlightRecord)) → KeptPart real logged kept
    → KeptPart real logged' kept' → seen view logged ≡ seen view logged' → Near 5 (seen view kept) (seen view kept')

-- EXPLAINED WITHIN FIVE: what two boards logged, in the power-ons in which they logged anything, is aligned within n; then their images are explained
-- within n + 5. Where they logged the same, n is 0.
abbrev pub ImagesExplained : Type 1
ImagesExplained =
    (Key : Type 0) (view : ℕ × FlightRecord → Key) (n : ℕ) (shut_left shut_right : Bool) (capacity : ℕ) (image script output : List ℕ) (capacity' : ℕ)
    (image' script' output' : List ℕ)
    → Board capacity image script output → Board capacity' image' script' output'
    → Aligned n shut_left shut_right (filled (each_seen view (logged_in capacity image script))) (filled (each_seen view (logged_in capacity' image' script')))
    → Explained real view (n + 5) shut_left shut_right (on_flash capacity (after_play capacity image script output))
    (on_flash capacity' (after_play capacity' image' script' output'))

-- NO SEGMENT WITHOUT A COUNTERPART: where every power-on that logs anything logs six records or more, segment i of the one image is segment i of the other
abbrev pub ImagesPaired : Type 1
ImagesPaired =
    (Key : Type 0) (view : ℕ × FlightRecord → Key) (n : ℕ) (capacity : ℕ) (image script output : List ℕ) (capacity' : ℕ) (image' script' output' : List ℕ)
    → Board capacity image script output → Board capacity' image' script' output'
    → NearAll n (filled (each_seen view (logged_in capacity image script))) (filled (each_seen view (logged_in capacity' image' script')))
    → Each (λ logged. 5 < length logged) (filled (each_seen view (logged_in capacity image script)))
    → Each (λ logged. 5 < length logged) (filled (each_seen view (logged_in capacity' image' script')))
    → NearAll (n + 5) (segments_of real view (on_flash capacity (after_play capacity image script output)))
    (segments_of real view (on_flash capacity' (after_play capacity' image' script' output')))

-- ---- from what the queues took

-- the records that the queue took in each power-on
abbrev pub accepted_in : ℕ → List ℕ → List ℕ → List (List FlightRecord)
accepted_in capacity image script = accepted real (life_of capacity image script)

-- records are offered only while the log may be written
abbrev pub Heeds : List (Call real) → Device real → Type 0
Heeds [] d = Unit {0}
Heeds (c ∷ life) d = Heeded real c d × Heeds life (Life.call real c d)

abbrev pub OffersHeeded : ℕ → List ℕ → List ℕ → Type 0
OffersHeeded capacity image script = Heeds (life_of capacity image script) (device_before capacity image)

-- then of what the queue took in a power-on at most its 31 were not logged, beside those that are not to be logged, with one setting
-- record_while_disarmed
abbrev pub LoggedBut31 : Type 0
LoggedBut31 =
    (capacity : ℕ) (image script output : List ℕ) (while_disarmed : Bool) → Plays capacity image script output
    → SettingIs real while_disarmed (life_of capacity image script) → OffersHeeded capacity image script
    → AllLoggedBut real 31 while_disarmed (accepted_in capacity image script) (logged_in capacity image script)

-- so two boards whose queues took the same in each power-on but for n records at its end are explained within n + 31 + 5
abbrev pub StreamsOfImages : Type 0
StreamsOfImages =
    (n : ℕ) (while_disarmed shut_left shut_right : Bool) (capacity : ℕ) (image script output : List ℕ) (capacity' : ℕ) (image' script' output' : List ℕ)
    → Board capacity image script output → Board capacity' image' script' output'
    → SettingIs real while_disarmed (life_of capacity image script) → SettingIs real while_disarmed (life_of capacity' image' script')
    → OffersHeeded capacity image script → OffersHeeded capacity' image' script'
    → NearAll n (accepted_in capacity image script) (accepted_in capacity' image' script')
    → Explained real (unflown real) (n + 31 + 5) shut_left shut_right (on_flash capacity (after_play capacity image script output))
    (on_flash capacity' (after_play capacity' image' script' output'))

-- ---- the test of two images

-- the key: a record's 48 bytes, without its flight, since a flight all of whose pages were lost gives its number away again
abbrev pub by_bytes : ℕ × FlightRecord → List ℕ
by_bytes entry = record_bytes entry.1

-- a log is shut if its scan says that it isn't writable: it is foreign or full
abbrev pub is_shut : ℕ → List ℕ → Bool
is_shut capacity image = not (scan real (log_of capacity image)).writable

-- no record stands before the first boot-session bit, and the segments are aligned within n: computed from the two images alone
abbrev pub explained_images? : ℕ → ℕ → List ℕ → ℕ → List ℕ → Bool
explained_images? n capacity image capacity' image' =
    both? (none? (split_by (starts real) (on_flash capacity image)).before)
    (both? (none? (split_by (starts real) (on_flash capacity' image')).before)
    (aligned? same_bytes n (is_shut capacity image) (is_shut capacity' image') (segments_of real by_bytes (on_flash capacity image))
    (segments_of real by_bytes (on_flash capacity' image'))))

-- the test says what is explained
abbrev pub ImagesAreTested : Type 0
ImagesAreTested =
    (n capacity : ℕ) (image : List ℕ) (capacity' : ℕ) (image' : List ℕ)
    → (explained_images? n capacity image capacity' image' ≡ true)
    ↔ Explained real by_bytes n (is_shut capacity image) (is_shut capacity' image') (on_flash capacity image) (on_flash capacity' image')

-- THE VERDICT: two boards that logged the same records, in order, in the power-ons in which they logged any, pass the test with five, wherever the power
-- went. So where it fails they did not log the same; where it passes nothing is concluded.
abbrev pub SameLoggedPasses : Type 0
SameLoggedPasses =
    (capacity : ℕ) (image script output : List ℕ) (capacity' : ℕ) (image' script' output' : List ℕ) → Board capacity image script output
    → Board capacity' image' script' output'
    → filled (each_seen by_bytes (logged_in capacity image script)) ≡ filled (each_seen by_bytes (logged_in capacity' image' script'))
    → explained_images? 5 capacity (after_play capacity image script output) capacity' (after_play capacity' image' script' output') ≡ true

-- A BOARD THAT IS FULL OR FOREIGN FIRST: it logs nothing more, the other goes on; up to there they are aligned within n. The logs are explained within
-- n + 5, the one being shut. Of lives of the theory, each of which has a script (`EveryLifeHasScript`).
abbrev pub ShutBoards : Type 0
ShutBoards = ShutExplained real by_bytes

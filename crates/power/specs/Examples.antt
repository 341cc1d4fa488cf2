-- Lives on the small store of four pages, computed by the checker: the corners in which a wrong writer or a wrong scan would show.
use Rattle.std.specs.Prelude.{ℕ, ◌≡◌, refl, true, false, List, [], ◌∷◌, Option, None, Some}
use Rattle.laws.specs.Halving.{bisect, bisecting}
use Rattle.power.specs.Reading.{ScanAnswer, foreign_answer, Span}
use Rattle.power.specs.Scan.{scan, find}
use Rattle.power.specs.Writer.{recover}
use Rattle.power.specs.Calls.{busy, fault, cut, drain, write_pending, order_of}
use Rattle.power.specs.Life.{Device, Call, offers, drains, writes, powers, begin, lives, unpowered, history}
use Rattle.power.specs.Theorem.{erased}
use Rattle.power.specs.Small.{SmallRecord, row, wide, flown, booted, parked, SmallPage, clear, ragged, sheet, keeps_nothing, keeps_some, keeps_all, small}

-- the device after a life from an erased log of four pages
abbrev pub after : List (Call small) → Device small
after life = lives small life (unpowered small (erased small 4))

-- what is on flash, what was logged in each power-on, and what the next scan says
abbrev pub Leaves : List (Call small) → List SmallPage → List (List (ℕ × SmallRecord)) → ScanAnswer → Type 0
Leaves life log logged answer = ((after life).log ≡ log) × (history small (after life) ≡ logged) × (scan small (after life).log ≡ answer)

-- what the search over so many used pages finds for a flight
abbrev pub Finds : List (Call small) → ℕ → ℕ → Option Span → Type 0
Finds life used flight found = find small (after life).log used flight ≡ found

-- a pass of at most 16 records that logs armed records only
abbrev pub armed_pass : ℕ → Call small
armed_pass succeed = drains (order_of 16 false true succeed busy)

-- a pass that logs every record, with the craft disarmed
abbrev pub bench_pass : ℕ → Call small
bench_pass succeed = drains (order_of 16 true false succeed busy)

-- Two pages of one flight. The boot-session mark is on the first record, a page is programmed at the top of the turn after it was filled,
-- and the fifth record is still a row when power goes: it is lost.
two_pages : List (Call small)
two_pages =
    powers ∷ offers (flown 1) ∷ offers (flown 2) ∷ offers (flown 3) ∷ offers (flown 4) ∷ offers (flown 5) ∷ armed_pass 9
    ∷ powers ∷ []

two_pages_lem : Leaves two_pages
    (sheet 1 0 (booted 1 ∷ flown 2 ∷ []) ∷ sheet 1 1 (flown 3 ∷ flown 4 ∷ []) ∷ clear ∷ clear ∷ [])
    ([] ∷ ((1, booted 1) ∷ (1, flown 2) ∷ (1, flown 3) ∷ (1, flown 4) ∷ (1, flown 5) ∷ []) ∷ [] ∷ [])
    (record { page = 2; flight = 2; writable = true })
unfolding two_pages bisect bisecting
two_pages_lem = (refl, refl, refl)

-- A failed program that in fact finished: the writer keeps the page waiting, power goes, and the page is whole. Nothing is lost.
failed_but_finished : List (Call small)
failed_but_finished =
    powers ∷ offers (flown 1) ∷ offers (flown 2) ∷ offers (flown 3) ∷ drains (order_of 16 false true 0 (fault keeps_nothing))
    ∷ powers ∷ []

failed_but_finished_lem : Leaves failed_but_finished
    (sheet 1 0 (booted 1 ∷ flown 2 ∷ []) ∷ clear ∷ clear ∷ clear ∷ [])
    ([] ∷ ((1, booted 1) ∷ (1, flown 2) ∷ []) ∷ [] ∷ [])
    (record { page = 1; flight = 2; writable = true })
unfolding failed_but_finished bisect bisecting
failed_but_finished_lem = (refl, refl, refl)

-- The same, but power stays: the same page goes to the same address again, and the next page follows it.
failed_then_again : List (Call small)
failed_then_again =
    powers ∷ offers (flown 1) ∷ offers (flown 2) ∷ offers (flown 3) ∷ offers (flown 4)
    ∷ drains (order_of 16 false true 0 (fault keeps_nothing)) ∷ writes 9 busy ∷ armed_pass 9 ∷ []

failed_then_again_lem : Leaves failed_then_again
    (sheet 1 0 (booted 1 ∷ flown 2 ∷ []) ∷ sheet 1 1 (flown 3 ∷ flown 4 ∷ []) ∷ clear ∷ clear ∷ [])
    ([] ∷ ((1, booted 1) ∷ (1, flown 2) ∷ (1, flown 3) ∷ (1, flown 4) ∷ []) ∷ [])
    (record { page = 2; flight = 2; writable = true })
unfolding failed_then_again bisect bisecting
failed_then_again_lem = (refl, refl, refl)

-- A failed program that left the page torn: "the same page goes to the same address again, and AND makes it whole".
made_whole : List (Call small)
made_whole =
    powers ∷ offers (flown 1) ∷ offers (flown 2) ∷ offers (flown 3) ∷ drains (order_of 16 false true 0 (fault keeps_some))
    ∷ writes 9 busy ∷ powers ∷ []

made_whole_lem : Leaves made_whole
    (sheet 1 0 (booted 1 ∷ flown 2 ∷ []) ∷ clear ∷ clear ∷ clear ∷ [])
    ([] ∷ ((1, booted 1) ∷ (1, flown 2) ∷ []) ∷ [] ∷ [])
    (record { page = 1; flight = 2; writable = true })
unfolding made_whole bisect bisecting
made_whole_lem = (refl, refl, refl)

-- A cut that leaves the page blank: what was logged is lost, and the next power-on has the same page and the same flight to give.
cut_blank : List (Call small)
cut_blank =
    powers ∷ offers (flown 1) ∷ offers (flown 2) ∷ offers (flown 3) ∷ drains (order_of 16 false true 0 (cut keeps_all)) ∷ powers
    ∷ []

cut_blank_lem : Leaves cut_blank
    (clear ∷ clear ∷ clear ∷ clear ∷ [])
    ([] ∷ ((1, booted 1) ∷ (1, flown 2) ∷ []) ∷ [] ∷ [])
    (record { page = 0; flight = 1; writable = true })
unfolding cut_blank bisect bisecting
cut_blank_lem = (refl, refl, refl)

-- A torn page right after a whole one counts with its flight.
one_torn : List (Call small)
one_torn =
    powers ∷ offers (flown 1) ∷ offers (flown 2) ∷ offers (flown 3) ∷ offers (flown 4) ∷ offers (flown 5)
    ∷ drains (order_of 16 false true 1 (cut keeps_some)) ∷ powers ∷ []

one_torn_lem : Leaves one_torn
    (sheet 1 0 (booted 1 ∷ flown 2 ∷ []) ∷ ragged ∷ clear ∷ clear ∷ [])
    ([] ∷ ((1, booted 1) ∷ (1, flown 2) ∷ (1, flown 3) ∷ (1, flown 4) ∷ []) ∷ [] ∷ [])
    (record { page = 2; flight = 2; writable = true })
unfolding one_torn bisect bisecting
one_torn_lem = (refl, refl, refl)

one_torn_found : Finds one_torn 2 1 (Some (record { start = 0; pages = 2 }))
unfolding one_torn bisect bisecting
one_torn_found = refl

-- A flight whose only page is torn: the torn page counts with the older flight, the flight's number is given again, and the search finds
-- the new one only.
given_again : List (Call small)
given_again =
    powers ∷ offers (flown 1) ∷ offers (flown 2) ∷ armed_pass 9 ∷ drains (order_of 16 false false 9 busy) ∷ offers (flown 3)
    ∷ offers (flown 4) ∷ armed_pass 0 ∷ writes 0 (cut keeps_some) ∷ powers ∷ offers (flown 5) ∷ offers (flown 6)
    ∷ armed_pass 9 ∷ powers ∷ []

given_again_lem : Leaves given_again
    (sheet 1 0 (booted 1 ∷ flown 2 ∷ []) ∷ ragged ∷ sheet 2 0 (booted 5 ∷ flown 6 ∷ []) ∷ clear ∷ [])
    ([] ∷ ((1, booted 1) ∷ (1, flown 2) ∷ (2, flown 3) ∷ (2, flown 4) ∷ []) ∷ ((2, booted 5) ∷ (2, flown 6) ∷ []) ∷ [] ∷ [])
    (record { page = 3; flight = 3; writable = true })
unfolding given_again bisect bisecting
given_again_lem = (refl, refl, refl)

given_again_found : Finds given_again 3 1 (Some (record { start = 0; pages = 2 })) × Finds given_again 3 2 (Some (record { start = 2; pages = 1 }))
    × Finds given_again 3 3 None
unfolding given_again bisect bisecting
given_again_found = (refl, refl, refl)

-- Two torn pages at the end: the scan says foreign, and nothing is written any more, whatever is offered.
unfoldable pub two_torn : List (Call small)
two_torn =
    powers ∷ offers (flown 1) ∷ offers (flown 2) ∷ offers (flown 3) ∷ offers (flown 4)
    ∷ drains (order_of 16 false true 1 (cut keeps_some)) ∷ powers ∷ offers (flown 5) ∷ offers (flown 6)
    ∷ drains (order_of 16 false true 0 (cut keeps_some)) ∷ powers ∷ offers (flown 7) ∷ offers (flown 8) ∷ armed_pass 9
    ∷ writes 9 busy ∷ powers ∷ []

two_torn_lem : Leaves two_torn
    (sheet 1 0 (booted 1 ∷ flown 2 ∷ []) ∷ ragged ∷ ragged ∷ clear ∷ [])
    ([] ∷ ((1, booted 1) ∷ (1, flown 2) ∷ (1, flown 3) ∷ (1, flown 4) ∷ []) ∷ ((2, booted 5) ∷ (2, flown 6) ∷ []) ∷ [] ∷ [] ∷ [])
    foreign_answer
unfolding two_torn bisect bisecting
two_torn_lem = (refl, refl, refl)

-- Page 0 torn: foreign at once.
first_torn : List (Call small)
first_torn =
    powers ∷ offers (flown 1) ∷ offers (flown 2) ∷ offers (flown 3) ∷ drains (order_of 16 false true 0 (cut keeps_some)) ∷ powers
    ∷ []

first_torn_lem : Leaves first_torn
    (ragged ∷ clear ∷ clear ∷ clear ∷ [])
    ([] ∷ ((1, booted 1) ∷ (1, flown 2) ∷ []) ∷ [] ∷ [])
    foreign_answer
unfolding first_torn bisect bisecting
first_torn_lem = (refl, refl, refl)

-- A full log: the page that has no address waits for ever, and it is all that is lost; the next scan says not writable.
full_log : List (Call small)
full_log =
    powers ∷ offers (flown 1) ∷ offers (flown 2) ∷ offers (flown 3) ∷ offers (flown 4) ∷ offers (flown 5)
    ∷ offers (flown 6) ∷ offers (flown 7) ∷ offers (flown 8) ∷ offers (flown 9) ∷ offers (flown 10) ∷ offers (flown 11)
    ∷ offers (flown 12) ∷ armed_pass 9 ∷ writes 9 busy ∷ armed_pass 9 ∷ powers ∷ []

full_log_lem : Leaves full_log
    (sheet 1 0 (booted 1 ∷ flown 2 ∷ []) ∷ sheet 1 1 (flown 3 ∷ flown 4 ∷ []) ∷ sheet 1 2 (flown 5 ∷ flown 6 ∷ []) ∷ sheet 1 3 (flown 7 ∷ flown 8 ∷ []) ∷ [])
    ([]
    ∷ ((1, booted 1) ∷ (1, flown 2) ∷ (1, flown 3) ∷ (1, flown 4) ∷ (1, flown 5) ∷ (1, flown 6) ∷ (1, flown 7) ∷ (1, flown 8) ∷ (1, flown 9)
    ∷ (1, flown 10) ∷ [])
    ∷ [] ∷ [])
    (record { page = 4; flight = 2; writable = false })
unfolding full_log bisect bisecting
full_log_lem = (refl, refl, refl)

-- The setting record_while_disarmed changes between passes: the first pass logs disarmed records, in the second a disarmed record ends the
-- flight, whose last page is short, and an armed one begins the next.
setting_changed : List (Call small)
setting_changed =
    powers ∷ offers (parked 1) ∷ offers (parked 2) ∷ offers (parked 3) ∷ bench_pass 9 ∷ offers (parked 4)
    ∷ offers (flown 5) ∷ offers (flown 6) ∷ armed_pass 9 ∷ powers ∷ []

setting_changed_lem : Leaves setting_changed
    (sheet 1 0 (row false true 1 ∷ parked 2 ∷ []) ∷ sheet 1 1 (parked 3 ∷ []) ∷ sheet 2 0 (flown 5 ∷ flown 6 ∷ []) ∷ clear ∷ [])
    ([] ∷ ((1, row false true 1) ∷ (1, parked 2) ∷ (1, parked 3) ∷ (2, flown 5) ∷ (2, flown 6) ∷ []) ∷ [] ∷ [])
    (record { page = 3; flight = 3; writable = true })
unfolding setting_changed bisect bisecting
setting_changed_lem = (refl, refl, refl)

-- A busy store holds up drain, which then takes no record; write_pending doesn't ask and programs.
held_up_calls : List (Call small)
held_up_calls = powers ∷ offers (flown 1) ∷ offers (flown 2) ∷ offers (flown 3) ∷ armed_pass 0 ∷ armed_pass 0 ∷ writes 0 busy ∷ []

held_up : Leaves held_up_calls
    (sheet 1 0 (booted 1 ∷ flown 2 ∷ []) ∷ clear ∷ clear ∷ clear ∷ [])
    ([] ∷ ((1, booted 1) ∷ (1, flown 2) ∷ []) ∷ [])
    (record { page = 1; flight = 2; writable = true })
unfolding held_up_calls bisect bisecting
held_up = (refl, refl, refl)

held_up_queue : (after held_up_calls).queue ≡ flown 3 ∷ []
unfolding held_up_calls bisect bisecting
held_up_queue = refl

-- With the queue empty drain programs nothing, though a page waits; disarmed, it ends the flight.
empty_queue : List (Call small)
empty_queue = powers ∷ offers (flown 1) ∷ offers (flown 2) ∷ armed_pass 0 ∷ armed_pass 9 ∷ drains (order_of 16 false false 9 busy) ∷ []

empty_queue_lem : Leaves empty_queue
    (clear ∷ clear ∷ clear ∷ clear ∷ [])
    ([] ∷ ((1, booted 1) ∷ (1, flown 2) ∷ []) ∷ [])
    (record { page = 0; flight = 1; writable = true })
unfolding empty_queue bisect bisecting
empty_queue_lem = (refl, refl, refl)

-- "A pass that isn't writable drops one record": before the first power-on, and on a foreign log.
dropped_one : (lives small (offers (flown 1) ∷ offers (flown 2) ∷ armed_pass 9 ∷ []) (unpowered small (erased small 4))).queue ≡ flown 2 ∷ []
dropped_one = refl

-- What a pass reports: two pages written are the rise of next_page by two; in a cut, the one program that succeeded.
five_offered : List (Call small)
five_offered = powers ∷ offers (flown 1) ∷ offers (flown 2) ∷ offers (flown 3) ∷ offers (flown 4) ∷ offers (flown 5) ∷ []

reports_two : ((drain small (order_of 16 false true 9 busy) (begin small (after five_offered) 9 busy)).pages_written ≡ 2)
    × ((drain small (order_of 16 false true 9 busy) (begin small (after five_offered) 9 busy)).writer.next_page ≡ 2)
unfolding five_offered bisect bisecting
reports_two = (refl, refl)

reports_cut : ((drain small (order_of 16 false true 1 (cut keeps_some)) (begin small (after five_offered) 1 (cut keeps_some))).pages_written ≡ 1)
    × ((drain small (order_of 16 false true 1 (cut keeps_some)) (begin small (after five_offered) 1 (cut keeps_some))).power_gone ≡ true)
unfolding five_offered bisect bisecting
reports_cut = (refl, refl)

-- Outside the theorem, which asks for a fresh writer at each power-on: recover keeps a page that waits, and write_pending looks at writable
-- only before it takes one. A page of flight 1 waits after a failed program; a scan that says foreign is handed to the same writer; the
-- page is then programmed at page 0 of a log that should have stayed as it is.
page_waits : List (Call small)
page_waits = powers ∷ offers (flown 1) ∷ offers (flown 2) ∷ offers (flown 3) ∷ drains (order_of 16 false true 0 (fault keeps_all)) ∷ []

not_fresh : Device small
unfolding page_waits bisect bisecting
not_fresh =
    record { log = ragged ∷ clear ∷ clear ∷ clear ∷ []; writer = recover small (after page_waits).writer foreign_answer; queue = []; past = []; now = [] }

not_fresh_lem : (write_pending small (begin small not_fresh 9 busy)).log ≡ sheet 1 0 (booted 1 ∷ flown 2 ∷ []) ∷ clear ∷ clear ∷ clear ∷ []
unfolding not_fresh page_waits bisect bisecting
not_fresh_lem = refl

-- Two editions: a flight is of its first record's. A record of the other edition is refused and changes nothing, also where it would have
-- filled the page; once the flight has ended it begins one of its own, whose pages hold three. Of five records logged in the last power-on
-- the two behind the page of three are lost, which is no more than the three that may be where the last is of the second edition.
two_editions : List (Call small)
two_editions =
    powers ∷ offers (flown 1) ∷ offers (wide true false 2) ∷ offers (flown 3) ∷ offers (parked 4) ∷ armed_pass 9
    ∷ offers (wide true false 5) ∷ offers (flown 6) ∷ offers (wide true false 7) ∷ offers (wide true false 8) ∷ offers (wide true false 9) ∷ offers (wide true false 10) ∷ armed_pass 9
    ∷ powers ∷ []

two_editions_lem : Leaves two_editions
    (sheet 1 0 (booted 1 ∷ flown 3 ∷ []) ∷ sheet 2 0 (wide true false 5 ∷ wide true false 7 ∷ wide true false 8 ∷ []) ∷ clear ∷ clear ∷ [])
    ([] ∷ ((1, booted 1) ∷ (1, flown 3) ∷ (2, wide true false 5) ∷ (2, wide true false 7) ∷ (2, wide true false 8) ∷ (2, wide true false 9) ∷ (2, wide true false 10) ∷ []) ∷ [] ∷ [])
    (record { page = 2; flight = 3; writable = true })
unfolding two_editions bisect bisecting
two_editions_lem = (refl, refl, refl)

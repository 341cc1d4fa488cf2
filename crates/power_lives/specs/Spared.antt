-- The assumption can be met on real bytes: a script all of whose masks leave one 0 bit of "FB" unprogrammed has no unfinished page that decodes, so
-- demand 3 assumes nothing of it. The bench day of the program run_bench_day is such a script. proofs/Spared shows each statement here.
use Rattle.std.specs.Prelude.{ℕ, ◌≡◌, true, false, List, [], ◌∷◌, ◌++◌, pos, replicate}
use Rattle.power.specs.Pages.{Each}
use Rattle.blackbox.specs.Record.{flight_record}
use Rattle.blackbox.specs.declared.FlightRecord.{FlightRecord}
use Rattle.power_pages.specs.Spared.{MagicBit, Unprogrammed}
use Rattle.log_writer.specs.Pass.{drain_order}
use Rattle.log_writer.specs.declared.NextProgram.{NextProgram}
use Rattle.log_writer.specs.declared.NextProgram.TheVariants.{Busy, Fault, Cut}
use Rattle.script.specs.Script.{Operation, offers, drains, writes, powers, recovers, resets, flushes, operations}
use Rattle.rig.specs.Rig.{after_play}
use Rattle.power_lives.specs.Theorem.{Plays, Erased, Assumed, logged_in, Safe}

-- a mask that is used leaves the bit
abbrev pub MaskSpares : MagicBit → NextProgram → List ℕ → Type 0
MaskSpares b Busy keep = Unit {0}
MaskSpares b Fault keep = Unprogrammed b keep
MaskSpares b Cut keep = Unprogrammed b keep

abbrev pub Spares : MagicBit → Operation → Type 0
Spares b (offers r) = Unit {0}
Spares b (drains order keep) = MaskSpares b order.next keep
Spares b (writes succeed next keep) = MaskSpares b next keep
Spares b powers = Unit {0}
Spares b (recovers page flight writable) = Unit {0}
Spares b resets = Unit {0}
Spares b (flushes buffered clock) = Unit {0}

-- THE ASSUMPTION IS MET by every script whose masks all leave one 0 bit of "FB" unprogrammed
abbrev pub SparedScripts : Type 0
SparedScripts =
    (capacity : ℕ) (image script output : List ℕ) → Plays capacity image script output → Erased capacity image → (b : MagicBit)
    → Each (Spares b) (operations script) → Assumed capacity image script

-- ---- the bench day, operation by operation as run_bench_day lays it

-- an armed record, told by its number
abbrev pub numbered : ℕ → FlightRecord
numbered n =
    flight_record n 0 0 1 (pos 0 ∷ pos 0 ∷ pos 0 ∷ []) (pos 0 ∷ pos 0 ∷ pos 0 ∷ []) (pos 0 ∷ pos 0 ∷ pos 0 ∷ []) (pos 0 ∷ pos 0 ∷ pos 0 ∷ []) 0
    (0 ∷ 0 ∷ 0 ∷ 0 ∷ [])

-- the second half of the page stays as it was
abbrev pub half_kept : List ℕ
half_kept = replicate 128 0 ++ replicate 128 255

abbrev no_mask : List ℕ
no_mask = replicate 256 0

-- flight 1: twelve records; its last page fails once and is then written
abbrev morning : List Operation
morning =
    powers ∷ offers (numbered 1) ∷ offers (numbered 2) ∷ offers (numbered 3) ∷ offers (numbered 4) ∷ offers (numbered 5) ∷ offers (numbered 6)
    ∷ offers (numbered 7) ∷ offers (numbered 8) ∷ offers (numbered 9) ∷ offers (numbered 10) ∷ offers (numbered 11) ∷ offers (numbered 12)
    ∷ drains (drain_order 16 true false 9 Busy) no_mask ∷ drains (drain_order 16 false false 9 Busy) no_mask ∷ writes 0 Fault half_kept ∷ writes 1 Busy no_mask ∷ []

-- flight 2: ten records are logged; the power goes while their second page is programmed, with one more in the queue
abbrev noon : List Operation
noon =
    powers ∷ offers (numbered 13) ∷ offers (numbered 14) ∷ offers (numbered 15) ∷ offers (numbered 16) ∷ offers (numbered 17) ∷ offers (numbered 18)
    ∷ offers (numbered 19) ∷ offers (numbered 20) ∷ drains (drain_order 8 true false 9 Busy) no_mask ∷ offers (numbered 21) ∷ offers (numbered 22)
    ∷ drains (drain_order 2 true false 9 Busy) no_mask ∷ offers (numbered 23) ∷ drains (drain_order 16 true false 0 Cut) half_kept ∷ []

-- three records are logged, and the power goes before their page is full; then a flight of five
abbrev evening : List Operation
evening =
    powers ∷ offers (numbered 24) ∷ offers (numbered 25) ∷ offers (numbered 26) ∷ drains (drain_order 16 true false 9 Busy) no_mask ∷ powers
    ∷ offers (numbered 27) ∷ offers (numbered 28) ∷ offers (numbered 29) ∷ offers (numbered 30) ∷ offers (numbered 31) ∷ drains (drain_order 5 true false 9 Busy) no_mask
    ∷ writes 1 Busy no_mask ∷ []

abbrev pub bench_day : List Operation
bench_day = morning ++ (noon ++ evening)

-- it meets the assumption, so that demand 3 holds of it with nothing assumed
abbrev pub BenchDaySafe : Type 0
BenchDaySafe =
    (image script output : List ℕ) → Plays 20480 image script output → operations script ≡ bench_day → Erased 20480 image
    → Safe 20480 image (after_play 20480 image script output) (logged_in 20480 image script)

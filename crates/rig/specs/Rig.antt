-- The rig: plays a script on an image, from power-on to power-off, and after each call tells its outcome, its report and the writer's
-- visible state. Document 01, "Writer and store".
use Rattle.std.specs.Prelude.{ℕ, ◌*◌, true, List, [], ◌∷◌, ◌++◌, eqb, length}
use Rattle.std.specs.Prelude.{Option, None, Some}
use Rattle.laws.specs.Refusals.{bad_length}
use Rattle.laws.specs.Answers.{Answer, gives, refuses, must, told}
use Rattle.words.specs.Words.{le_bytes}
use Rattle.store.specs.Store.{no_faults, on_image, leaves}
use Rattle.records.specs.Scan.{scanned}
use Rattle.records.specs.declared.Scan.{Scan}
use Rattle.assembler.specs.Assembler.{unfinished_flight}
use Rattle.queue.specs.Queue.{empty, offered}
use Rattle.queue.specs.declared.RecordQueue.{RecordQueue}
use Rattle.queue.specs.declared.Offered.{Offered}
use Rattle.log_state.specs.Writer.{fresh, has_pending, recovered}
use Rattle.log_state.specs.Flush.{flushed}
use Rattle.log_state.specs.declared.LogWriter.{LogWriter}
use Rattle.log_state.specs.declared.FlushAnswer.{FlushAnswer}
use Rattle.log_writer.specs.Pass.{drain_report}
use Rattle.log_writer.specs.Calls.{DrainTold, drained, after_drain, WriteTold, page_written, after_write}
use Rattle.log_writer.specs.declared.DrainReport.{DrainReport}
use Rattle.log_writer.specs.declared.PageWrite.{PageWrite}
use Rattle.log_writer.specs.declared.PageWrite.TheVariants.{Nothing, Written, RegionFull, ProgramFailed, PowerCut}
use Rattle.script.specs.Script.{Operation, offers, drains, writes, powers, recovers, resets, flushes, flag_byte, is_script, rows_in}
use Rattle.script.specs.Script.{operations}
use Rattle.rig.specs.declared.Bench.{Bench}
use Rattle.rig.specs.declared.Played.{Played}

-- what is on the bench beside the image: a writer and a queue
abbrev pub bench : LogWriter → RecordQueue → Bench
bench w q = record { writer = w; queue = q }

-- before the first power-on
unfoldable pub unpowered : Bench
unpowered = bench fresh empty

-- ---- one operation

-- what a call left on the bench, its outcome and its report
abbrev pub playing : LogWriter → RecordQueue → ℕ → ℕ → ℕ → ℕ → Played
playing w q outcome pages dropped faults =
    record { bench = bench w q; outcome = outcome; report = drain_report pages dropped faults }

-- the number of a refusal, 0 where there is none
abbrev pub refusal_number : {A : Type 0} → Answer A → ℕ
refusal_number (gives a) = 0
refusal_number (refuses number fault) = number

-- an offer's outcome is its refusal, 0 or 16
abbrev pub offering : LogWriter → Offered → Played
offering w answer = playing w answer.queue (refusal_number (told answer.answer)) 0 0 0

-- the report of a drain; one that was refused counted nothing
abbrev pub report_of : Answer DrainReport → DrainReport
report_of (gives r) = r
report_of (refuses number fault) = drain_report 0 0 0

-- a drain's outcome is 1 if the power was cut
abbrev pub draining : DrainTold → Played
draining answer = record { bench = bench answer.writer answer.queue; outcome = flag_byte answer.cut; report = report_of answer.report }

-- Nothing, Written, RegionFull, ProgramFailed, or the power was cut
abbrev pub outcome_of : PageWrite → ℕ
outcome_of Nothing = 0
outcome_of Written = 1
outcome_of RegionFull = 2
outcome_of ProgramFailed = 3
outcome_of PowerCut = 4

-- one that was refused did nothing
abbrev pub outcome_told : Answer PageWrite → ℕ
outcome_told (gives o) = outcome_of o
outcome_told (refuses number fault) = outcome_of Nothing

abbrev pub writing : WriteTold → Played
writing answer = playing answer.writer answer.queue (outcome_told answer.outcome) 0 0 0

-- "each with a fresh writer set by one scan alone"; a scan that is refused leaves the fresh writer, and its number is the outcome
abbrev pub powering : Answer Scan → Played
powering (gives s) = playing (recovered fresh s.next_page s.next_flight s.writable) empty 0 0 0 0
powering (refuses number fault) = playing fresh empty number 0 0 0

-- a flush's outcome is 1 if it flushes
abbrev pub flushing : RecordQueue → FlushAnswer → Played
flushing q answer = playing answer.writer q (flag_byte answer.flush) 0 0 0

-- what an operation does to the bench
unfoldable pub played : ℕ → Operation → Bench → List ℕ → Played
played capacity (offers r) b image = offering b.writer (offered b.queue r)
played capacity (drains order keep) b image = draining (drained order capacity image keep b.writer b.queue)
played capacity (writes succeed next keep) b image = writing (page_written capacity image keep next b.writer b.queue succeed)
played capacity powers b image = powering (scanned capacity image (no_faults capacity))
played capacity (recovers page flight writable) b image = playing (recovered b.writer page flight writable) b.queue 0 0 0 0
played capacity resets b image = playing (recovered b.writer 0 1 true) b.queue 0 0 0 0
played capacity (flushes buffered clock) b image = flushing b.queue (flushed b.writer buffered clock)

-- and to the image
unfoldable pub image_after : ℕ → Operation → Bench → List ℕ → List ℕ
image_after capacity (offers r) b image = image
image_after capacity (drains order keep) b image = after_drain order capacity image keep b.writer b.queue
image_after capacity (writes succeed next keep) b image = after_write capacity image keep next b.writer succeed
image_after capacity powers b image = image
image_after capacity (recovers page flight writable) b image = image
image_after capacity resets b image = image
image_after capacity (flushes buffered clock) b image = image

-- ---- what is told after it, in 40 bytes

-- a flag and a number, for an Option
abbrev pub is_there : Option ℕ → ℕ
is_there None = 0
is_there (Some n) = 1

abbrev pub number_or0 : Option ℕ → ℕ
number_or0 None = 0
number_or0 (Some n) = n

-- the flush's start time, if there is one
abbrev pub since : LogWriter → Option ℕ
since w = w.write_back_since_ms

-- outcome, writable, recording, unfinished (flag), flush start (flag), queue length; pages_written, records_dropped, write_faults;
-- next page, next flight, unfinished flight, flush start
unfoldable pub tells_of : Played → List ℕ
tells_of p =
    p.outcome ∷ flag_byte p.bench.writer.writable ∷ flag_byte p.bench.writer.assembler.recording
    ∷ is_there (unfinished_flight p.bench.writer.assembler (has_pending p.bench.writer)) ∷ is_there (since p.bench.writer)
    ∷ p.bench.queue.held ∷ 0 ∷ 0
    ∷ (le_bytes 4 p.report.pages_written ++ (le_bytes 4 p.report.records_dropped ++ (le_bytes 4 p.report.write_faults
    ++ (le_bytes 4 p.bench.writer.next_page ++ (le_bytes 4 p.bench.writer.next_flight
    ++ (le_bytes 4 (number_or0 (unfinished_flight p.bench.writer.assembler (has_pending p.bench.writer)))
    ++ le_bytes 8 (number_or0 (since p.bench.writer))))))))

-- ---- a script

-- the bench after some operations
unfoldable pub plays : ℕ → List Operation → Bench → List ℕ → Bench
plays capacity [] b image = b
plays capacity (o ∷ os) b image = plays capacity os (played capacity o b image).bench (image_after capacity o b image)

-- the image after them
unfoldable pub plays_image : ℕ → List Operation → Bench → List ℕ → List ℕ
plays_image capacity [] b image = image
plays_image capacity (o ∷ os) b image = plays_image capacity os (played capacity o b image).bench (image_after capacity o b image)

-- what is told of them, one after another
unfoldable pub tells : ℕ → List Operation → Bench → List ℕ → List ℕ
tells capacity [] b image = []
tells capacity (o ∷ os) b image =
    tells_of (played capacity o b image) ++ tells capacity os (played capacity o b image).bench (image_after capacity o b image)

-- "Order: 5, then 17": an image that has not its capacity's length, a malformed script, an output that has not 40 bytes for each row
unfoldable pub on_script : {A : Type 0} → ℕ → ℕ → List ℕ → ℕ → Answer A → Answer A
on_script capacity image_length script output_length rest =
    on_image capacity image_length (must (is_script script) bad_length (must (eqb output_length (rows_in script * 40)) bad_length rest))

-- what the player answers, and the image and the output that it leaves, which stay as they were where it is refused
abbrev pub play_told : ℕ → List ℕ → List ℕ → List ℕ → Answer (Unit {0})
play_told capacity image script output = on_script capacity (length image) script (length output) (gives tt)

abbrev pub after_play : ℕ → List ℕ → List ℕ → List ℕ → List ℕ
after_play capacity image script output =
    leaves image (on_script capacity (length image) script (length output) (gives (plays_image capacity (operations script) unpowered image)))

abbrev pub output_after : ℕ → List ℕ → List ℕ → List ℕ → List ℕ
output_after capacity image script output =
    leaves output (on_script capacity (length image) script (length output) (gives (tells capacity (operations script) unpowered image)))

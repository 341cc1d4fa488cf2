-- A script: what is done to a log, call by call, as rows of bytes. A row has a length of two bytes, an operation, numbers, and a record or
-- a keep mask; spare bytes are 0. A row is 288 bytes:
--   0 length (288), 2 operation, 3 what the program after those that succeed does (0 busy, 1 fault, 2 cut), 4 armed,
--   5 record_while_disarmed, 6 writable or buffered, 8 and 12 two numbers, 32 a record of 48 bytes or a keep mask of 256.
use Rattle.std.specs.Prelude.{ℕ, zero, suc, ◌+◌, ◌*◌, ◌/◌, ◌%◌, ◌^◌, Bool, true, false, cond, not, List, [], ◌∷◌, ◌++◌, eqb, length, get_or, replicate}
use Rattle.words.specs.Words.{le_bytes, u32_at, same_bytes}
use Rattle.store.specs.Store.{part}
use Rattle.blackbox.specs.Page.{padded}
use Rattle.blackbox.specs.Record.{record_length, record_of, record_bytes}
use Rattle.blackbox.specs.declared.FlightRecord.{FlightRecord}
use Rattle.log_writer.specs.Pass.{drain_order}
use Rattle.log_writer.specs.declared.DrainOrder.{DrainOrder}
use Rattle.log_writer.specs.declared.NextProgram.{NextProgram}
use Rattle.log_writer.specs.declared.NextProgram.TheVariants.{Busy, Fault, Cut}

-- The operations. Of a life: a record is offered to the queue; drain, with its order and the keep mask; write_pending with the programs
-- that succeed, what the next does and the keep mask; and power comes on. For comparing with the Rust: recover with given numbers,
-- reset_after_erase, and flush_write_back with whether something is buffered and the clock.
pub data Operation : Type 0 where
  offers : FlightRecord → Operation
  drains : DrainOrder → List ℕ → Operation
  writes : ℕ → NextProgram → List ℕ → Operation
  powers : Operation
  recovers : ℕ → ℕ → Bool → Operation
  resets : Operation
  flushes : Bool → ℕ → Operation

-- ---- from an operation to its row

-- a flag's byte
abbrev pub flag_byte : Bool → ℕ
flag_byte true = 1
flag_byte false = 0

-- "busy, fault or cut"
abbrev pub next_byte : NextProgram → ℕ
next_byte Busy = 0
next_byte Fault = 1
next_byte Cut = 2

-- a row by its parts: behind the bytes of a record or a mask spare bytes up to the row's end
unfoldable pub row : ℕ → ℕ → ℕ → ℕ → ℕ → ℕ → ℕ → List ℕ → List ℕ
row operation next armed while_disarmed flag first second payload =
    32 ∷ 1 ∷ operation ∷ next ∷ armed ∷ while_disarmed ∷ flag ∷ 0
    ∷ (le_bytes 4 first ++ (le_bytes 4 second ++ (replicate 16 0 ++ padded 256 0 payload)))

-- the row of an operation; a clock of 64 bits is two numbers, the low one first
unfoldable pub row_of : Operation → List ℕ
row_of (offers r) = row 0 0 0 0 0 0 0 (record_bytes r)
row_of (drains order keep) =
    row 1 (next_byte order.next) (flag_byte order.armed) (flag_byte order.record_while_disarmed) 0 order.limit order.succeed keep
row_of (writes succeed next keep) = row 2 (next_byte next) 0 0 0 0 succeed keep
row_of powers = row 3 0 0 0 0 0 0 []
row_of (recovers page flight writable) = row 4 0 0 0 (flag_byte writable) page flight []
row_of resets = row 5 0 0 0 0 0 0 []
row_of (flushes buffered clock) = row 6 0 0 0 (flag_byte buffered) (clock % 2 ^ 32) (clock / 2 ^ 32) []

-- ---- from a row to the operation that it says

-- a flag is set where its byte is not 0
abbrev pub flag_at : List ℕ → ℕ → Bool
flag_at bytes at = not (eqb (get_or bytes at 0) 0)

abbrev pub next_in : ℕ → NextProgram
next_in code = cond (eqb code 0) Busy (cond (eqb code 1) Fault Cut)

-- the order of a drain
abbrev pub order_in : List ℕ → DrainOrder
order_in bytes = drain_order (u32_at bytes 8) (flag_at bytes 4) (flag_at bytes 5) (u32_at bytes 12) (next_in (get_or bytes 3 0))

-- one of seven, by the operation's byte
abbrev pub by_operation : {A : Type 0} → ℕ → A → A → A → A → A → A → A → A
by_operation code a b c d e f g =
    cond (eqb code 0) a
    (cond (eqb code 1) b (cond (eqb code 2) c (cond (eqb code 3) d (cond (eqb code 4) e (cond (eqb code 5) f g)))))

-- the record in a row
abbrev pub offered_in : List ℕ → FlightRecord
offered_in bytes = record_of (part 32 record_length bytes)

unfoldable pub operation_in : List ℕ → Operation
operation_in bytes =
    by_operation (get_or bytes 2 0) (offers (offered_in bytes))
    (drains (order_in bytes) (part 32 256 bytes))
    (writes (u32_at bytes 12) (next_in (get_or bytes 3 0)) (part 32 256 bytes))
    powers
    (recovers (u32_at bytes 8) (u32_at bytes 12) (flag_at bytes 6))
    resets
    (flushes (flag_at bytes 6) (u32_at bytes 8 + 2 ^ 32 * u32_at bytes 12))

-- a row is the bytes of an operation and nothing else: its length is 288 and its spare bytes are 0
unfoldable pub is_row : List ℕ → Bool
is_row bytes = same_bytes bytes (row_of (operation_in bytes))

-- ---- a script

abbrev pub row_at : List ℕ → ℕ → List ℕ
row_at script i = part (i * 288) 288 script

-- how many rows its length is
abbrev pub rows_in : List ℕ → ℕ
rows_in script = length script / 288

-- the first n are rows
unfoldable pub each_is_row : List ℕ → ℕ → Bool
each_is_row script zero = true
each_is_row script (suc n) = cond (each_is_row script n) (is_row (row_at script n)) false

-- a script is rows, one after another, and nothing else
unfoldable pub is_script : List ℕ → Bool
is_script script = cond (eqb (length script % 288) 0) (each_is_row script (rows_in script)) false

-- n operations from row i on
unfoldable pub operations_from : List ℕ → ℕ → ℕ → List Operation
operations_from script i zero = []
operations_from script i (suc n) = operation_in (row_at script i) ∷ operations_from script (suc i) n

-- what it says is to be done, in order
abbrev pub operations : List ℕ → List Operation
operations script = operations_from script 0 (rows_in script)

-- the script of a list of operations
unfoldable pub script_of : List Operation → List ℕ
script_of [] = []
script_of (o ∷ os) = row_of o ++ script_of os

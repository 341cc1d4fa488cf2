-- The script of operations whose masks are bytes is bytes. Assumes nothing.
use Prim.Native.Nat.{ℕ, ◌-◌, ◌<◌}
use mathlib.Core.Bool.{Bool, true, false}
use mathlib.Core.List.{List, [], ◌∷◌, ◌++◌}
use native.Mathlib.Omega.{arith}
use lib.ListN.{length, replicate}
use Rattle.words.specs.Words.{Bytes, le_bytes}
use Rattle.words.proofs.Numbers.{bytes_nil, bytes_cons, bytes_append, bytes_replicate, bytes_le_bytes}
use Rattle.blackbox.specs.Page.{padded}
use Rattle.blackbox.specs.Record.{record_bytes}
use Rattle.blackbox.proofs.RecordBytes.{record_bytes_lem}
use Rattle.log_writer.specs.declared.NextProgram.{NextProgram}
use Rattle.log_writer.specs.declared.NextProgram.TheVariants.{Busy, Fault, Cut}
use Rattle.script.specs.Script.{Operation, offers, drains, writes, powers, recovers, resets, flushes, flag_byte, next_byte, row, row_of, script_of}

-- an operation whose mask is bytes
abbrev pub BytesOf : Operation → Type 0
BytesOf (offers r) = Unit {0}
BytesOf (drains order keep) = Bytes keep
BytesOf (writes succeed next keep) = Bytes keep
BytesOf powers = Unit {0}
BytesOf (recovers page flight writable) = Unit {0}
BytesOf resets = Unit {0}
BytesOf (flushes buffered clock) = Unit {0}

abbrev pub EachBytesOf : List Operation → Type 0
EachBytesOf [] = Unit {0}
EachBytesOf (o ∷ os) = BytesOf o × EachBytesOf os

record Part (l : List ℕ) : Type 0 where
  bytes : Bytes l

join : {l m : List ℕ} → Part l → Part m → Part (l ++ m)
join {l} {m} a b = record { bytes = bytes_append l m a.bytes b.bytes }

put : {l : List ℕ} (b : ℕ) → b < 256 → Part l → Part (b ∷ l)
put {l} b h a = record { bytes = bytes_cons b l h a.bytes }

number : (v : ℕ) → Part (le_bytes 4 v)
number v = record { bytes = bytes_le_bytes 4 v }

zeros : (n : ℕ) → Part (replicate n 0)
zeros n = record { bytes = bytes_replicate n 0 (omega arith) }

row_part : (operation next armed while_disarmed flag first second : ℕ) (payload : List ℕ) → operation < 256 → next < 256 → armed < 256 → while_disarmed < 256
    → flag < 256 → Part payload → Part (row operation next armed while_disarmed flag first second payload)
unfolding row padded
row_part operation next armed while_disarmed flag first second payload h₁ h₂ h₃ h₄ h₅ p =
    put 32 (omega arith)
    (put 1 (omega arith)
    (put operation h₁
    (put next h₂
    (put armed h₃
    (put while_disarmed h₄
    (put flag h₅
    (put 0 (omega arith) (join (number first) (join (number second) (join (zeros 16) (join p (zeros (256 - length payload)))))))))))))

flag_small : (b : Bool) → flag_byte b < 256
flag_small true = omega arith
flag_small false = omega arith

next_small : (n : NextProgram) → next_byte n < 256
next_small Busy = omega arith
next_small Fault = omega arith
next_small Cut = omega arith

none : Part []
none = record { bytes = bytes_nil }

row_bytes : (o : Operation) → BytesOf o → Part (row_of o)
unfolding row_of
row_bytes (offers r) h =
    row_part 0 0 0 0 0 0 0 (record_bytes r) (omega arith) (omega arith) (omega arith) (omega arith) (omega arith) (record { bytes = record_bytes_lem r })
row_bytes (drains order keep) h =
    row_part 1 _ _ _ 0 order.limit order.succeed keep (omega arith) (next_small order.next) (flag_small order.armed)
    (flag_small order.record_while_disarmed) (omega arith) (record { bytes = h })
row_bytes (writes succeed next keep) h =
    row_part 2 (next_byte next) 0 0 0 0 succeed keep (omega arith) (next_small next) (omega arith) (omega arith) (omega arith) (record { bytes = h })
row_bytes powers h = row_part 3 0 0 0 0 0 0 [] (omega arith) (omega arith) (omega arith) (omega arith) (omega arith) none
row_bytes (recovers page flight writable) h =
    row_part 4 0 0 0 (flag_byte writable) page flight [] (omega arith) (omega arith) (omega arith) (omega arith) (flag_small writable) none
row_bytes resets h = row_part 5 0 0 0 0 0 0 [] (omega arith) (omega arith) (omega arith) (omega arith) (omega arith) none
row_bytes (flushes buffered clock) h =
    row_part 6 0 0 0 (flag_byte buffered) _ _ [] (omega arith) (omega arith) (omega arith) (omega arith) (flag_small buffered) none

all_bytes : (os : List Operation) → EachBytesOf os → Part (script_of os)
unfolding script_of
all_bytes [] h = none
all_bytes (o ∷ os) h = join (row_bytes o h.0) (all_bytes os h.1)

pub script_bytes : (os : List Operation) → EachBytesOf os → Bytes (script_of os)
script_bytes os h = (all_bytes os h).bytes

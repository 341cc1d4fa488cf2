-- The operation that a value of the code says, and the row of the code's head of a row.
use Rattle.std.specs.Prelude.{ℕ, ◌≤◌, List, length}
use Rattle.script.specs.Script.{flag_byte, row, Operation, offers, drains, writes, powers, recovers, resets, flushes}
use Rattle.script.specs.declared.Head.{Head}
use Rattle.script.specs.declared.Operation as Code
use Rattle.script.specs.declared.Operation.TheVariants.{Offer, Drain, Write, Power, Recover, Reset, Flush}

abbrev pub said : Code.Operation → Operation
said (Offer r) = offers r
said (Drain order keep) = drains order keep.now
said (Write succeed next keep) = writes succeed next keep.now
said Power = powers
said (Recover page flight writable) = recovers page flight writable
said Reset = resets
said (Flush buffered clock) = flushes buffered clock

-- a mask has at most 256 bytes
abbrev pub Fitting : Code.Operation → Type 0
Fitting (Offer r) = Unit {0}
Fitting (Drain order keep) = length keep.now ≤ 256
Fitting (Write succeed next keep) = length keep.now ≤ 256
Fitting Power = Unit {0}
Fitting (Recover page flight writable) = Unit {0}
Fitting Reset = Unit {0}
Fitting (Flush buffered clock) = Unit {0}

-- the row of a head, with a record or a mask behind
abbrev pub row_by : Head → List ℕ → List ℕ
row_by h payload = row h.operation h.next (flag_byte h.armed) (flag_byte h.while_disarmed) (flag_byte h.flag) h.first h.second payload

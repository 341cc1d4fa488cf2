-- Every list of operations has a script, as statements; proofs/ shows them.
use Rattle.std.specs.Prelude.{ℕ, ◌^◌, ◌<◌, ◌≡◌, true, List, [], ◌∷◌, length}
use Rattle.words.specs.Words.{Bytes}
use Rattle.blackbox.specs.Record.{Fit}
use Rattle.script.specs.Script.{Operation, offers, drains, writes, powers, recovers, resets, flushes, is_script, operations, script_of}

-- an operation whose numbers fit their bytes: a record of 48 bytes, a keep mask of 256
abbrev pub Writes : Operation → Type 0
Writes (offers r) = Fit r
Writes (drains order keep) = (order.limit < 2 ^ 32) × (order.succeed < 2 ^ 32) × (length keep ≡ 256)
Writes (writes succeed next keep) = (succeed < 2 ^ 32) × (length keep ≡ 256)
Writes powers = Unit {0}
Writes (recovers page flight writable) = (page < 2 ^ 32) × (flight < 2 ^ 32)
Writes resets = Unit {0}
Writes (flushes buffered clock) = clock < 2 ^ 64

abbrev pub EachWrites : List Operation → Type 0
EachWrites [] = Unit {0}
EachWrites (o ∷ os) = Writes o × EachWrites os

-- their script is one, and says them
abbrev pub HasScript : Type 0
HasScript = (os : List Operation) → EachWrites os → (is_script (script_of os) ≡ true) × (operations (script_of os) ≡ os)

-- what the rows of a script say fits: its records are records and its masks have 256 bytes
abbrev pub RowsFit : Type 0
RowsFit = (script : List ℕ) → Bytes script → is_script script ≡ true → EachWrites (operations script)

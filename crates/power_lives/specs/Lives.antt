-- The life that a script plays: its operations as calls of the theory `power`, whose history says what was logged in each power-on.
use Rattle.std.specs.Prelude.{ℕ, ◌≡◌, Bool, cond, false, List, [], ◌∷◌, ◌++◌, ltb, replicate}
use Rattle.power.specs.Calls.{Next}
use Rattle.power.specs.Life.{Call, Device}
use Rattle.power.specs.Life as Life
use Rattle.layout.specs.Layout.{pages_in}
use Rattle.power_pages.specs.Store.{real, pages_of}
use Rattle.power_views.specs.Views.{as_next, as_order}
use Rattle.log_writer.specs.Pass.{drain_order}
use Rattle.log_writer.specs.declared.DrainOrder.{DrainOrder}
use Rattle.log_writer.specs.declared.NextProgram.{NextProgram}
use Rattle.log_writer.specs.declared.NextProgram.TheVariants.{Busy, Fault, Cut}
use Rattle.script.specs.Script.{Operation, offers, drains, writes, powers, recovers, resets, flushes, operations}
use Rattle.rig.specs.Rig.{unpowered, played, image_after, plays, plays_image}
use Rattle.rig.specs.declared.Bench.{Bench}

-- an operation of a life: "Power comes on any number of times, each with a fresh writer set by one scan alone". A flush with nothing buffered is one
-- too, as the firmware calls it at the top of each pass: it clears the writer's start time, and calls nothing.
abbrev pub OfLife : Operation → Type 0
OfLife (offers r) = Unit {0}
OfLife (drains order keep) = Unit {0}
OfLife (writes succeed next keep) = Unit {0}
OfLife powers = Unit {0}
OfLife (recovers page flight writable) = ⊥
OfLife resets = ⊥
OfLife (flushes buffered clock) = buffered ≡ false

abbrev pub EachOfLife : List Operation → Type 0
EachOfLife [] = Unit {0}
EachOfLife (o ∷ os) = OfLife o × EachOfLife os

-- "a record offered to a queue that holds 31" is refused, any other is taken
abbrev pub takes : Bench → Bool
takes b = ltb b.queue.held 31

-- a drain and a write_pending of a script as calls
abbrev pub drain_of : DrainOrder → List ℕ → Call real
drain_of order keep = Life.drains (as_order order keep)

abbrev pub write_of : ℕ → NextProgram → List ℕ → Call real
write_of succeed next keep = Life.writes succeed (as_next next keep)

-- the calls that an operation is: an offer that is refused is none
abbrev pub calls_of : Operation → Bench → List (Call real)
calls_of (offers r) b = cond (takes b) (Life.offers r ∷ []) []
calls_of (drains order keep) b = drain_of order keep ∷ []
calls_of (writes succeed next keep) b = write_of succeed next keep ∷ []
calls_of powers b = Life.powers ∷ []
calls_of (recovers page flight writable) b = []
calls_of resets b = []
calls_of (flushes buffered clock) b = []

-- the life that some operations play, from a bench and an image on
abbrev pub life_from : ℕ → List Operation → Bench → List ℕ → List (Call real)
life_from capacity [] b image = []
life_from capacity (o ∷ os) b image = calls_of o b ++ life_from capacity os (played capacity o b image).bench (image_after capacity o b image)

-- the life of a script, from before the first power-on
abbrev pub life_of : ℕ → List ℕ → List ℕ → List (Call real)
life_of capacity image script = life_from capacity (operations script) unpowered image

-- the life that some operations play where a script ends
abbrev pub life_after : ℕ → List ℕ → List ℕ → List Operation → List (Call real)
life_after capacity image script more =
    life_from capacity more (plays capacity (operations script) unpowered image) (plays_image capacity (operations script) unpowered image)

-- the device of the theory before it, and after it
abbrev pub device_before : ℕ → List ℕ → Device real
device_before capacity image = Life.unpowered real (pages_of (pages_in capacity) image)

abbrev pub device_after : ℕ → List ℕ → List ℕ → Device real
device_after capacity image script = Life.lives real (life_of capacity image script) (device_before capacity image)

-- ASSUMED, of each program of a life that did not finish: what it left doesn't decode, or is the page itself
abbrev pub NoneDecodes : List (Call real) → Device real → Type 0
NoneDecodes [] d = Unit {0}
NoneDecodes (Life.offers r ∷ life) d = NoneDecodes life (Life.call real (Life.offers r) d)
NoneDecodes (Life.drains order ∷ life) d = Life.Assumed real (Life.drains order) d × NoneDecodes life (Life.call real (Life.drains order) d)
NoneDecodes (Life.writes succeed next ∷ life) d = Life.Assumed real (Life.writes succeed next) d × NoneDecodes life (Life.call real (Life.writes succeed next) d)
NoneDecodes (Life.powers ∷ life) d = NoneDecodes life (Life.call real Life.powers d)

-- ---- the script of a life

-- what the program after those that succeed does, and its mask
abbrev pub next_of : Next (List ℕ) → NextProgram
next_of Next.busy = Busy
next_of (Next.fault keep) = Fault
next_of (Next.cut keep) = Cut

abbrev pub keep_of : Next (List ℕ) → List ℕ
keep_of Next.busy = replicate 256 0
keep_of (Next.fault keep) = keep
keep_of (Next.cut keep) = keep

-- the operation that a call is
abbrev pub operation_of : Call real → Operation
operation_of (Life.offers r) = offers r
operation_of (Life.drains order) =
    drains (drain_order order.limit order.armed order.while_disarmed order.succeed (next_of order.next)) (keep_of order.next)
operation_of (Life.writes succeed next) = writes succeed (next_of next) (keep_of next)
operation_of Life.powers = powers

abbrev pub operations_of : List (Call real) → List Operation
operations_of [] = []
operations_of (c ∷ life) = operation_of c ∷ operations_of life

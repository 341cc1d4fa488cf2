-- "States come from these calls alone": every operation keeps the bench well-formed; as a statement, which proofs/ shows.
use Rattle.std.specs.Prelude.{ℕ, List}
use Rattle.queue.specs.WellFormed.{SoundQueue}
use Rattle.log_state.specs.WellFormed.{SoundWriter}
use Rattle.script.specs.Script.{Operation}
use Rattle.rig.specs.Rig.{unpowered, played}
use Rattle.rig.specs.declared.Bench.{Bench}

-- a writer and a queue of well-formed states
pub record SoundBench (b : Bench) : Type 0 where
  pub writer : SoundWriter b.writer
  pub queue : SoundQueue b.queue

abbrev pub UnpoweredIsSound : Type 0
UnpoweredIsSound = SoundBench unpowered

abbrev pub OperationKeeps : Type 0
OperationKeeps = (capacity : ℕ) (o : Operation) (b : Bench) (image : List ℕ) → SoundBench b → SoundBench (played capacity o b image).bench

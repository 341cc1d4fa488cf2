-- Every operation keeps the bench well-formed, by the laws of the writer's and the queue's calls. Assumes nothing.
use Prim.Native.Nat.{ℕ}
use mathlib.Core.Path.{◌≡◌, sym, subst}
use mathlib.Core.Bool.{true}
use mathlib.Core.List.{List}
use Rattle.laws.specs.Answers.{Answer, gives, refuses}
use Rattle.store.specs.Store.{no_faults}
use Rattle.records.specs.Scan.{scanned}
use Rattle.records.specs.declared.Scan.{Scan}
use Rattle.queue.proofs.Laws.{new_is_sound, offer_keeps}
use Rattle.log_state.specs.Writer.{fresh}
use Rattle.log_state.proofs.Sound.{fresh_sound, recovered_sound, flushed_sound}
use Rattle.log_writer.proofs.Laws.{drain_keeps, write_keeps}
use Rattle.script.specs.Script.{Operation, offers, drains, writes, powers, recovers, resets, flushes}
use Rattle.rig.specs.Rig.{unpowered, played, powering}
use Rattle.rig.specs.declared.Bench.{Bench}
use Rattle.rig.specs.declared.Played.{Played}
use Rattle.rig.specs.Laws.{SoundBench, UnpoweredIsSound, OperationKeeps}

pub unpowered_sound : UnpoweredIsSound
unfolding unpowered
unpowered_sound = record { writer = fresh_sound; queue = new_is_sound }

powering_sound : (a : Answer Scan) → SoundBench (powering a).bench
powering_sound (gives s) =
    record { writer = recovered_sound fresh s.next_page s.next_flight s.writable fresh_sound; queue = new_is_sound }
powering_sound (refuses number fault) = record { writer = fresh_sound; queue = new_is_sound }

pub operation_keeps : OperationKeeps
unfolding played
operation_keeps c (offers r) b image h = record { writer = h.writer; queue = offer_keeps b.queue r h.queue }
operation_keeps c (drains order keep) b image h =
    let k = drain_keeps order c image keep b.writer b.queue (h.writer, h.queue) in
    record { writer = k.0; queue = k.1 }
operation_keeps c (writes succeed next keep) b image h =
    let k = write_keeps c image keep next b.writer b.queue succeed (h.writer, h.queue) in
    record { writer = k.0; queue = k.1 }
operation_keeps c powers b image h = powering_sound (scanned c image (no_faults c))
operation_keeps c (recovers page flight writable) b image h =
    record { writer = recovered_sound b.writer page flight writable h.writer; queue = h.queue }
operation_keeps c resets b image h = record { writer = recovered_sound b.writer 0 1 true h.writer; queue = h.queue }
operation_keeps c (flushes buffered clock) b image h =
    record { writer = flushed_sound b.writer buffered clock h.writer; queue = h.queue }

-- the same of a bench that is known by an equation

pub unpowered_as : (b : Bench) → b ≡ unpowered → SoundBench b
unpowered_as b e = subst SoundBench (sym e) unpowered_sound

pub played_as_lem : (c : ℕ) (o : Operation) (b : Bench) (image : List ℕ) (r : Played) → r ≡ played c o b image → SoundBench b
    → SoundBench r.bench
played_as_lem c o b image r e h = subst (λ (p : Played). SoundBench p.bench) (sym e) (operation_keeps c o b image h)

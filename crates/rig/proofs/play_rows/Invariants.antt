-- `rig::play_rows` meets its contract. The loop's invariant: the rows so far were played, and what is left is the script from there on.
-- Assumes nothing.
use Prim.Native.Nat.{◌*◌, ◌^◌, ◌<◌}
use mathlib.Core.Path.{◌≡◌}
use lib.ListN.{length}
use Rattle.std.specs.Iterator.Adapters.{enumerate_source, enumerate_count}
use Rattle.std.specs.Slice.Iter.{chunks_exact_rest, chunks_exact_size}
use Rattle.script.specs.Script.{rows_in}
use Rattle.rig.proofs.Playing.{Plays}
use Rattle.rig.proofs.play_rows.Given as goal

abbrev pub invariant-loop-i : goal.invariant-loop-i
invariant-loop-i l =
    record {
      plays :
          Plays l.capacity_bytes l.script l.initial.image l.played.bench l.image l.output (length l.yielded)
          (chunks_exact_rest (enumerate_source l.i-iterator));
      size : chunks_exact_size (enumerate_source l.i-iterator) ≡ 288;
      count : enumerate_count l.i-iterator ≡ length l.yielded;
      fits : rows_in l.script * 288 < 2 ^ 64;
    }

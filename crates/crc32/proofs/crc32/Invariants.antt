-- `crc32::crc32` meets its contract. The loops' invariants: the bytes that are left lead to the whole message's remainder. Assumes nothing.
use mathlib.Core.Path.{◌≡◌}
use Prim.Native.Nat.{◌*◌}
use lib.ListN.{drop}
use Rattle.crc32.specs.Crc.{remainder}
use Rattle.crc32.proofs.crc32.Given as goal

abbrev pub invariant-loop-word : goal.invariant-loop-word
invariant-loop-word l = remainder l.crc (drop (l.word-index * 8) l.bytes) ≡ remainder 0xffffffff l.bytes

abbrev pub invariant-loop-byte : goal.invariant-loop-byte
invariant-loop-byte l = remainder l.crc (drop l.byte-index l.rest) ≡ remainder 0xffffffff l.bytes

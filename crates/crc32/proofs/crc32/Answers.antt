-- `crc32::crc32` meets its contract. The loops' invariants: the bytes that are left lead to the whole message's remainder. Assumes nothing.
use mathlib.Core.Path.{ap}
use Prim.Native.Nat.{ℕ, ◌/◌, ◌≤◌, ◌<◌}
use native.Mathlib.Omega.{arith}
use lib.Bits.{bit_xor}
use lib.ListN.{length}
use Rattle.words.specs.Words.{Bytes}
use Rattle.crc32.specs.Crc.{crc32_of}
use Rattle.crc32.proofs.Linear.{word_turn}
use Rattle.crc32.proofs.Remainders.{byte_turn, bytes_end}
use borrow.Author.Rules.{rules}
use Rattle.crc32.proofs.crc32.Goals as goal

pub loop-word-preserved : goal.loop-word-preserved
loop-word-preserved c =
    let bytes : Bytes c.args.bytes.now = λ i. (c.type_inv.bytes i).fits in
    let room : c.loop-word.word-index < length c.args.bytes.now / 8 = omega arith in
    search (word_turn, rules)

pub loop-byte-preserved : goal.loop-byte-preserved
loop-byte-preserved c = search (byte_turn, rules)

pub returns : goal.returns
unfolding crc32_of
returns c =
    let whole : length c.as_chunks.result.1.now ≤ c.loop-byte.byte-index = omega arith in
    ap (λ (x : ℕ). bit_xor x 0xffffffff) (bytes_end _ c.as_chunks.result.1.now _ _ whole c.loop-byte.invariant)

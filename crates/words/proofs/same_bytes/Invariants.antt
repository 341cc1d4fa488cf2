-- The loop of `words::same_bytes`: what is left decides, unless a byte before it differs.
use mathlib.Core.Path.{◌≡◌}
use lib.ListN.{length}
use Rattle.words.specs.Words.{same_bytes}
use Rattle.words.proofs.Same.{left_same}
use Rattle.words.proofs.same_bytes.Given as goal

abbrev pub invariant-loop-x : goal.invariant-loop-x
invariant-loop-x l =
    (length l.x-iterator.a.rest.now ≡ length l.x-iterator.b.rest.now)
    × (left_same l.differ l.x-iterator.a.rest.now l.x-iterator.b.rest.now ≡ same_bytes l.a l.b)

-- A text in an array that holds 0x00 behind it, for `Text`'s invariant. Assumes nothing.
use Rattle.std.specs.Prelude.{ℕ, ◌-◌, ◌≤◌, ◌≡◌, min, List, length, take, replicate}
use Rattle.std.proofs.Common.{arith, ap, length-append, length-take}
use lib.ListN.{length-replicate}
use Rattle.blackbox.specs.Page.{padded}

-- the bytes are as many as the array has room for
length_held : (room : ℕ) (text : List ℕ) → length text ≤ room → length (padded room 0 text) ≡ room
unfolding padded
length_held room text h = omega (arith, length-append text (replicate (room - length text) 0), length-replicate {A = ℕ} (room - length text) 0)

-- a text that stands in its array is as long as it says
pub held_whole : (room len : ℕ) (bytes : List ℕ) → len ≤ room → bytes ≡ padded room 0 (take len bytes) → length (take len bytes) ≡ len
held_whole room len bytes fits zeros =
    let part : length (take len bytes) ≡ min len (length bytes) = length-take len bytes in
    omega (arith, part, ap length zeros, length_held room (take len bytes) (omega (arith, part)))

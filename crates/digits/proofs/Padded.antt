-- An array of a text with 0x00 behind it: what is laid behind the text. Assumes nothing.
use mathlib.Core.Path.{◌≡◌, sym, ap, ◌∙◌}
use mathlib.Core.List.{List, [], ◌++◌}
use Prim.Native.Nat.{ℕ, ◌+◌, ◌-◌, ◌≤◌}
use native.Mathlib.Omega.{arith}
use borrow.Rule.Slice.PartMut.{put_mid}
use lib.ListN.{length, take, drop, replicate, length-append}
use lib.Seq.{drop-append-add}
use Rattle.std.proofs.Common.{take-append-drop}
use Rattle.std.proofs.lemmas.List.{drop-replicate}
use Rattle.std.proofs.lemmas.Slice.{take-put_mid, drop-put_mid}
use Rattle.blackbox.specs.Page.{padded}
use Rattle.blackbox.proofs.Laying.{length_padded}
use Rattle.digits.specs.Held.{held_whole}

-- no text in an array of zeros
pub empty_padded : (room : ℕ) → padded room 0 [] ≡ replicate room 0
unfolding padded
empty_padded room = ap (λ (k : ℕ). replicate {A = ℕ} k 0) {x = room - 0} {y = room} (omega arith)

-- bytes laid behind the text leave 0x00 behind them
pub laid_padded : (room len n : ℕ) (held ys : List ℕ) → len + n ≤ room → length ys ≡ n → held ≡ padded room 0 (take len held)
    → put_mid len (len + n - len) held ys ≡ padded room 0 (take (len + n) (put_mid len (len + n - len) held ys))
unfolding padded
laid_padded room len n held ys fits long zeros =
    let text : List ℕ = take len held in
    let new : List ℕ = put_mid len (len + n - len) held ys in
    let whole : length text ≡ len = held_whole room len held (omega arith) zeros in
    let all : length held ≡ room = ap length zeros ∙ length_padded room 0 text (omega arith) in
    let front : length (take (len + n) new) ≡ len + n =
    ap length (take-put_mid len (len + n - len) held ys (len + n) (omega arith) (omega arith)) ∙ length-append text ys ∙ omega arith in
    sym (take-append-drop (len + n) new)
    ∙ ap (λ (l : List ℕ). take (len + n) new ++ l)
    (drop-put_mid len (len + n - len) held ys (len + n) (omega arith) (omega arith) (omega arith)
    ∙ ap (drop (len + n)) zeros
    ∙ ap (λ (k : ℕ). drop (k + n) (text ++ replicate (room - length text) 0)) (sym whole)
    ∙ drop-append-add text (replicate (room - length text) 0) n
    ∙ drop-replicate n (room - length text) 0
    ∙ ap (λ (k : ℕ). replicate {A = ℕ} k 0) {x = room - length text - n} {y = room - length (take (len + n) new)} (omega arith))

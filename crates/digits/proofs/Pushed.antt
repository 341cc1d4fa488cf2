-- Texts in fixed memory: what is pushed stands behind the text, as far as there is room. Assumes nothing.
use mathlib.Core.Path.{◌≡◌, refl, sym, ap, ap₂, ◌∙◌}
use mathlib.Core.List.{List, [], ◌∷◌, ◌++◌}
use Prim.Native.Nat.{ℕ, zero, suc, ◌+◌, ◌-◌, ◌≤◌, min}
use native.Mathlib.Omega.{arith}
use borrow.Rule.Slice.PartMut.{put_mid}
use lib.ListN.{length, take, drop, replicate}
use lib.Seq.{length-take-le, take-append-add, take_all, take-nil}
use Rattle.std.proofs.lemmas.List.{take_min, drop-replicate}
use Rattle.std.proofs.lemmas.Slice.{take-put_mid}
use Rattle.std.proofs.Common.{append-nil, append_assoc}
use Rattle.blackbox.specs.Page.{padded}
use Rattle.digits.proofs.Notation.{same_decimal, decimal_small, decimal_more}

-- a part of the array's bytes, written behind the text
pub laid : (room len n : ℕ) (held b ys text : List ℕ) → length held ≡ room → len ≤ room → n ≡ min (length b) (room - len) → ys ≡ take n b
    → take len held ≡ text → take (len + n) (put_mid len (len + n - len) held ys) ≡ take room (text ++ b)
laid room len n held b ys text h fits e w t =
    let long : length text ≡ len = ap length (sym t) ∙ length-take-le len held (omega arith) in
    let new : length ys ≡ n = ap length w ∙ length-take-le n b (omega arith) in
    let some : n ≡ min (room - len) (length b) = omega arith in
    let all : length text + (room - len) ≡ room = omega arith in
    take-put_mid len (len + n - len) held ys (len + n) (omega arith) (omega arith)
    ∙ ap₂ {C = List ℕ} (λ (x y : List ℕ). x ++ y) t (w ∙ ap (λ (k : ℕ). take k b) some ∙ take_min (room - len) b)
    ∙ sym (take-append-add text b (room - len))
    ∙ ap (λ (k : ℕ). take k (text ++ b)) all

-- what is pushed after a push is pushed with it
pub pushed : (room : ℕ) (a b : List ℕ) → take room (take room a ++ b) ≡ take room (a ++ b)
pushed zero a b = refl
pushed (suc room) [] b = refl
pushed (suc room) (x ∷ a) b = ap {B = List ℕ} (λ (l : List ℕ). x ∷ l) (pushed room a b)

-- a number behind a text, in one push or several
pub ruleset numbers = (same_decimal, decimal_small, decimal_more, pushed, append-nil, append_assoc)

-- one push after another: what they make, and the pieces behind one another
abbrev pub pushes : ℕ → List ℕ → List (List ℕ) → List ℕ
pushes room text [] = text
pushes room text (b ∷ bs) = pushes room (take room (text ++ b)) bs

abbrev pub behind : List ℕ → List (List ℕ) → List ℕ
behind text [] = text
behind text (b ∷ bs) = behind (text ++ b) bs

pub pushes_behind : (room : ℕ) (text : List ℕ) (bs : List (List ℕ)) → pushes room (take room text) bs ≡ take room (behind text bs)
pushes_behind room text [] = refl
pushes_behind room text (b ∷ bs) = ap (λ (l : List ℕ). pushes room l bs) (pushed room text b) ∙ pushes_behind room (text ++ b) bs

-- pieces that fit together are the whole text
pub pushes_fit : (room : ℕ) (bs : List (List ℕ)) → length (behind [] bs) ≤ room → pushes room [] bs ≡ behind [] bs
pushes_fit room bs h =
    ap (λ (l : List ℕ). pushes room l bs) (sym (take-nil {A = ℕ} room)) ∙ pushes_behind room [] bs ∙ take_all room (behind [] bs) h

-- the array of a text that is copied into one of zeros
pub padded_by : (room len : ℕ) (text new : List ℕ) → length text ≡ len → new ≡ text → new ++ drop len (replicate room 0) ≡ padded room 0 text
unfolding padded
padded_by room len text new h e = ap₂ {C = List ℕ} (λ (x y : List ℕ). x ++ y) e (drop-replicate len room 0 ∙ ap (λ (k : ℕ). replicate (room - k) 0) (sym h))

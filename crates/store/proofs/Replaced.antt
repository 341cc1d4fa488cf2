-- A list with other elements from an index on: which elements and which parts stay. Assumes nothing.
use Prim.Native.Nat.{ℕ, ◌+◌, ◌-◌, ◌≤◌, ◌<◌}
use mathlib.Core.Path.{◌≡◌, refl, sym, ap, ◌∙◌}
use mathlib.Core.List.{List, ◌++◌}
use native.Mathlib.Omega.{arith}
use lib.ListN.{length, get_or, take, drop, length-append, length-drop, take-append-drop, get_or-append}
use lib.Seq.{length-take-le, take_at, drop_at, drop-append-le, take-append-le, get_or-take, get_or-drop, drop-drop}
use Rattle.store.specs.Store.{part}
use Rattle.store.specs.Laws.{OnlyAt}

abbrev pub replaced : List ℕ → ℕ → List ℕ → List ℕ
replaced m at new = take at m ++ (new ++ drop (at + length new) m)

module _ (m : List ℕ) (at : ℕ) (new : List ℕ) (fits : at + length new ≤ length m) where
  front : length (take at m) ≡ at
  front = length-take-le at m (omega arith)

  pub replaced_long : length (replaced m at new) ≡ length m
  replaced_long =
      let rest = drop (at + length new) m in
      omega (arith, length-append (take at m) (new ++ rest), length-append new rest, front, length-drop (at + length new) m)

  -- what follows the front, and what follows the new elements
  after_front : drop at (replaced m at new) ≡ new ++ drop (at + length new) m
  after_front = drop_at (take at m) (new ++ drop (at + length new) m) at front

  pub after_new : drop (at + length new) (replaced m at new) ≡ drop (at + length new) m
  after_new =
      sym (drop-drop (length new) at (replaced m at new)) ∙ ap (drop (length new)) after_front
      ∙ drop_at new (drop (at + length new) m) (length new) refl

  pub front_same : take at (replaced m at new) ≡ take at m
  front_same = take_at (take at m) (new ++ drop (at + length new) m) at front

  pub its_part : part at (length new) (replaced m at new) ≡ new
  its_part = ap (take (length new)) after_front ∙ take_at new (drop (at + length new) m) (length new) refl

  pub part_above : (b l : ℕ) → at + length new ≤ b → part b l (replaced m at new) ≡ part b l m
  part_above b l h = ap (take l) (further (b - (at + length new)) (omega arith))
    where
      further : (n : ℕ) → at + length new + n ≡ b → drop b (replaced m at new) ≡ drop b m
      further n e =
          ap (λ (j : ℕ). drop j (replaced m at new)) (sym e) ∙ sym (drop-drop n (at + length new) (replaced m at new)) ∙ ap (drop n) after_new
          ∙ drop-drop n (at + length new) m ∙ ap (λ (j : ℕ). drop j m) e

  pub byte_below : (i : ℕ) → i < at → get_or (replaced m at new) i 0 ≡ get_or m i 0
  byte_below i h = get_or-append (take at m) (new ++ drop (at + length new) m) 0 i (omega (arith, front)) ∙ get_or-take at m i 0 h

  pub byte_above : (i : ℕ) → at + length new ≤ i → get_or (replaced m at new) i 0 ≡ get_or m i 0
  byte_above i h =
      let e : at + length new + (i - (at + length new)) ≡ i = omega arith in
      ap (λ (j : ℕ). get_or (replaced m at new) j 0) (sym e)
      ∙ sym (get_or-drop (at + length new) (replaced m at new) (i - (at + length new)) 0)
      ∙ ap (λ (l : List ℕ). get_or l (i - (at + length new)) 0) after_new
      ∙ get_or-drop (at + length new) m (i - (at + length new)) 0
      ∙ ap (λ (j : ℕ). get_or m j 0) e

  pub byte_new : (i : ℕ) → i < length new → get_or (replaced m at new) (at + i) 0 ≡ get_or new i 0
  byte_new i h =
      sym (get_or-drop at (replaced m at new) i 0) ∙ ap (λ (l : List ℕ). get_or l i 0) after_front
      ∙ get_or-append new (drop (at + length new) m) 0 i h

  pub part_below : (b l : ℕ) → b + l ≤ at → part b l (replaced m at new) ≡ part b l m
  part_below b l h =
      ap (take l) (drop-append-le b (take at m) (new ++ drop (at + length new) m) (omega (arith, front)))
      ∙ take-append-le l (drop b (take at m)) (new ++ drop (at + length new) m) (omega (arith, front, length-drop b (take at m)))
      ∙ sym (take-append-le l (drop b (take at m)) (drop at m) (omega (arith, front, length-drop b (take at m))))
      ∙ ap (take l) (sym (drop-append-le b (take at m) (drop at m) (omega (arith, front))))
      ∙ ap (λ (x : List ℕ). take l (drop b x)) whole
    where
      whole : take at m ++ drop at m ≡ m
      whole = take-append-drop at m

  pub only_at : OnlyAt at (length new) m (replaced m at new)
  only_at = record { long = replaced_long; byte_below = byte_below; byte_above = byte_above; part_below = part_below; part_above = part_above }

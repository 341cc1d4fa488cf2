-- The row that `fill_row` leaves, by the lengths; and the row flight by flight. Assumes nothing.
use Prim.Native.Nat.{ℕ, suc, ◌+◌, ◌≤◌, ◌<◌}
use mathlib.Core.Path.{◌≡◌, refl, sym, ap, ◌∙◌}
use mathlib.Core.Bool.{Bool, cond, true, false}
use mathlib.Core.List.{List, ◌++◌}
use native.Mathlib.Omega.{arith}
use native.Mathlib.Numerals.{add-one}
use borrow.Author.Tests.{eqb-true, leb-true}
use lib.Dec.{eqb, leb}
use lib.ListN.{length, get_or, set, take, drop}
use lib.Seq.{length-take-le, take-suc, drop-cons, append_snoc, set_at}
use Rattle.laws.specs.Refusals.{bad_length}
use Rattle.laws.specs.Answers.{gives, refuses}
use Rattle.log_search.specs.declared.StoredFlight.{StoredFlight}
use Rattle.log_sync.specs.Sync.{no_flight}
use Rattle.log_sync.specs.declared.Unsynced.{Unsynced}
use Rattle.rows.specs.Row.{fits, row_answer, filled, after_fill}

-- the row with the list's first n flights, and then its own
abbrev pub up_to : Unsynced → List StoredFlight → ℕ → List StoredFlight
up_to list row n = take n list.flights ++ drop n row

-- one flight more
pub lengthened : (list : Unsynced) (row : List StoredFlight) (n : ℕ) → n < length list.flights → n < length row
    → set (up_to list row n) n (get_or list.flights n no_flight) ≡ up_to list row (n + 1)
lengthened list row n h k =
    ap (λ (rest : List StoredFlight). set (take n list.flights ++ rest) n (get_or list.flights n no_flight)) (drop-cons row n no_flight k)
    ∙ set_at (take n list.flights) (get_or row n no_flight) (drop (suc n) row) (get_or list.flights n no_flight) n
    (length-take-le n list.flights (omega arith))
    ∙ sym (append_snoc (take n list.flights) (get_or list.flights n no_flight) (drop (suc n) row))
    ∙ ap (λ (front : List StoredFlight). front ++ drop (suc n) row) (sym (take-suc list.flights n no_flight h))
    ∙ ap (up_to list row) (sym (add-one n))

-- all that count
pub all_put : (list : Unsynced) (row : List StoredFlight) (n : ℕ) → n ≡ list.count → up_to list row n ≡ filled list row
unfolding filled
all_put list row n e = ap (up_to list row) e

-- ---- what the test of the lengths says

fitting : (l n : ℕ) → fits l n ≡ true → (l ≡ 8) × (n ≤ 8)
unfolding fits
fitting l n e = go (eqb l 8) (leb n 8) refl refl e
  where
    go : (long few : Bool) → eqb l 8 ≡ long → leb n 8 ≡ few → cond long few false ≡ true → (l ≡ 8) × (n ≤ 8)
    go true true h k z = (eqb-true l 8 h, leb-true n 8 k)
    go true false h k z = absurd (let w : ◌≡◌ {A = ℕ} 0 1 = cc in omega arith)
    go false few h k z = absurd (let w : ◌≡◌ {A = ℕ} 0 1 = cc in omega arith)

module _ (l n : ℕ) (b : Bool) (e : b ≡ fits l n) where
  pub refused : b ≡ false → refuses bad_length 0 ≡ row_answer l n
  refused h = rw (← e, h) refl

  module _ (h : b ≡ true) where
    pub taken : gives tt ≡ row_answer l n
    taken = rw (← e, h) refl

    pub count_most : n ≤ 8
    count_most = (fitting l n (sym e ∙ h)).1

    pub count_inside : n ≤ l
    count_inside = omega (arith, (fitting l n (sym e ∙ h)).0, count_most)

-- ---- the row that is left

module _ (list : Unsynced) (row : List StoredFlight) (b : Bool) (e : b ≡ fits (length row) list.count) where
  pub kept_row : b ≡ false → row ≡ after_fill list row
  unfolding after_fill
  kept_row h = rw (← e, h) refl

  module _ (h : b ≡ true) where
    pub front_row : list.count ≡ length (take list.count row)
    front_row = sym (length-take-le list.count row (count_inside (length row) list.count b e h))

    pub front_list : length list.flights ≡ 8 → length (take list.count row) ≡ length (take list.count list.flights)
    front_list long = sym front_row ∙ sym (length-take-le list.count list.flights (omega (arith, count_most (length row) list.count b e h)))

  pub taken_row : (front : List StoredFlight) → b ≡ true → front ≡ take list.count list.flights → front ++ drop list.count row ≡ after_fill list row
  unfolding after_fill
  taken_row front h w = rw (← e, h, w) (all_put list row list.count refl)

pub ruleset ways = (refused, taken, count_most, count_inside, kept_row, front_row, front_list, taken_row)

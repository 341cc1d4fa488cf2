-- The test tells whether segments are aligned, both ways. Assumes nothing.
use Prim.Native.Nat.{ℕ, ◌≤◌}
use mathlib.Core.Path.{◌≡◌, refl, sym, ap, ◌∙◌}
use mathlib.Core.Bool.{Bool, true, false, false≢true}
use mathlib.Core.Logic.{◌⊎◌, inl, inr, ◌↔◌}
use mathlib.Core.List.{List, [], ◌∷◌, ◌++◌}
use native.Mathlib.Omega.{arith}
use borrow.Author.Tests.{leb-true, le-leb}
use lib.ListN.{length}
use Rattle.power.specs.Boards.{Behind, Near, Front, Aligned, at_end, both, left_only, right_only, left_shut, right_shut}
use Rattle.power.specs.Boards.{left_last, right_last, both?, either?, none?, behind?, front?, near?, few?, all_few?, segment?, aligned?}
use Rattle.power.specs.Boards.{AlignedIsTested}

pub both_true : (a b : Bool) → both? a b ≡ true → (a ≡ true) × (b ≡ true)
both_true true b h = (refl, h)
both_true false b h = absurd (false≢true h)

pub true_both : (a b : Bool) → a ≡ true → b ≡ true → both? a b ≡ true
true_both true b h k = k
true_both false b h k = absurd (false≢true h)

either_true : (a b : Bool) → either? a b ≡ true → (a ≡ true) ⊎ (b ≡ true)
either_true true b h = inl refl
either_true false b h = inr h

true_left : (a b : Bool) → a ≡ true → either? a b ≡ true
true_left true b h = refl
true_left false b h = absurd (false≢true h)

true_right : (a b : Bool) → b ≡ true → either? a b ≡ true
true_right true b h = refl
true_right false b h = h

module _ {A : Type 0} (same : A → A → Bool) (tells : (x y : A) → (same x y ≡ true) ↔ (x ≡ y)) where
  behind_told : (n : ℕ) (xs ys : List A) → behind? same n xs ys ≡ true → Behind n xs ys
  behind_told n [] ys h = record { more = ys; few = leb-true (length ys) n h; all = refl }
  behind_told n (x ∷ xs) [] h = absurd (false≢true h)
  behind_told n (x ∷ xs) (y ∷ ys) h =
      let b = both_true (same x y) (behind? same n xs ys) h in
      let e = (tells x y).0 b.0 in
      let i = behind_told n xs ys b.1 in
      record { more = i.more; few = i.few; all = ap {B = List A} (λ z. z ∷ ys) (sym e) ∙ ap {B = List A} (λ l. x ∷ l) i.all }

  behind_tells : (n : ℕ) (xs ys : List A) → Behind n xs ys → behind? same n xs ys ≡ true
  behind_tells n [] ys h = le-leb (length ys) n (omega (arith, ap length h.all, h.few))
  behind_tells n (x ∷ xs) [] h = absurd (omega (arith, ap length h.all))
  behind_tells n (x ∷ xs) (y ∷ ys) h =
      let a : y ∷ ys ≡ x ∷ (xs ++ h.more) = h.all in
      let e : x ≡ y = cc in
      let f : ys ≡ xs ++ h.more = cc in
      true_both (same x y) (behind? same n xs ys) ((tells x y).1 e) (behind_tells n xs ys (record { more = h.more; few = h.few; all = f }))

  front_told : (xs ys : List A) → front? same xs ys ≡ true → Front xs ys
  front_told [] ys h = record { more = ys; all = refl }
  front_told (x ∷ xs) [] h = absurd (false≢true h)
  front_told (x ∷ xs) (y ∷ ys) h =
      let b = both_true (same x y) (front? same xs ys) h in
      let e = (tells x y).0 b.0 in
      let i = front_told xs ys b.1 in
      record { more = i.more; all = ap {B = List A} (λ z. z ∷ ys) (sym e) ∙ ap {B = List A} (λ l. x ∷ l) i.all }

  front_tells : (xs ys : List A) → Front xs ys → front? same xs ys ≡ true
  front_tells [] ys h = refl
  front_tells (x ∷ xs) [] h = absurd (omega (arith, ap length h.all))
  front_tells (x ∷ xs) (y ∷ ys) h =
      let a : y ∷ ys ≡ x ∷ (xs ++ h.more) = h.all in
      let e : x ≡ y = cc in
      let f : ys ≡ xs ++ h.more = cc in
      true_both (same x y) (front? same xs ys) ((tells x y).1 e) (front_tells xs ys (record { more = h.more; all = f }))

  module _ (n : ℕ) (shut_left shut_right : Bool) where
    abbrev Told : List (List A) → List (List A) → Type 0
    Told left right = Aligned n shut_left shut_right left right

    near_told : (a b : List A) → near? same n a b ≡ true → Near n a b
    near_told a b h = go (either_true (behind? same n a b) (behind? same n b a) h)
      where
        go : (behind? same n a b ≡ true) ⊎ (behind? same n b a ≡ true) → Near n a b
        go (inl k) = inl (behind_told n a b k)
        go (inr k) = inr (behind_told n b a k)

    near_tells : (a b : List A) → Near n a b → near? same n a b ≡ true
    near_tells a b (inl h) = true_left (behind? same n a b) (behind? same n b a) (behind_tells n a b h)
    near_tells a b (inr h) = true_right (behind? same n a b) (behind? same n b a) (behind_tells n b a h)

    all_few_told : (right : List (List A)) → all_few? same n shut_left shut_right right ≡ true → Told [] right
    all_few_told [] h = at_end
    all_few_told (b ∷ right) h =
        let k = both_true (few? same n shut_left shut_right b) (all_few? same n shut_left shut_right right) h in
        right_only (leb-true (length b) n k.0) (all_few_told right k.1)

    last_told : (left : List (List A)) → none? left ≡ true → left ≡ []
    last_told [] h = refl
    last_told (a ∷ left) h = absurd (false≢true h)

    segment_told : (left : List (List A)) (a : List A) → ((right : List (List A)) → aligned? same n shut_left shut_right left right ≡ true → Told left right)
        → (right : List (List A))
        → segment? same n shut_left shut_right (λ r. aligned? same n shut_left shut_right left r) (none? left) a right ≡ true → Told (a ∷ left) right
    segment_told left a ih [] h = go (either_true shut_right (both? (few? same n shut_left shut_right a) (aligned? same n shut_left shut_right left [])) h)
      where
        go : (shut_right ≡ true) ⊎ (both? (few? same n shut_left shut_right a) (aligned? same n shut_left shut_right left []) ≡ true) → Told (a ∷ left) []
        go (inl k) = right_shut k
        go (inr k) =
            let b = both_true (few? same n shut_left shut_right a) (aligned? same n shut_left shut_right left []) k in
            left_only (leb-true (length a) n b.0) (ih [] b.1)
    segment_told left a ih (b ∷ right) h = first_way (λ k. segment_told left a ih right k) (either_true one (either? two (either? three (either? four five))) h)
      where
        rest : List (List A) → Bool
        rest r = aligned? same n shut_left shut_right left r

        one : Bool
        one = both? (near? same n a b) (rest right)

        two : Bool
        two = both? (few? same n shut_left shut_right a) (rest (b ∷ right))

        three : Bool
        three = both? (few? same n shut_left shut_right b) (segment? same n shut_left shut_right rest (none? left) a right)

        four : Bool
        four = both? shut_right (both? (none? right) (front? same b a))

        five : Bool
        five = both? shut_left (both? (none? left) (front? same a b))

        Again : Type 0
        Again = segment? same n shut_left shut_right rest (none? left) a right ≡ true → Told (a ∷ left) right

        last_ways : (four ≡ true) ⊎ (five ≡ true) → Told (a ∷ left) (b ∷ right)
        last_ways (inl k) =
            let x = both_true shut_right (both? (none? right) (front? same b a)) k in
            let y = both_true (none? right) (front? same b a) x.1 in
            rw (last_told right y.0) (right_last x.0 (front_told b a y.1))
        last_ways (inr k) =
            let x = both_true shut_left (both? (none? left) (front? same a b)) k in
            let y = both_true (none? left) (front? same a b) x.1 in
            rw (last_told left y.0) (left_last x.0 (front_told a b y.1))

        third_way : Again → (three ≡ true) ⊎ (either? four five ≡ true) → Told (a ∷ left) (b ∷ right)
        third_way again (inl k) =
            let x = both_true (few? same n shut_left shut_right b) (segment? same n shut_left shut_right rest (none? left) a right) k in
            right_only (leb-true (length b) n x.0) (again x.1)
        third_way again (inr k) = last_ways (either_true four five k)

        second_way : Again → (two ≡ true) ⊎ (either? three (either? four five) ≡ true) → Told (a ∷ left) (b ∷ right)
        second_way again (inl k) =
            let x = both_true (few? same n shut_left shut_right a) (rest (b ∷ right)) k in
            left_only (leb-true (length a) n x.0) (ih (b ∷ right) x.1)
        second_way again (inr k) = third_way again (either_true three (either? four five) k)

        first_way : Again → (one ≡ true) ⊎ (either? two (either? three (either? four five)) ≡ true) → Told (a ∷ left) (b ∷ right)
        first_way again (inl k) =
            let x = both_true (near? same n a b) (rest right) k in
            both (near_told a b x.0) (ih right x.1)
        first_way again (inr k) = second_way again (either_true two (either? three (either? four five)) k)

    pub aligned_told : (left right : List (List A)) → aligned? same n shut_left shut_right left right ≡ true → Told left right
    aligned_told [] right h = go (either_true shut_left (all_few? same n shut_left shut_right right) h)
      where
        go : (shut_left ≡ true) ⊎ (all_few? same n shut_left shut_right right ≡ true) → Told [] right
        go (inl k) = left_shut k
        go (inr k) = all_few_told right k
    aligned_told (a ∷ left) right h = segment_told left a (λ r k. aligned_told left r k) right h

    tells_left_only : (a : List A) (left right : List (List A)) → length a ≤ n → aligned? same n shut_left shut_right left right ≡ true
        → aligned? same n shut_left shut_right (a ∷ left) right ≡ true
    tells_left_only a left [] h k =
        true_right shut_right (both? (few? same n shut_left shut_right a) (aligned? same n shut_left shut_right left []))
        (true_both (few? same n shut_left shut_right a) (aligned? same n shut_left shut_right left []) (le-leb (length a) n h) k)
    tells_left_only a left (b ∷ right) h k =
        true_right (both? (near? same n a b) (aligned? same n shut_left shut_right left right)) _
        (true_left (both? (few? same n shut_left shut_right a) (aligned? same n shut_left shut_right left (b ∷ right))) _
        (true_both (few? same n shut_left shut_right a) (aligned? same n shut_left shut_right left (b ∷ right)) (le-leb (length a) n h) k))

    tells_right_only : (b : List A) (left right : List (List A)) → length b ≤ n → aligned? same n shut_left shut_right left right ≡ true
        → aligned? same n shut_left shut_right left (b ∷ right) ≡ true
    tells_right_only b [] right h k = go (either_true shut_left (all_few? same n shut_left shut_right right) k)
      where
        go : (shut_left ≡ true) ⊎ (all_few? same n shut_left shut_right right ≡ true) → aligned? same n shut_left shut_right [] (b ∷ right) ≡ true
        go (inl e) = true_left shut_left (all_few? same n shut_left shut_right (b ∷ right)) e
        go (inr e) =
            true_right shut_left (all_few? same n shut_left shut_right (b ∷ right))
            (true_both (few? same n shut_left shut_right b) (all_few? same n shut_left shut_right right) (le-leb (length b) n h) e)
    tells_right_only b (a ∷ left) right h k =
        true_right (both? (near? same n a b) (aligned? same n shut_left shut_right left right)) _
        (true_right (both? (few? same n shut_left shut_right a) (aligned? same n shut_left shut_right left (b ∷ right))) _
        (true_left (both? (few? same n shut_left shut_right b) (aligned? same n shut_left shut_right (a ∷ left) right)) _
        (true_both (few? same n shut_left shut_right b) (aligned? same n shut_left shut_right (a ∷ left) right) (le-leb (length b) n h) k)))

    tells_right_shut : (left : List (List A)) → shut_right ≡ true → aligned? same n shut_left shut_right left [] ≡ true
    tells_right_shut [] e = true_right shut_left true refl
    tells_right_shut (a ∷ left) e = true_left shut_right (both? (few? same n shut_left shut_right a) (aligned? same n shut_left shut_right left [])) e

    pub aligned_tells : {left right : List (List A)} → Told left right → aligned? same n shut_left shut_right left right ≡ true
    aligned_tells at_end = true_right shut_left true refl
    aligned_tells (both {a} {b} {left} {right} h al) =
        true_left (both? (near? same n a b) (aligned? same n shut_left shut_right left right)) _
        (true_both (near? same n a b) (aligned? same n shut_left shut_right left right) (near_tells a b h) (aligned_tells al))
    aligned_tells (left_only {a} {left} {right} h al) = tells_left_only a left right h (aligned_tells al)
    aligned_tells (right_only {b} {left} {right} h al) = tells_right_only b left right h (aligned_tells al)
    aligned_tells (left_shut {right} e) = true_left shut_left (all_few? same n shut_left shut_right right) e
    aligned_tells (right_shut {left} e) = tells_right_shut left e
    aligned_tells (left_last {a} {b} {right} e f) =
        true_right (both? (near? same n a b) (aligned? same n shut_left shut_right [] right)) _
        (true_right (both? (few? same n shut_left shut_right a) (aligned? same n shut_left shut_right [] (b ∷ right))) _
        (true_right (both? (few? same n shut_left shut_right b) (aligned? same n shut_left shut_right (a ∷ []) right)) _
        (true_right (both? shut_right (both? (none? right) (front? same b a))) _
        (true_both shut_left (front? same a b) e (front_tells a b f)))))
    aligned_tells (right_last {a} {b} {left} e f) =
        true_right (both? (near? same n a b) (aligned? same n shut_left shut_right left [])) _
        (true_right (both? (few? same n shut_left shut_right a) (aligned? same n shut_left shut_right left (b ∷ []))) _
        (true_right (both? (few? same n shut_left shut_right b) (aligned? same n shut_left shut_right (a ∷ left) [])) _
        (true_left (both? shut_right (front? same b a)) _ (true_both shut_right (front? same b a) e (front_tells b a f)))))

pub aligned_is_tested : AlignedIsTested
aligned_is_tested A same tells n shut_left shut_right left right =
    (aligned_told same tells n shut_left shut_right left right, λ h. aligned_tells same tells n shut_left shut_right h)

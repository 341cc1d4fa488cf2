-- Fronts of lists, and what the alignment of segments keeps and means. Assumes nothing.
use Prim.Native.Nat.{ℕ, ◌+◌, ◌≤◌, ◌<◌}
use mathlib.Core.Path.{◌≡◌, refl, sym, ap, ◌∙◌}
use mathlib.Core.Bool.{Bool, true}
use mathlib.Core.Logic.{◌⊎◌, inl, inr}
use mathlib.Core.List.{List, [], ◌∷◌, ◌++◌, append_assoc}
use native.Mathlib.Omega.{arith}
use lib.ListN.{length, length-append}
use Rattle.power.specs.Pages.{Each}
use Rattle.power.specs.Segments.{filled}
use Rattle.power.specs.Boards.{Behind, Near, Front, Aligned, at_end, both, left_only, right_only, left_shut, right_shut}
use Rattle.power.specs.Boards.{left_last, right_last}
use Rattle.power.specs.Boards.{NearAll, Lacks}

-- ---- fronts

-- two fronts of one list: one is the front of the other, and what it has more the other lacks
pub data Fronts {A : Type 0} (a x b y : List A) : Type 0 where
  first : (c : List A) → b ≡ a ++ c → x ≡ c ++ y → Fronts a x b y
  second : (c : List A) → a ≡ b ++ c → y ≡ c ++ x → Fronts a x b y

pub two_fronts : {A : Type 0} (a x b y : List A) → a ++ x ≡ b ++ y → Fronts a x b y
two_fronts [] x b y e = first b refl e
two_fronts (p ∷ a) x [] y e = second (p ∷ a) refl (sym e)
two_fronts {A} (p ∷ a) x (q ∷ b) y e = go (two_fronts a x b y cc)
  where
    same : p ≡ q
    same = cc

    go : Fronts a x b y → Fronts (p ∷ a) x (q ∷ b) y
    go (first c f g) = first c (ap {B = List A} (λ z. z ∷ b) (sym same) ∙ ap {B = List A} (λ l. p ∷ l) f) g
    go (second c f g) = second c (ap {B = List A} (λ z. z ∷ a) same ∙ ap {B = List A} (λ l. q ∷ l) f) g

length_more : {A : Type 0} (x c y : List A) → x ≡ c ++ y → length c ≤ length x
length_more x c y e = omega (arith, ap length e, length-append c y)

-- what is missing at the end of two lists that are near is missing at most
pub near_fronts : {A : Type 0} (n m : ℕ) (l k t l' k' t' : List A) → l ≡ k ++ t → l' ≡ k' ++ t' → length t ≤ m → length t' ≤ m → Near n l l' → Near (n + m) k k'
near_fronts {A} n m l k t l' k' t' e e' h h' (inl b) = go (two_fronts k (t ++ b.more) k' t' said)
  where
    said : k ++ (t ++ b.more) ≡ k' ++ t'
    said = sym (append_assoc k t b.more) ∙ ap (λ (x : List A). x ++ b.more) (sym e) ∙ sym b.all ∙ e'

    go : Fronts k (t ++ b.more) k' t' → Near (n + m) k k'
    go (first c f g) =
        inl (record { more = c; few = omega (arith, length_more (t ++ b.more) c t' g, length-append t b.more, b.few); all = f })
    go (second c f g) = inr (record { more = c; few = omega (arith, length_more t' c (t ++ b.more) g); all = f })
near_fronts {A} n m l k t l' k' t' e e' h h' (inr b) = go (two_fronts k t k' (t' ++ b.more) said)
  where
    said : k ++ t ≡ k' ++ (t' ++ b.more)
    said = sym e ∙ b.all ∙ ap (λ (x : List A). x ++ b.more) e' ∙ append_assoc k' t' b.more

    go : Fronts k t k' (t' ++ b.more) → Near (n + m) k k'
    go (first c f g) = inl (record { more = c; few = omega (arith, length_more t c (t' ++ b.more) g); all = f })
    go (second c f g) =
        inr (record { more = c; few = omega (arith, length_more (t' ++ b.more) c t g, length-append t' b.more, b.few); all = f })

near_long : {A : Type 0} (n : ℕ) (a b : List A) → Near n a b → length b ≤ length a + n
near_long n a b (inl h) = omega (arith, ap length h.all, length-append a h.more, h.few)
near_long n a b (inr h) = omega (arith, ap length h.all, length-append b h.more)

near_swap : {A : Type 0} (n : ℕ) (a b : List A) → Near n a b → Near n b a
near_swap n a b (inl h) = inr h
near_swap n a b (inr h) = inl h

-- ---- alignments

-- an empty list lacks nothing
empty_front : {A : Type 0} (k t : List A) → [] ≡ k ++ t → k ≡ []
empty_front [] t e = refl
empty_front (x ∷ k) t e = absurd (omega (arith, ap length e))

module _ {A : Type 0} (m : ℕ) where
  -- the power-ons in which something was logged
  record Filled (hist parts : List (List A)) : Type 0 where
    kept : List (List A)
    lacks : Lacks m (filled hist) kept
    same : filled kept ≡ filled parts

  filled_more : (k : List A) (x y : List (List A)) → filled x ≡ filled y → filled (k ∷ x) ≡ filled (k ∷ y)
  filled_more [] x y e = e
  filled_more (z ∷ k) x y e = ap {B = List (List A)} (λ l. (z ∷ k) ∷ l) e

  lacks_filled : (hist parts : List (List A)) → Lacks m hist parts → Filled hist parts
  lacks_filled [] [] h = record { kept = []; lacks = tt; same = refl }
  lacks_filled [] (k ∷ parts) h = absurd h
  lacks_filled (l ∷ hist) [] h = absurd h
  lacks_filled ([] ∷ hist) (k ∷ parts) h =
      let i = lacks_filled hist parts h.1 in
      record {
        kept = i.kept;
        lacks = i.lacks;
        same = i.same ∙ ap (λ (x : List A). filled (x ∷ parts)) (sym (empty_front k h.0.more h.0.all));
      }
  lacks_filled ((x ∷ l) ∷ hist) (k ∷ parts) h =
      let i = lacks_filled hist parts h.1 in
      record { kept = k ∷ i.kept; lacks = (h.0, i.lacks); same = filled_more k i.kept parts i.same }

  module _ (n : ℕ) (shut_left shut_right : Bool) where
    abbrev pub Al : List (List A) → List (List A) → Type 0
    Al left right = Aligned n shut_left shut_right left right

    put_left : (a : List A) (left right : List (List A)) → length a ≤ n → Al (filled left) right → Al (filled (a ∷ left)) right
    put_left [] left right h k = k
    put_left (x ∷ a) left right h k = left_only h k

    put_right : (b : List A) (left right : List (List A)) → length b ≤ n → Al left (filled right) → Al left (filled (b ∷ right))
    put_right [] left right h k = k
    put_right (x ∷ b) left right h k = right_only h k

    pub put_both : (a b : List A) (left right : List (List A)) → Near n a b → Al (filled left) (filled right) → Al (filled (a ∷ left)) (filled (b ∷ right))
    put_both [] b left right h k = put_right b (filled left) right (omega (arith, near_long n [] b h)) k
    put_both (x ∷ a) [] left right h k = left_only {a = x ∷ a} (omega (arith, near_long n [] (x ∷ a) (near_swap n (x ∷ a) [] h))) k
    put_both (x ∷ a) (y ∷ b) left right h k = both h k

    put_right_last : (a b : List A) (left : List (List A)) → shut_right ≡ true → Front b a → Al (filled (a ∷ left)) (filled (b ∷ []))
    put_right_last a [] left e f = right_shut e
    put_right_last [] (y ∷ b) left e f = absurd (omega (arith, ap length f.all))
    put_right_last (x ∷ a) (y ∷ b) left e f = right_last e f

    put_left_last : (a b : List A) (right : List (List A)) → shut_left ≡ true → Front a b → Al (filled (a ∷ [])) (filled (b ∷ right))
    put_left_last [] b right e f = left_shut e
    put_left_last (x ∷ a) [] right e f = absurd (omega (arith, ap length f.all))
    put_left_last (x ∷ a) (y ∷ b) right e f = left_last e f

  -- a list that goes on where the other's log is shut: of what both kept one is the front of the other
  last_fronts : (n : ℕ) (a k b j : List A) → Behind m k a → Behind m j b → Front b a → Front j k ⊎ Near (n + m) k j
  last_fronts n a k b j h i f = go (two_fronts k h.more j (i.more ++ f.more) said)
    where
      said : k ++ h.more ≡ j ++ (i.more ++ f.more)
      said = sym h.all ∙ f.all ∙ ap (λ (x : List A). x ++ f.more) i.all ∙ append_assoc j i.more f.more

      go : Fronts k h.more j (i.more ++ f.more) → Front j k ⊎ Near (n + m) k j
      go (first c p q) =
          inr (inl (record { more = c; few = omega (arith, length_more h.more c (i.more ++ f.more) q, h.few); all = p }))
      go (second c p q) = inl (record { more = c; all = p })

  module _ (n : ℕ) (shut_left shut_right : Bool) where
    abbrev To : List (List A) → List (List A) → Type 0
    To left right = Aligned (n + m) shut_left shut_right (filled left) (filled right)

    right_lasts : (k j : List A) (left : List (List A)) → shut_right ≡ true → Front j k ⊎ Near (n + m) k j → To (k ∷ left) (j ∷ [])
    right_lasts k j left e (inl f) = put_right_last (n + m) shut_left shut_right k j left e f
    right_lasts k j left e (inr h) = put_both (n + m) shut_left shut_right k j left [] h (right_shut e)

    left_lasts : (k j : List A) (right : List (List A)) → shut_left ≡ true → Front k j ⊎ Near (n + m) j k → To (k ∷ []) (j ∷ right)
    left_lasts k j right e (inl f) = put_left_last (n + m) shut_left shut_right k j right e f
    left_lasts k j right e (inr h) = put_both (n + m) shut_left shut_right k j [] right (near_swap (n + m) j k h) (left_shut e)

    -- what is aligned within n is aligned within m more when each has lost at most m at its end
    kept_aligned : {left right : List (List A)} → Aligned n shut_left shut_right left right → (p q : List (List A)) → Lacks m left p → Lacks m right q → To p q
    kept_aligned at_end [] [] h i = at_end
    kept_aligned at_end [] (j ∷ q) h i = absurd i
    kept_aligned at_end (k ∷ p) q h i = absurd h
    kept_aligned (both {a} {b} near al) [] q h i = absurd h
    kept_aligned (both {a} {b} near al) (k ∷ p) [] h i = absurd i
    kept_aligned (both {a} {b} near al) (k ∷ p) (j ∷ q) h i =
        put_both (n + m) shut_left shut_right k j p q
        (near_fronts n m a k h.0.more b j i.0.more h.0.all i.0.all h.0.few i.0.few near)
        (kept_aligned al p q h.1 i.1)
    kept_aligned (left_only {a} few al) [] q h i = absurd h
    kept_aligned (left_only {a} few al) (k ∷ p) q h i =
        put_left (n + m) shut_left shut_right k p (filled q) (omega (arith, length_more a k h.0.more h.0.all))
        (kept_aligned al p q h.1 i)
    kept_aligned (right_only {b} few al) p [] h i = absurd i
    kept_aligned (right_only {b} few al) p (j ∷ q) h i =
        put_right (n + m) shut_left shut_right j (filled p) q (omega (arith, length_more b j i.0.more i.0.all))
        (kept_aligned al p q h i.1)
    kept_aligned (left_shut e) [] q h i = left_shut e
    kept_aligned (left_shut e) (k ∷ p) q h i = absurd h
    kept_aligned (right_shut e) p [] h i = right_shut e
    kept_aligned (right_shut e) p (j ∷ q) h i = absurd i
    kept_aligned (left_last {a} {b} e f) [] q h i = absurd h
    kept_aligned (left_last {a} {b} e f) (k ∷ []) [] h i = absurd i
    kept_aligned (left_last {a} {b} e f) (k ∷ []) (j ∷ q) h i = left_lasts k j q e (last_fronts n b j a k i.0 h.0 f)
    kept_aligned (left_last {a} {b} e f) (k ∷ (l ∷ p)) q h i = absurd h.1
    kept_aligned (right_last {a} {b} e f) [] q h i = absurd h
    kept_aligned (right_last {a} {b} e f) (k ∷ p) [] h i = absurd i
    kept_aligned (right_last {a} {b} e f) (k ∷ p) (j ∷ []) h i = right_lasts k j p e (last_fronts n a k b j h.0 i.0 f)
    kept_aligned (right_last {a} {b} e f) (k ∷ p) (j ∷ (l ∷ q)) h i = absurd i.1

    pub logs_aligned : (hist parts hist' parts' : List (List A)) → Lacks m hist parts → Lacks m hist' parts'
        → Aligned n shut_left shut_right (filled hist) (filled hist') → To parts parts'
    logs_aligned hist parts hist' parts' h h' al =
        let i = lacks_filled hist parts h in
        let i' = lacks_filled hist' parts' h' in
        rw (← i.same, ← i'.same) (kept_aligned al i.kept i'.kept i.lacks i'.lacks)

-- where each list is longer than what it may lack, none of what is left is empty
module _ {A : Type 0} (m : ℕ) where
  all_filled : (hist parts : List (List A)) → Lacks m hist parts → Each (λ l. m < length l) hist → filled parts ≡ parts
  all_filled [] [] h long = refl
  all_filled [] (k ∷ parts) h long = absurd h
  all_filled (l ∷ hist) [] h long = absurd h
  all_filled (l ∷ hist) ([] ∷ parts) h long = absurd (omega (arith, h.0.few, ap length h.0.all, long.0))
  all_filled (l ∷ hist) ((x ∷ k) ∷ parts) h long = ap {B = List (List A)} (λ r. (x ∷ k) ∷ r) (all_filled hist parts h.1 long.1)

  near_kept : (n : ℕ) (left right p q : List (List A)) → NearAll n left right → Lacks m left p → Lacks m right q → NearAll (n + m) p q
  near_kept n [] [] [] [] near h i = tt
  near_kept n [] [] [] (j ∷ q) near h i = absurd i
  near_kept n [] [] (k ∷ p) q near h i = absurd h
  near_kept n [] (b ∷ right) p q near h i = absurd near
  near_kept n (a ∷ left) [] p q near h i = absurd near
  near_kept n (a ∷ left) (b ∷ right) [] q near h i = absurd h
  near_kept n (a ∷ left) (b ∷ right) (k ∷ p) [] near h i = absurd i
  near_kept n (a ∷ left) (b ∷ right) (k ∷ p) (j ∷ q) near h i = (
    near_fronts n m a k h.0.more b j i.0.more h.0.all i.0.all h.0.few i.0.few near.0,
    near_kept n left right p q near.1 h.1 i.1,
  )

  pub logs_paired : (n : ℕ) (hist parts hist' parts' : List (List A)) → Lacks m hist parts → Lacks m hist' parts' → NearAll n (filled hist) (filled hist')
      → Each (λ l. m < length l) (filled hist) → Each (λ l. m < length l) (filled hist') → NearAll (n + m) (filled parts) (filled parts')
  logs_paired n hist parts hist' parts' h h' near long long' =
      let i = lacks_filled m hist parts h in
      let i' = lacks_filled m hist' parts' h' in
      rw (
        ← i.same,
        ← i'.same,
        all_filled (filled hist) i.kept i.lacks long,
        all_filled (filled hist') i'.kept i'.lacks long',
      )
      (near_kept n (filled hist) (filled hist') i.kept i'.kept near i.lacks i'.lacks)

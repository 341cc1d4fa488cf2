-- On a log that follows the loose grammar and isn't foreign, the search finds for a flight exactly the pages that count with it: every used
-- page has a flight, these don't fall, and after a torn page they rise. By induction on the used pages. Assumes nothing.
use Prim.Native.Nat.{ℕ, zero, suc, ◌+◌, ◌-◌, ◌≤◌, ◌<◌}
use mathlib.Core.Path.{◌≡◌, refl, sym, ap, ◌∙◌}
use mathlib.Core.Bool.{Bool, true, false, cond}
use Rattle.std.specs.Prelude.{Option, None, Some}
use mathlib.Core.Logic.{inl, inr}
use mathlib.Core.List.{List, [], ◌∷◌, ◌++◌}
use native.Mathlib.Omega.{arith}
use native.Mathlib.Decide.{dec_lt}
use lib.Dec.{ltb, leb, eqb}
use borrow.Author.Tests.{ltb-true, ltb-false, leb-true, leb-false, le-leb, eqb-true, eqb-false}
use lib.ListN.{length}
use Rattle.std.proofs.lemmas.Option.{same_Some}
use Rattle.laws.specs.Halving.{Threshold}
use Rattle.laws.proofs.Halving.{bisecting_threshold}
use Rattle.power.specs.Pages.{Decoded, PageStore}
use Rattle.power.specs.Lawful.{Lawful}
use Rattle.power.specs.Reading.{Blanks, page_at, first_blank}
use Rattle.power.specs.Grammar.{Ending, unused, ended, frayed, foreign, torn_more, newest, Sound, NotFalling, LooseRule, Follows, nothing_used}
use Rattle.power.specs.Grammar.{whole_page, torn_page, Loose}
use Rattle.power.specs.Claims.{ForeignLog, WholeOf, CountsWith, InSpan, SpanOf, SearchFinds}
use Rattle.power.specs.Scan.{flight_of, page_flight, flight_number, first_from, span, find, FlightsKnown}
use Rattle.power.proofs.Used.{none_some, length_snoc, at_left, at_snoc, flight_left, flight_own, used_not_blank, last, last_shown}
use Rattle.power.proofs.Scan.{first_blank_lem, foreign_is, Alien}

module _ {Page Record Mask : Type 0} (S : PageStore Page Record Mask) (L : Lawful S) where
  -- an ending that isn't foreign
  abbrev Clear : Ending Record → Type 0
  Clear st = ¬ Alien S L st

  sound_clear : (st : Ending Record) → Sound st → Clear st
  sound_clear unused a z = z
  sound_clear (ended g) a z = z
  sound_clear (frayed g) a z = z
  sound_clear foreign a z = a

  rule_sound : (st : Ending Record) (c : Decoded Record) → NotFalling st c → Sound st
  rule_sound unused c a = tt
  rule_sound (ended g) c a = tt
  rule_sound (frayed g) c a = tt
  rule_sound foreign c a = a

  rises : (st : Ending Record) (c : Decoded Record) → NotFalling st c → newest st ≤ c.flight
  rises unused c a = omega arith
  rises (ended g) c a = a
  rises (frayed g) c a = omega arith
  rises foreign c a = absurd a

  rises_torn : (st : Ending Record) → Clear (torn_more st) → newest st ≤ newest (torn_more st)
  rises_torn unused w = absurd (w tt)
  rises_torn (ended g) w = omega arith
  rises_torn (frayed g) w = absurd (w tt)
  rises_torn foreign w = absurd (w tt)

  top : {l : List Page} (st : Ending Record) → Follows S (LooseRule S) l st → Clear st → (k : ℕ) → length l ≡ suc k → page_flight S l k ≡ Some (newest st)
  top unused u w k h = absurd (last S L u k h)
  top (ended c) u w k h = last_shown S L u k h
  top (frayed c) u w k h = last_shown S L u k h
  top foreign u w k h = absurd (w tt)

  -- page i has a flight, and none above `most`
  abbrev Flown : List Page → ℕ → ℕ → Type 0
  Flown l most i = (f : ℕ) × (page_flight S l i ≡ Some f) × (f ≤ most)

  flown_snoc : (l : List Page) (p : Page) (most most' : ℕ) → most ≤ most' → page_flight S (l ++ p ∷ []) (length l) ≡ Some most'
      → ((i : ℕ) → i < length l → Flown l most i)
      → (i : ℕ) → i < length (l ++ p ∷ []) → Flown (l ++ p ∷ []) most' i
  flown_snoc l p most most' le e c i h = go (dec_lt i (length l))
    where
      go : Dec (i < length l) → Flown (l ++ p ∷ []) most' i
      go (yes q) = let x = c i q in (x.0, flight_left S L l (p ∷ []) i q ∙ x.1, omega (arith, x.2))
      go (no q) = let z : length l ≡ i = omega (arith, length_snoc l p) in (most', rw z at e, omega arith)

  flown : {l : List Page} {st : Ending Record} → Follows S (LooseRule S) l st → Clear st → (i : ℕ) → i < length l → Flown l (newest st) i
  flown nothing_used w i h = absurd (omega arith)
  flown (whole_page {pages} {ending} {page} {content} u a d) w i h =
      flown_snoc pages page (newest ending) content.flight (rises ending content a)
      (top (ended content) (whole_page u a d) w (length pages) (length_snoc pages page))
      (λ j q. flown u (sound_clear ending (rule_sound ending content a)) j q) i h
  flown (torn_page {pages} {ending} {page} u a t) w i h =
      flown_snoc pages page (newest ending) (newest (torn_more ending)) (rises_torn ending w)
      (top (torn_more ending) (torn_page u a t) w (length pages) (length_snoc pages page))
      (λ j q. flown u (sound_clear ending a) j q) i h

  number_is : (l : List Page) (i f : ℕ) → page_flight S l i ≡ Some f → flight_number S l i ≡ f
  number_is l i f e = rw e refl

  -- flights don't fall
  order_snoc : (l : List Page) (p : Page) (most most' : ℕ) → most ≤ most' → page_flight S (l ++ p ∷ []) (length l) ≡ Some most'
      → ((i : ℕ) → i < length l → Flown l most i)
      → ((i j : ℕ) → i ≤ j → j < length l → flight_number S l i ≤ flight_number S l j) → (i j : ℕ) → i ≤ j → j < length (l ++ p ∷ [])
      → flight_number S (l ++ p ∷ []) i ≤ flight_number S (l ++ p ∷ []) j
  order_snoc l p most most' le e c o i j ij h = go (dec_lt j (length l))
    where
      go : Dec (j < length l) → flight_number S (l ++ p ∷ []) i ≤ flight_number S (l ++ p ∷ []) j
      go (yes q) = rw (flight_left S L l (p ∷ []) j q, flight_left S L l (p ∷ []) i (omega arith)) (o i j ij q)
      go (no q) =
          let z : length l ≡ j = omega (arith, length_snoc l p) in
          let x = flown_snoc l p most most' le e c i (omega arith) in
          omega (arith, number_is (l ++ p ∷ []) i x.0 x.1, number_is (l ++ p ∷ []) j most' (rw z at e), x.2)

  orders : {l : List Page} {st : Ending Record} → Follows S (LooseRule S) l st → Clear st → (i j : ℕ) → i ≤ j → j < length l
      → flight_number S l i ≤ flight_number S l j
  orders nothing_used w i j ij h = absurd (omega arith)
  orders (whole_page {pages} {ending} {page} {content} u a d) w i j ij h =
      order_snoc pages page (newest ending) content.flight (rises ending content a)
      (top (ended content) (whole_page u a d) w (length pages) (length_snoc pages page))
      (λ i q. flown u (sound_clear ending (rule_sound ending content a)) i q)
      (λ i j r q. orders u (sound_clear ending (rule_sound ending content a)) i j r q) i j ij h
  orders (torn_page {pages} {ending} {page} u a t) w i j ij h =
      order_snoc pages page (newest ending) (newest (torn_more ending)) (rises_torn ending w)
      (top (torn_more ending) (torn_page u a t) w (length pages) (length_snoc pages page))
      (λ i q. flown u (sound_clear ending a) i q) (λ i j r q. orders u (sound_clear ending a) i j r q) i j ij h

  -- after a torn page the flight is a new one
  abbrev Rises : List Page → ℕ → Type 0
  Rises l i = S.decode (page_at S l i) ≡ None → flight_number S l i < flight_number S l (suc i)

  rise_snoc : (l : List Page) (p : Page) → ((k : ℕ) → length l ≡ suc k → Rises (l ++ p ∷ []) k) → ((i : ℕ) → suc i < length l → Rises l i) → (i : ℕ)
      → suc i < length (l ++ p ∷ []) → Rises (l ++ p ∷ []) i
  rise_snoc l p e c i h d = go (dec_lt (suc i) (length l))
    where
      go : Dec (suc i < length l) → flight_number S (l ++ p ∷ []) i < flight_number S (l ++ p ∷ []) (suc i)
      go (yes q) = rw (flight_left S L l (p ∷ []) (suc i) q, flight_left S L l (p ∷ []) i (omega arith)) (c i q (rw (at_left S L l (p ∷ []) i (omega arith)) at d))
      go (no q) = e i (omega (arith, length_snoc l p)) d

  rise_whole : (l : List Page) (p : Page) (st : Ending Record) (c : Decoded Record) → Follows S (LooseRule S) l st → NotFalling st c
      → S.decode p ≡ Some c → (k : ℕ) → length l ≡ suc k → Rises (l ++ p ∷ []) k
  rise_whole l p unused c u a d k e t = absurd (last S L u k e)
  rise_whole l p (ended g) c u a d k e t = absurd (none_some (rw (at_left S L l (p ∷ []) k (omega arith)) at t) (last S L u k e))
  rise_whole l p (frayed g) c u a d k e t =
      rw (flight_left S L l (p ∷ []) k (omega arith), last_shown S L u k e, flight_own S L (l ++ p ∷ []) (suc k) c (rw (at_snoc S L l p (suc k) (sym e)) d))
      (omega arith)
  rise_whole l p foreign c u a d k e t = absurd a

  rise_torn : (l : List Page) (p : Page) (st : Ending Record) → Follows S (LooseRule S) l st → Clear (torn_more st) → (k : ℕ) → length l ≡ suc k
      → Rises (l ++ p ∷ []) k
  rise_torn l p unused u w k e t = absurd (w tt)
  rise_torn l p (ended g) u w k e t = absurd (none_some (rw (at_left S L l (p ∷ []) k (omega arith)) at t) (last S L u k e))
  rise_torn l p (frayed g) u w k e t = absurd (w tt)
  rise_torn l p foreign u w k e t = absurd (w tt)

  rise_all : {l : List Page} {st : Ending Record} → Follows S (LooseRule S) l st → Clear st → (i : ℕ) → suc i < length l → Rises l i
  rise_all nothing_used w i h = absurd (omega arith)
  rise_all (whole_page {pages} {ending} {page} {content} u a d) w i h =
      rise_snoc pages page (λ k e. rise_whole pages page ending content u a d k e)
      (λ j q. rise_all u (sound_clear ending (rule_sound ending content a)) j q) i h
  rise_all (torn_page {pages} {ending} {page} u a t) w i h =
      rise_snoc pages page (λ k e. rise_torn pages page ending u w k e) (λ j q. rise_all u (sound_clear ending a) j q) i h

  -- a page's flight, and what counts with it
  own_whole : (d : Option (Decoded Record)) (f : ℕ) → flight_of S d ≡ Some f → (c : Decoded Record) × (d ≡ Some c) × (c.flight ≡ f)
  own_whole None f e = absurd (none_some refl e)
  own_whole (Some c) f e = (c, refl, same_Some _ _ e)

  to_counts : (l : List Page) (f i : ℕ) → ¬ (page_at S l i ≡ S.blank) → page_flight S l i ≡ Some f → CountsWith S f l i
  to_counts l f zero b e = inl (own_whole (S.decode (page_at S l 0)) f e)
  to_counts l f (suc i) b e = go (S.decode (page_at S l (suc i))) refl
    where
      go : (d : Option (Decoded Record)) → S.decode (page_at S l (suc i)) ≡ d → CountsWith S f l (suc i)
      go None q = inr ((q, b), i, refl, own_whole (S.decode (page_at S l i)) f (rw q at e))
      go (Some c) q = inl (c, q, same_Some _ _ (rw q at e))

  from_counts : (l : List Page) (f i : ℕ) → CountsWith S f l i → page_flight S l i ≡ Some f
  from_counts l f i (inl w) = flight_own S L l i w.0 w.1 ∙ ap {B = Option ℕ} Some w.2
  from_counts l f i (inr t) = let e = t.2 in rw e (behind (rw e at t.0.0))
    where
      behind : S.decode (page_at S l (suc t.1)) ≡ None → page_flight S l (suc t.1) ≡ Some f
      behind d = rw (d, t.3.1) (ap {B = Option ℕ} Some t.3.2)

  -- the search over the first k pages, each of which has a flight; these don't fall, and rise after a torn page
  module _ (l : List Page) (k f : ℕ) (used : first_blank S l ≡ k) (ink : (i : ℕ) → i < k → ¬ (page_at S l i ≡ S.blank))
      (all : (i : ℕ) → i < k → page_flight S l i ≡ Some (flight_number S l i))
      (mono : (i j : ℕ) → i ≤ j → j < k → flight_number S l i ≤ flight_number S l j) (rise : (i : ℕ) → suc i < k → Rises l i) where
    -- with the first page from which flights are at least f, and the first from which they are above
    module _ (A B : ℕ) (k_a : A ≤ k) (lo_a : (i : ℕ) → i < A → flight_number S l i < f) (hi_a : (i : ℕ) → A ≤ i → i < k → f ≤ flight_number S l i)
        (k_b : B ≤ k) (lo_b : (i : ℕ) → i < B → flight_number S l i ≤ f) (hi_b : (i : ℕ) → B ≤ i → i < k → f < flight_number S l i) where
      number_whole : (i : ℕ) → WholeOf S f (page_at S l i) → flight_number S l i ≡ f
      number_whole i w = number_is l i f (from_counts l f i (inl w))

      none_left : A ≡ k → SearchFinds S l f None
      none_left e i h w = omega (arith, lo_a i (omega (arith, used)), number_whole i w)

      none_at : A < k → (flight_number S l A ≡ f → ⊥) → SearchFinds S l f None
      none_at lt ne i h w = go (dec_lt i A)
        where
          go : Dec (i < A) → ⊥
          go (yes q) = omega (arith, lo_a i q, number_whole i w)
          go (no q) = ne (omega (arith, mono A i (omega arith) (omega (arith, used)), hi_a A (omega arith) lt, number_whole i w))

      first_whole : (a : ℕ) → A ≡ a → CountsWith S f l a → WholeOf S f (page_at S l a)
      first_whole a e (inl w) = w
      first_whole a e (inr t) = absurd (omega (arith, lo_a t.1 (omega (arith, t.2)), number_whole t.1 t.3))

      found : A < k → flight_number S l A ≡ f → SpanOf S l f (span S A B)
      found lt e =
          record {
            within = omega (arith, before, used);
            pages =
                λ i h. (
                  λ r.
                      to_counts l f i (ink i (omega (arith, used)))
                      (all i (omega (arith, used)) ∙ ap {B = Option ℕ} Some (same i (omega (arith, used)) r.0 r.1)),
                  λ q. inside i (omega (arith, used)) (from_counts l f i q),
                );
            first = first_whole A refl (to_counts l f A (ink A lt) (all A lt ∙ ap {B = Option ℕ} Some e));
            torn_last = λ i a b. inner i a.0 b.1 (S.decode (page_at S l i)) refl;
          }
        where
          before : A < B
          before = go (dec_lt A B)
            where
              go : Dec (A < B) → A < B
              go (yes q) = q
              go (no q) = absurd (omega (arith, hi_b A (omega arith) lt))

          same : (i : ℕ) → i < k → A ≤ i → i < A + (B - A) → flight_number S l i ≡ f
          same i h a b = omega (arith, hi_a i a h, lo_b i (omega (arith, before)))

          inner : (i : ℕ) → A ≤ i → suc i < A + (B - A) → (d : Option (Decoded Record)) → S.decode (page_at S l i) ≡ d → WholeOf S f (page_at S l i)
          inner i a b None d =
              absurd
              (omega
              (arith, rise i (omega (arith, k_b)) d, same i (omega (arith, k_b)) a (omega arith), same (suc i) (omega (arith, k_b)) (omega arith) b))
          inner i a b (Some c) d = (c, d, omega (arith, number_is l i c.flight (flight_own S L l i c d), same i (omega (arith, k_b)) a (omega arith)))

          inside : (i : ℕ) → i < k → page_flight S l i ≡ Some f → InSpan S (span S A B) i
          inside i h q = (after-A (dec_lt i A), before-B (dec_lt i B))
            where
              after-A : Dec (i < A) → A ≤ i
              after-A (yes r) = absurd (omega (arith, lo_a i r, number_is l i f q))
              after-A (no r) = omega arith

              before-B : Dec (i < B) → i < A + (B - A)
              before-B (yes r) = omega (arith, before)
              before-B (no r) = absurd (omega (arith, hi_b i (omega arith) h, number_is l i f q))

    stays : (g : ℕ) (i j : ℕ) → i ≤ j → j < k → leb g (flight_number S l i) ≡ true → leb g (flight_number S l j) ≡ true
    stays g i j ij h e = le-leb g (flight_number S l j) (omega (arith, mono i j ij h, leb-true g (flight_number S l i) e))

    search_is : SearchFinds S l f (find S l k f)
    search_is =
        go (bisecting_threshold (λ i. leb f (flight_number S l i)) k (stays f))
        (bisecting_threshold (λ i. leb (suc f) (flight_number S l i)) k (stays (suc f)))
      where
        go : Threshold (λ i. leb f (flight_number S l i)) k (first_from S l k f)
            → Threshold (λ i. leb (suc f) (flight_number S l i)) k (first_from S l k (suc f)) → SearchFinds S l f (find S l k f)
        go a b = one (ltb (first_from S l k f) k) refl
          where
            lo_a : (i : ℕ) → i < first_from S l k f → flight_number S l i < f
            lo_a i h = leb-false f (flight_number S l i) (a.fails i h)

            hi_a : (i : ℕ) → first_from S l k f ≤ i → i < k → f ≤ flight_number S l i
            hi_a i h q = leb-true f (flight_number S l i) (a.passes i h q)

            lo_b : (i : ℕ) → i < first_from S l k (suc f) → flight_number S l i ≤ f
            lo_b i h = omega (arith, leb-false (suc f) (flight_number S l i) (b.fails i h))

            hi_b : (i : ℕ) → first_from S l k (suc f) ≤ i → i < k → f < flight_number S l i
            hi_b i h q = leb-true (suc f) (flight_number S l i) (b.passes i h q)

            two : (q : Bool) → eqb (flight_number S l (first_from S l k f)) f ≡ q → first_from S l k f < k
                → SearchFinds S l f (cond (eqb (flight_number S l (first_from S l k f)) f) (Some (span S (first_from S l k f) (first_from S l k (suc f)))) None)
            two true e h =
                rw e
                (found (first_from S l k f) (first_from S l k (suc f)) a.within lo_a hi_a b.within lo_b hi_b h
                (eqb-true (flight_number S l (first_from S l k f)) f e))
            two false e h =
                rw e
                (none_at (first_from S l k f) (first_from S l k (suc f)) a.within lo_a hi_a b.within lo_b hi_b h
                (eqb-false (flight_number S l (first_from S l k f)) f e))

            one : (q : Bool) → ltb (first_from S l k f) k ≡ q
                → SearchFinds S l f
                (cond (ltb (first_from S l k f) k)
                (cond (eqb (flight_number S l (first_from S l k f)) f) (Some (span S (first_from S l k f) (first_from S l k (suc f)))) None) None)
            one true e = rw e (two (eqb (flight_number S l (first_from S l k f)) f) refl (ltb-true (first_from S l k f) k e))
            one false e =
                rw e
                (none_left (first_from S l k f) (first_from S l k (suc f)) a.within lo_a hi_a b.within lo_b hi_b
                (omega (arith, a.within, ltb-false (first_from S l k f) k e)))

  finds : (l m : List Page) (st : Ending Record) → Follows S (LooseRule S) l st → Blanks S m → ¬ ForeignLog S (l ++ m) → (f : ℕ)
      → SearchFinds S (l ++ m) f (find S (l ++ m) (length l) f)
  finds l m st u b ok f = search_is (l ++ m) (length l) f (first_blank_lem S L u m b) ink all mono rise
    where
      clear : Clear st
      clear z = ok ((foreign_is S L u m b).1 z)

      ink : (i : ℕ) → i < length l → ¬ (page_at S (l ++ m) i ≡ S.blank)
      ink i h = rw (at_left S L l m i h) (used_not_blank S L u i h)

      all : (i : ℕ) → i < length l → page_flight S (l ++ m) i ≡ Some (flight_number S (l ++ m) i)
      all i h = let x = flown u clear i h in rw (flight_left S L l m i h, x.1) refl

      mono : (i j : ℕ) → i ≤ j → j < length l → flight_number S (l ++ m) i ≤ flight_number S (l ++ m) j
      mono i j ij h = rw (flight_left S L l m j h, flight_left S L l m i (omega arith)) (orders u clear i j ij h)

      rise : (i : ℕ) → suc i < length l → Rises (l ++ m) i
      rise i h d = rw (flight_left S L l m (suc i) h, flight_left S L l m i (omega arith)) (rise_all u clear i h (rw (at_left S L l m i (omega arith)) at d))

  -- (e) of a log that follows the loose grammar
  pub search_finds : (l : List Page) → Loose S l → ¬ ForeignLog S l → (f : ℕ) → SearchFinds S l f (find S l (first_blank S l) f)
  search_finds l w =
      rw w.split
      (λ ok f. rw (first_blank_lem S L w.follows w.rest w.blanks) (finds w.used w.rest w.ending w.follows w.blanks ok f))

  -- and every used page of such a log has a flight
  all_known : (l m : List Page) (st : Ending Record) → Follows S (LooseRule S) l st → Blanks S m → ¬ ForeignLog S (l ++ m) → FlightsKnown S (l ++ m) (length l)
  all_known l m st u b ok i h = let x = flown u (λ z. ok ((foreign_is S L u m b).1 z)) i h in (x.0, flight_left S L l m i h ∙ x.1)

  pub flights_known : (l : List Page) → Loose S l → ¬ ForeignLog S l → FlightsKnown S l (first_blank S l)
  flights_known l w =
      rw w.split (λ ok. rw (first_blank_lem S L w.follows w.rest w.blanks) (all_known w.used w.rest w.ending w.follows w.blanks ok))

  -- and none above the newest
  all_below_lem : (l m : List Page) (st : Ending Record) → Follows S (LooseRule S) l st → Blanks S m → ¬ ForeignLog S (l ++ m) → (i : ℕ) → i < length l
      → flight_number S (l ++ m) i ≤ newest st
  all_below_lem l m st u b ok i h =
      let x = flown u (λ z. ok ((foreign_is S L u m b).1 z)) i h in omega (arith, number_is (l ++ m) i x.0 (flight_left S L l m i h ∙ x.1), x.2)

  pub flights_below : (l : List Page) (w : Loose S l) → ¬ ForeignLog S l → (i : ℕ) → i < first_blank S l → flight_number S l i ≤ newest w.ending
  flights_below l w =
      rw w.split (λ ok. rw (first_blank_lem S L w.follows w.rest w.blanks) (all_below_lem w.used w.rest w.ending w.follows w.blanks ok))

-- Without faults, where every used page has a flight, find_flight answers what the theory's search does over the image's pages, for every
-- flight: the halving asks the same test at both ends, and past the last number there is no page. Assumes nothing.
use Prim.Native.Nat.{ℕ, suc, ◌/◌, ◌≤◌, ◌<◌}
use mathlib.Core.Path.{◌≡◌, refl, sym, ap, ◌∙◌}
use mathlib.Core.Bool.{Bool, true, false}
use mathlib.Core.List.{List}
use Rattle.std.specs.Prelude.{Option, None, Some}
use native.Mathlib.Decide.{dec_lt}
use native.Mathlib.Numerals.{add-one}
use native.Mathlib.Omega.{arith}
use borrow.Author.Tests.{eq-eqb, ne_eqb, lt-leb, lt-ltb, le-ltb}
use lib.Dec.{eqb, leb}
use lib.ListN.{length}
use Rattle.laws.specs.Answers.{Answer, gives}
use Rattle.laws.specs.Halving.{Threshold}
use Rattle.laws.proofs.Halving.{halving_plain, bisecting_within, bisecting_at}
use Rattle.power.specs.Scan as Theory-scan
use Rattle.layout.specs.Layout.{valid_capacity, pages_in}
use Rattle.store.proofs.Checks.{on_lengths_lem}
use Rattle.records.specs.declared.PageFlight.{PageFlight}
use Rattle.log_search.specs.Search.{or_corrupt, flight_id_of, reaches, lower_bound, end_of, found_from, found, found_flight}
use Rattle.log_search.proofs.Bounds.{reaches_is}
use Rattle.power_pages.specs.Store.{real, pages_of, as_found}
use Rattle.records.proofs.Readings.{NoFaults}
use Rattle.power_pages.proofs.Scan.{as_flight, flight_in_log, flight_says, flight_is}

one_flight : (o : Option PageFlight) (g : ℕ) → as_flight o ≡ Some g → or_corrupt o ≡ gives g
one_flight None g e = absurd (let z : ◌≡◌ {A = ℕ} 0 1 = cc in omega arith)
one_flight (Some f) g e = let z : f.flight_id ≡ g = cc in ap {B = Answer ℕ} gives z

module _ (image faults : List ℕ) (clear : NoFaults faults) (n used : ℕ) (l : used ≤ n) (each : Theory-scan.FlightsKnown real (pages_of n image) used) where
  abbrev log : List (List ℕ)
  log = pages_of n image

  abbrev flight_at : ℕ → Answer ℕ
  flight_at = flight_id_of n image faults

  abbrev point : ℕ → ℕ
  point f = Theory-scan.first_from real log used f

  reads : (i : ℕ) → i < used → flight_at i ≡ gives (Theory-scan.flight_number real log i)
  unfolding flight_id_of
  reads i h =
      let g = each i h in
      rw (lt-ltb i n (omega arith), flight_is image faults clear i)
      (one_flight (flight_in_log image i) g.0 (flight_says image n i (omega arith) ∙ g.1)
      ∙ ap {B = Answer ℕ} (λ (o : Option ℕ). gives (Theory-scan.number_of real o)) (sym g.1))

  lower_is : (f : ℕ) → lower_bound flight_at used f ≡ gives (point f)
  unfolding lower_bound
  lower_is f =
      halving_plain used (reaches flight_at f) (λ i. leb f (Theory-scan.flight_number real log i))
      (λ i h. reaches_is flight_at f i (Theory-scan.flight_number real log i) (reads i h))

  point_within : (f : ℕ) → point f ≤ used
  point_within f = bisecting_within (λ i. leb f (Theory-scan.flight_number real log i)) used

  end_is : (f : ℕ) → f < 4294967295 → end_of flight_at used f ≡ gives (point (suc f))
  unfolding end_of
  end_is f h = rw (lt-ltb f 4294967295 h) (ap (lower_bound flight_at used) (add-one f) ∙ lower_is (suc f))

  module _ (f : ℕ) (h : f < 4294967295) where
    from_this : point f < used → (b : Bool) → eqb (Theory-scan.flight_number real log (point f)) f ≡ b
        → found_from flight_at used f (point f) ≡ gives (as_found f (Theory-scan.find real log used f))
    unfolding found_from
    from_this k true e =
        rw (ne_eqb (point f) used (λ q. omega arith), reads (point f) k, e, end_is f h, lt-ltb (point f) used k) refl
    from_this k false e = rw (ne_eqb (point f) used (λ q. omega arith), reads (point f) k, e, lt-ltb (point f) used k) refl

    from_is : Dec (point f < used) → found_from flight_at used f (point f) ≡ gives (as_found f (Theory-scan.find real log used f))
    unfolding found_from
    from_is (yes k) = from_this k (eqb (Theory-scan.flight_number real log (point f)) f) refl
    from_is (no k) =
        let z : point f ≡ used = omega (arith, point_within f) in
        rw (eq-eqb (point f) used z, le-ltb (point f) used (omega arith)) refl

    pub pages_searched : found flight_at used f ≡ gives (as_found f (Theory-scan.find real log used f))
    unfolding found
    pages_searched = rw (lower_is f) (from_is (dec_lt (point f) used))

  -- a flight past all of them is not there
  pub past_searched : (f : ℕ) → ((i : ℕ) → i < used → Theory-scan.flight_number real log i < f)
      → found flight_at used f ≡ gives (as_found f (Theory-scan.find real log used f))
  unfolding found found_from
  past_searched f below =
      let z : point f ≡ used = bisecting_at (λ i. leb f (Theory-scan.flight_number real log i)) used used past in
      rw (lower_is f, eq-eqb (point f) used z, le-ltb (point f) used (omega arith)) refl
    where
      past : Threshold (λ i. leb f (Theory-scan.flight_number real log i)) used used
      past =
          record {
            within = omega arith;
            fails = λ i h. lt-leb f (Theory-scan.flight_number real log i) (below i h);
            passes = λ i a b. absurd (omega arith);
          }

  pub all_searched : ((i : ℕ) → i < used → Theory-scan.flight_number real log i < 4294967295) → (f : ℕ)
      → found flight_at used f ≡ gives (as_found f (Theory-scan.find real log used f))
  all_searched below f = go (dec_lt f 4294967295)
    where
      go : Dec (f < 4294967295) → found flight_at used f ≡ gives (as_found f (Theory-scan.find real log used f))
      go (yes h) = pages_searched f h
      go (no h) = past_searched f (λ i l. omega (arith, below i l))

-- THE TIE: "without faults" find_flight answers what the theory's search does over the image's pages
pub find_is_theory : (c : ℕ) (image faults : List ℕ) → valid_capacity c ≡ true → length image ≡ c → length faults ≡ c / 256 → NoFaults faults
    → (used : ℕ) → used ≤ pages_in c → Theory-scan.FlightsKnown real (pages_of (pages_in c) image) used
    → ((i : ℕ) → i < used → Theory-scan.flight_number real (pages_of (pages_in c) image) i < 4294967295) → (f : ℕ)
    → found_flight c image faults used f ≡ gives (as_found f (Theory-scan.find real (pages_of (pages_in c) image) used f))
unfolding found_flight
find_is_theory c image faults v k q clear used l each below f =
    on_lengths_lem c (length image) (length faults) (c / 256) (found (flight_id_of (pages_in c) image faults) used f) v k q
    ∙ all_searched image faults clear (pages_in c) used l each below f

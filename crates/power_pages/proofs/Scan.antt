-- Without faults the scan of an image is the theory's scan over the image's pages: the halving asks the same test, and each page says the
-- same flight. Assumes nothing.
use Prim.Native.Nat.{ℕ, zero, suc, ◌+◌, ◌-◌, ◌/◌, ◌≤◌, ◌<◌}
use mathlib.Core.Path.{◌≡◌, refl, sym, ap, ap₂, ◌∙◌}
use mathlib.Core.Bool.{Bool, true, false, false≢true}
use mathlib.Core.List.{List}
use Rattle.std.specs.Prelude.{Option, None, Some}
use native.Mathlib.Nat.{add-zero, add-suc, suc-add}
use native.Mathlib.Omega.{arith}
use borrow.Author.Tests.{ne_eqb}
use lib.Dec.{ltb}
use lib.ListN.{length, get_or, replicate}
use Rattle.laws.specs.Answers.{Answer, gives, refuses}
use Rattle.laws.specs.Halving.{bisecting}
use Rattle.laws.proofs.Halving.{halving_plain, bisecting_within}
use Rattle.power.specs.Reading as Theory
use Rattle.power.specs.Scan as Theory-scan
use Rattle.words.specs.Words.{same_bytes}
use Rattle.layout.specs.Layout.{valid_capacity, pages_in, page_at}
use Rattle.layout.proofs.Capacity.{valid}
use Rattle.store.proofs.Checks.{on_lengths_lem}
use Rattle.blackbox.specs.Flight.{next_flight}
use Rattle.blackbox.specs.Page.{blank_page, decoded}
use Rattle.blackbox.specs.declared.PageMetadata.{PageMetadata}
use Rattle.records.specs.Pages.{page_in, all_blank, saying_of, reading, blank_at, flight_in, or_else, page_flight}
use Rattle.records.specs.Scan as Scan
use Rattle.records.proofs.Pages.{page_long}
use Rattle.records.proofs.Readings.{NoFaults, blank_bytes, flight_said, blank_is, own_is}
use Rattle.records.specs.declared.PageFlight.{PageFlight}
use Rattle.records.specs.declared.Scan as Declared
use Rattle.power_pages.specs.Store.{content_in, content, real, pages_from, pages_of, as_scan}
use Rattle.power_pages.proofs.Real.{same_blank}

-- ---- the pages of an image

pub length_pages : (image : List ℕ) (i n : ℕ) → length (pages_from image i n) ≡ n
unfolding pages_from
length_pages image i zero = refl
length_pages image i (suc n) = ap suc (length_pages image (suc i) n)

pages_at : (image : List ℕ) (n i k : ℕ) → k < n → get_or (pages_from image i n) k blank_page ≡ page_in image (i + k)
unfolding pages_from
pages_at image zero i k h = absurd (omega arith)
pages_at image (suc n) i zero h = ap (page_in image) (sym (add-zero i))
pages_at image (suc n) i (suc k) h = pages_at image n (suc i) k (omega arith) ∙ ap (page_in image) (suc-add i k ∙ sym (add-suc i k))

pub page_at_lem : (image : List ℕ) (n i : ℕ) → i < n → get_or (pages_of n image) i blank_page ≡ page_in image i
page_at_lem image n i h = let z : 0 + i ≡ i = omega arith in pages_at image n 0 i h ∙ ap (page_in image) z

bytes_blank : (n : ℕ) → all_blank (replicate n 255) ≡ true
unfolding all_blank
bytes_blank zero = refl
bytes_blank (suc n) = bytes_blank n

-- as the theory tells it
abbrev pub is_blank_page : List ℕ → Bool
is_blank_page page = real.is_blank page

pub told_blank : (p : List ℕ) → length p ≡ 256 → all_blank p ≡ is_blank_page p
told_blank p l = go (all_blank p) (same_bytes p blank_page) refl refl
  where
    go : (a b : Bool) → all_blank p ≡ a → same_bytes p blank_page ≡ b → all_blank p ≡ same_bytes p blank_page
    go true b e q = e ∙ sym ((same_blank p).1 (blank_bytes 256 p l e))
    go false true e q = absurd (false≢true (sym e ∙ ap all_blank ((same_blank p).0 q) ∙ bytes_blank 256))
    go false false e q = e ∙ sym q

-- ---- reading without faults

-- a flight as the theory has it
abbrev pub as_flight : Option PageFlight → Option ℕ
as_flight None = None
as_flight (Some f) = Some f.flight_id

-- the verdict where page 0 says a flight
abbrev chosen : Option PageFlight → Declared.Scan → Declared.Scan
chosen None s = Scan.foreign_scan
chosen (Some f) s = s

-- a page's own flight, else another
abbrev or_own : Option PageFlight → Option PageFlight → Option PageFlight
or_own None other = other
or_own (Some f) other = Some f

-- what the pages of an image say of their flights
abbrev pub own_in : List ℕ → ℕ → Option PageFlight
own_in image i = flight_in (reading (page_in image i))

abbrev pub flight_in_log : List ℕ → ℕ → Option PageFlight
flight_in_log image zero = own_in image zero
flight_in_log image (suc i) = or_own (own_in image (suc i)) (own_in image i)

same_flight : (p : List ℕ) (d : Answer PageMetadata) → as_flight (flight_in (saying_of d)) ≡ Theory-scan.flight_of real (content_in p d)
same_flight p (gives m) = refl
same_flight p (refuses number fault) = refl

module _ (image : List ℕ) (n : ℕ) where
  own_says : (i : ℕ) → i < n → as_flight (own_in image i) ≡ Theory-scan.own_flight real (pages_of n image) i
  unfolding content
  own_says i h =
      ap as_flight (flight_said (page_in image i)) ∙ same_flight (page_in image i) (decoded (page_in image i)) ∙ ap (λ (p : List ℕ). Theory-scan.flight_of real (content p)) (sym (page_at_lem image n i h))

  or_says : (a b : Option PageFlight) → as_flight (or_own a b) ≡ Theory-scan.or_else real (as_flight a) (as_flight b)
  or_says None b = refl
  or_says (Some f) b = refl

  pub flight_says : (i : ℕ) → i < n → as_flight (flight_in_log image i) ≡ Theory-scan.page_flight real (pages_of n image) i
  flight_says zero h = own_says zero h
  flight_says (suc i) h =
      or_says (own_in image (suc i)) (own_in image i)
      ∙ ap₂ (Theory-scan.or_else real) (own_says (suc i) h) (own_says i (omega arith))

module _ (image faults : List ℕ) (clear : NoFaults faults) where
  first_is : (o : Option PageFlight) → or_else o (gives None) ≡ gives o
  first_is None = refl
  first_is (Some f) = refl

  next_is : (a b : Option PageFlight) → or_else a (gives b) ≡ gives (or_own a b)
  next_is None b = refl
  next_is (Some f) b = refl

  pub flight_is : (i : ℕ) → page_flight image faults i ≡ gives (flight_in_log image i)
  unfolding page_flight
  flight_is zero = rw (own_is image faults clear 0) (first_is (own_in image 0))
  flight_is (suc i) =
      let z : suc i - 1 ≡ i = omega arith in
      rw (own_is image faults clear (suc i), ne_eqb (suc i) 0 (λ e. omega arith), z, own_is image faults clear i) (next_is (own_in image (suc i)) (own_in image i))

  module _ (n : ℕ) (long : page_at n ≤ length image) where
    says_blank : (i : ℕ) → i < n → blank_at image faults i ≡ gives (is_blank_page (Theory.page_at real (pages_of n image) i))
    says_blank i h =
        blank_is image faults clear i
        ∙ ap {B = Answer Bool} gives (told_blank (page_in image i) (page_long image n long i h) ∙ ap (is_blank_page) (sym (page_at_lem image n i h)))

    pub used_is : Scan.used_pages n image faults ≡ gives (Theory-scan.used_pages real (pages_of n image))
    unfolding Scan.used_pages
    used_is =
        halving_plain n (blank_at image faults) (λ i. is_blank_page (Theory.page_at real (pages_of n image) i)) says_blank
        ∙ ap {B = Answer ℕ} (λ (k : ℕ). gives (bisecting (λ i. is_blank_page (Theory.page_at real (pages_of n image) i)) k)) (sym (length_pages image 0 n))

    -- the verdict, from what the first and the last used page say
    appending_is : (used : ℕ) (o : Option PageFlight) → as_scan (Theory-scan.appending real (pages_of n image) used (as_flight o)) ≡ Scan.appending n used o
    appending_is used None = refl
    appending_is used (Some f) = ap (λ (k : ℕ). Scan.scan used (next_flight f.flight_id) (ltb used k)) (length_pages image 0 n)

    begun_is : (o : Option PageFlight) (s : Theory.ScanAnswer) → as_scan (Theory-scan.if_begun real (as_flight o) s) ≡ chosen o (as_scan s)
    begun_is None s = refl
    begun_is (Some f) s = refl

    chosen_is : (o : Option PageFlight) (s : Declared.Scan) → Scan.if_begun o (gives s) ≡ gives (chosen o s)
    chosen_is None s = refl
    chosen_is (Some f) s = refl

    verdict_is : (used : ℕ) → used ≤ n → Scan.verdict n image faults used ≡ gives (as_scan (Theory-scan.verdict real (pages_of n image) used))
    unfolding Scan.verdict
    verdict_is zero h = refl
    verdict_is (suc last) h =
        let z : suc last - 1 ≡ last = omega arith in
        rw (ne_eqb (suc last) 0 (λ e. omega arith), own_is image faults clear 0, z, flight_is last)
        (chosen_is (own_in image 0) (Scan.appending n (suc last) (flight_in_log image last))
        ∙ ap {B = Answer Declared.Scan} gives
        (ap (chosen (own_in image 0)) (sym (appending_is (suc last) (flight_in_log image last)))
        ∙ sym (begun_is (own_in image 0) (Theory-scan.appending real (pages_of n image) (suc last) (as_flight (flight_in_log image last))))
        ∙ ap₂ (λ (a b : Option ℕ). as_scan (Theory-scan.if_begun real a (Theory-scan.appending real (pages_of n image) (suc last) b)))
        (own_says image n 0 (omega arith)) (flight_says image n last (omega arith))))

    pub pages_scanned : Scan.scan_pages n image faults ≡ gives (as_scan (Theory-scan.scan real (pages_of n image)))
    unfolding Scan.scan_pages
    pages_scanned =
        rw used_is
        (verdict_is (Theory-scan.used_pages real (pages_of n image)) within)
      where
        within : Theory-scan.used_pages real (pages_of n image) ≤ n
        within = omega (arith, length_pages image 0 n, bisecting_within (λ i. is_blank_page (Theory.page_at real (pages_of n image) i)) (length (pages_of n image)))

-- THE TIE: "without faults" scan_log answers what the theory's scan does over the image's pages
pub scan_is_theory : (c : ℕ) (image faults : List ℕ) → valid_capacity c ≡ true → length image ≡ c → length faults ≡ c / 256 → NoFaults faults
    → Scan.scanned c image faults ≡ gives (as_scan (Theory-scan.scan real (pages_of (pages_in c) image)))
unfolding Scan.scanned
scan_is_theory c image faults v l f clear =
    on_lengths_lem c (length image) (length faults) (c / 256) (Scan.scan_pages (pages_in c) image faults) v l f
    ∙ pages_scanned image faults clear (pages_in c) (omega (arith, (valid c v).above))

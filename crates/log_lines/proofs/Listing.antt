-- Lines one after another: what is listed after each turn. Assumes nothing.
use Prim.Native.Nat.{ℕ, ◌+◌, ◌*◌, ◌≤◌, ◌<◌}
use mathlib.Core.Path.{◌≡◌, refl, sym, ap, ap₂, ◌∙◌}
use mathlib.Core.Bool.{Bool}
use mathlib.Core.List.{List, [], ◌∷◌, ◌++◌, map, append_assoc, append-nil}
use native.Mathlib.Numerals.{add-one}
use native.Mathlib.Omega.{arith}
use borrow.Author.Tests.{le-leb}
use lib.ListN.{length, get_or, take, length-append}
use lib.Seq.{take-suc, take_all, length-take-le}
use Rattle.laws.specs.Answers.{gives}
use Rattle.blackbox.specs.Page.{joined}
use Rattle.blackbox.proofs.Laying.{joined_more}
use Rattle.log_search.specs.declared.StoredFlight.{StoredFlight}
use Rattle.log_lines.specs.Lines.{count_line, flight_line, unsynced_lines, unsynced}
use Rattle.log_lines.proofs.Fits.{count_short}

map_more : (fs : List StoredFlight) (f : StoredFlight) → map flight_line (fs ++ f ∷ []) ≡ map flight_line fs ++ flight_line f ∷ []
map_more [] f = refl
map_more (g ∷ fs) f = ap {B = List (List ℕ)} (λ l. flight_line g ∷ l) (map_more fs f)

-- the count line and the lines of the first i of the flights
unfoldable pub listing : ℕ → Bool → List StoredFlight → ℕ → List ℕ
listing count more flights i = count_line count more ++ joined (map flight_line (take i flights))

-- what an index past the end of an array of flights reads
abbrev pub absent : StoredFlight
absent = record { flight_id = 0; start_page = 0; pages = 0 }

listing_more : (count : ℕ) (more : Bool) (flights : List StoredFlight) (i : ℕ) (f : StoredFlight) → i < length flights → f ≡ get_or flights i absent
    → listing count more flights i ++ flight_line f ≡ listing count more flights (i + 1)
unfolding listing
listing_more count more flights i f h e =
    append_assoc (count_line count more) (joined (map flight_line (take i flights))) (flight_line f)
    ∙ ap (λ (l : List ℕ). count_line count more ++ l)
    (sym (joined_more (map flight_line (take i flights)) (flight_line f)) ∙ ap joined (sym (map_more (take i flights) f))
    ∙ ap (λ (l : List StoredFlight). joined (map flight_line l))
    (ap (λ (g : StoredFlight). take i flights ++ g ∷ []) e ∙ sym (take-suc flights i absent h) ∙ ap (λ (k : ℕ). take k flights) (sym (add-one i))))

module _ (count : ℕ) (more : Bool) (flights : List StoredFlight) (few : count ≤ 8) where
  -- before the first turn
  pub listed_first : (none line part r : List ℕ) → none ≡ [] → line ≡ count_line count more → part ≡ line → r ≡ take 472 (none ++ part)
      → (r ≡ listing count more flights 0) × (length (listing count more flights 0) ≤ 24)
  unfolding listing joined
  listed_first none line part r n e q k =
      let short : length (count_line count more) ≤ 24 = count_short count more (omega arith) in (
        k ∙ ap₂ (λ (x y : List ℕ). take 472 (x ++ y)) n (q ∙ e) ∙ take_all 472 (count_line count more) (omega arith)
            ∙ sym (append-nil (count_line count more)),
        omega (arith, length-append (count_line count more) [], short),
      )

  -- one turn of the loop
  pub listed_next : (i : ℕ) (f : StoredFlight) (lines line part r : List ℕ) → i < count → count ≤ length flights → f ≡ get_or flights i absent
      → lines ≡ listing count more flights i → length (listing count more flights i) ≤ 24 + 56 * i
      → line ≡ flight_line f → length (flight_line f) ≤ 56 → part ≡ line → r ≡ take 472 (lines ++ part)
      → (r ≡ listing count more flights (i + 1)) × (length (listing count more flights (i + 1)) ≤ 24 + 56 * (i + 1))
  listed_next i f lines line part r lt long g e short h fits q k =
      let next = listing_more count more flights i f (omega arith) g in
      let size : length (listing count more flights (i + 1)) ≤ 24 + 56 * (i + 1) =
      omega (arith, ap length next, length-append (listing count more flights i) (flight_line f)) in (
        k ∙ ap₂ (λ (x y : List ℕ). take 472 (x ++ y)) e (q ∙ h) ∙ ap (take 472) next
            ∙ take_all 472 (listing count more flights (i + 1)) (omega arith),
        size,
      )

  -- after the last
  pub listed_all : (i : ℕ) (lines : List ℕ) → i ≡ count → count ≤ length flights → lines ≡ listing count more flights i
      → gives lines ≡ unsynced flights count more
  unfolding listing unsynced_lines unsynced
  listed_all i lines h k e =
      rw (le-leb count 8 few)
      (ap gives (e ∙ ap₂ (λ (n j : ℕ). count_line n more ++ joined (map flight_line (take j flights))) (sym (length-take-le count flights k)) h))

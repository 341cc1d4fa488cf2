-- Lists made element by element. Assumes nothing.
use Rattle.std.proofs.Common.{◌≡◌, ℕ, suc, ◌*◌, ◌<◌, List, [], ◌∷◌, map, length, get_or, refl, arith}
use Rattle.std.specs.List.{flat_map}
use borrow.Author.Tests.{eq-eqb}
use Rattle.laws.specs.Answers.{gives}
use Rattle.log_lines.specs.Lines.{unsynced}
use Rattle.reply.specs.Reply.{is_set, laid}
use Rattle.std.proofs.lemmas.List.FromFn.{fill_by_all}
use Rattle.log_search.specs.declared.StoredFlight.{StoredFlight}
use Rattle.reply_text.specs.TextRows.{text_row, stored_at, flights_in, lines_of}
use Rattle.blackbox.specs.Page.{joined}

module _ {A B : Type 0} (f : A → B) where
  pub mapped : (xs : List A) (ys : List B) → length ys ≡ length xs
      → ((i : ℕ) (d : A) (e : B) → i < length xs → get_or ys i e ≡ f (get_or xs i d)) → ys ≡ map f xs
  mapped [] [] l h = refl
  mapped [] (y ∷ ys) l h = absurd (omega arith)
  mapped (x ∷ xs) [] l h = absurd (omega arith)
  mapped (x ∷ xs) (y ∷ ys) l h =
      let first : y ≡ f x = h 0 x y (omega arith) in
      let others : ys ≡ map f xs = mapped xs ys (omega arith) (λ i d e k. h (suc i) d e (omega arith)) in
      rw (first, others) refl

pub flattened : (rows : List (List ℕ)) → flat_map (λ x. x) rows ≡ joined rows
unfolding joined
flattened [] = refl
flattened (row ∷ rows) = rw (flattened rows) refl

abbrev pub no_flight : StoredFlight
no_flight = record { flight_id = 0; start_page = 0; pages = 0 }

pub eight_flights : (bytes : List ℕ) (flights : List StoredFlight) → length flights ≡ 8
    → ((k : ℕ) → k < 8 → get_or flights k no_flight ≡ stored_at bytes (12 * k)) → flights ≡ flights_in bytes
unfolding flights_in
eight_flights bytes flights n h = fill_by_all (λ k. stored_at bytes (12 * k)) flights 8 no_flight n h

pub lines_given : (flights : List ℕ) (count more : ℕ) (fs : List StoredFlight) (text row : List ℕ) → length flights ≡ 96
    → fs ≡ flights_in flights → gives text ≡ unsynced fs count (is_set more) → row ≡ text_row 472 text
    → gives row ≡ laid (text_row 472) (lines_of flights count more)
unfolding lines_of
lines_given flights count more fs text row n e h r = rw (r, eq-eqb (length flights) 96 n, ← e, ← h) refl

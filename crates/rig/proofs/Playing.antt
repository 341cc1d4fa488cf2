-- The rows of a script, one after another: what is left leads from the bench, the image and the output to where all of it leads. And the
-- tests in front of it. Assumes nothing.
use Prim.Native.Nat.{ℕ, suc, ◌+◌, ◌-◌, ◌*◌, ◌≤◌, ◌<◌}
use mathlib.Core.Path.{◌≡◌, refl, sym, ap, ap₂, ◌∙◌, subst}
use mathlib.Core.Bool.{Bool, true, false}
use mathlib.Core.List.{List, [], ◌∷◌, ◌++◌, append_assoc, append-nil}
use native.Mathlib.Omega.{arith}
use native.Mathlib.Numerals.{add-one}
use borrow.Author.Tests.{eq-eqb, ne_eqb}
use lib.ListN.{length, take, drop, length-append, length-drop}
use lib.Seq.{take_all, length-take-le, take-length, take_at}
use Rattle.laws.specs.Answers.{Answer, gives, refuses}
use Rattle.laws.specs.Refusals.{bad_length}
use Rattle.layout.specs.Layout.{valid_capacity}
use Rattle.words.specs.Words.{le_bytes, placed}
use Rattle.words.proofs.Numbers.{placed_fits}
use Rattle.store.specs.Store.{leaves, on_image}
use Rattle.store.proofs.Checks.{on_image_lem, image_refused, image_held}
use Rattle.script.specs.Script.{Operation, operation_in, row_at, rows_in, operations_from, operations, is_script}
use Rattle.script.proofs.Rows.{Stands, stands}
use Rattle.log_writer.proofs.Turns.{Ends as Led}
use Rattle.queue.specs.Queue.{empty}
use Rattle.queue.specs.declared.RecordQueue.{RecordQueue}
use Rattle.log_state.specs.Writer.{fresh}
use Rattle.log_state.specs.declared.LogWriter.{LogWriter}
use Rattle.rig.specs.Rig.{bench, unpowered, playing, played, image_after, tells_of, plays_image, tells, on_script, play_told, after_play, output_after}
use Rattle.rig.specs.Laws.{SoundBench}
use Rattle.rig.specs.declared.Bench.{Bench}
use Rattle.rig.specs.declared.Played.{Played}
use Rattle.rig.proofs.Laws.{unpowered_as, played_as_lem}

-- what has been written up to the end of the bytes that were placed
written_more : (l : List ℕ) (at : ℕ) (b : List ℕ) → at + length b ≤ length l → take (at + length b) (placed l at b) ≡ take at l ++ b
written_more l at b h =
    ap (take (at + length b)) (placed_fits l at b h ∙ ap (λ (x : List ℕ). take at l ++ x ++ drop (at + length b) l) (take-length b))
    ∙ take_at (take at l ++ b) (drop (at + length b) l) (at + length b)
    (omega (arith, length-append (take at l) b, length-take-le at l (omega arith)))

length_tells : (p : Played) → length (tells_of p) ≡ 40
unfolding tells_of le_bytes
length_tells p = refl

module _ (c : ℕ) (script image₀ : List ℕ) where
  -- the operations of the rows from i on
  abbrev left : ℕ → List Operation
  left i = operations_from script i (rows_in script - i)

  pub record Leads (b : Bench) (image output : List ℕ) (i : ℕ) : Type 0 where
    pub picture : plays_image c (left i) b image ≡ plays_image c (operations script) unpowered image₀
    pub told : take (i * 40) output ++ tells c (left i) b image ≡ tells c (operations script) unpowered image₀

  pub leads_first : (b : Bench) (output : List ℕ) → b ≡ unpowered → Leads b image₀ output 0
  leads_first b output e =
      record {
        picture = ap₂ (λ (os : List Operation) (x : Bench). plays_image c os x image₀) all e;
        told = ap₂ (λ (os : List Operation) (x : Bench). tells c os x image₀) all e;
      }
    where
      all : left 0 ≡ operations script
      all = ap (operations_from script 0) {x = rows_in script - 0} {y = rows_in script} (omega arith)

  module _ (b : Bench) (image output : List ℕ) (i : ℕ) (h : i < rows_in script) where
    next_row : left i ≡ operation_in (row_at script i) ∷ left (i + 1)
    unfolding operations_from
    next_row =
        ap (operations_from script i) {x = rows_in script - i} {y = suc (rows_in script - (i + 1))} (omega arith)
        ∙ ap (λ (j : ℕ). operation_in (row_at script i) ∷ operations_from script j (rows_in script - (i + 1))) (sym (add-one i))

    -- the row's operation, as it was played
    module _ (r : Played) (image' : List ℕ) (er : r ≡ played c (operation_in (row_at script i)) b image)
        (em : image' ≡ image_after c (operation_in (row_at script i)) b image) where
      picture_again : plays_image c (left i) b image ≡ plays_image c (left (i + 1)) r.bench image'
      unfolding plays_image
      picture_again =
          ap (λ (os : List Operation). plays_image c os b image) next_row
          ∙ (λ k. plays_image c (left (i + 1)) (sym er k).bench (sym em k))

      told_again : tells c (left i) b image ≡ tells_of r ++ tells c (left (i + 1)) r.bench image'
      unfolding tells
      told_again =
          ap (λ (os : List Operation). tells c os b image) next_row
          ∙ (λ k. tells_of (sym er k) ++ tells c (left (i + 1)) (sym er k).bench (sym em k))

    -- the row as it was played
    pub leads_again : (o : Operation) (row : List ℕ) (r : Played) (image' output' : List ℕ) → o ≡ operation_in row → row ≡ row_at script i
        → length output ≡ rows_in script * 40 → r ≡ played c o b image → image' ≡ image_after c o b image
        → output' ≡ placed output (i * 40) (tells_of r) → Leads b image output i → Leads r.bench image' output' (i + 1)
    leads_again o row r image' output' eo erow n er em out l =
        record {
          picture = sym (picture_again r image' played_so image_so) ∙ l.picture;
          told =
              ap (λ (x : List ℕ). x ++ tells c (left (i + 1)) r.bench image') more
              ∙ append_assoc (take (i * 40) output) (tells_of r) (tells c (left (i + 1)) r.bench image')
              ∙ ap (λ (x : List ℕ). take (i * 40) output ++ x) (sym (told_again r image' played_so image_so)) ∙ l.told;
        }
      where
        says : o ≡ operation_in (row_at script i)
        says = eo ∙ ap operation_in erow

        played_so : r ≡ played c (operation_in (row_at script i)) b image
        played_so = er ∙ ap (λ (x : Operation). played c x b image) says

        image_so : image' ≡ image_after c (operation_in (row_at script i)) b image
        image_so = em ∙ ap (λ (x : Operation). image_after c x b image) says

        more : take ((i + 1) * 40) output' ≡ take (i * 40) output ++ tells_of r
        more =
            let z : (i + 1) * 40 ≡ i * 40 + length (tells_of r) = omega (arith, length_tells r) in
            ap₂ (λ (k : ℕ) (x : List ℕ). take k x) z out ∙ written_more output (i * 40) (tells_of r) (omega (arith, length_tells r))

  pub leads_end : (b : Bench) (image output : List ℕ) (i : ℕ) → i ≤ rows_in script → rows_in script ≤ i → length output ≡ rows_in script * 40
      → Leads b image output i
      → Led image (plays_image c (operations script) unpowered image₀) output (tells c (operations script) unpowered image₀)
  unfolding operations_from plays_image tells
  leads_end b image output i h k n l =
      record {
        returned = sym (ap (λ (os : List Operation). plays_image c os b image) none) ∙ l.picture;
        left = sym (append-nil output) ∙ ap₂ (λ (x : List ℕ) (os : List Operation). x ++ tells c os b image) (sym all) (sym none) ∙ l.told;
      }
    where
      none : left i ≡ []
      none = ap (operations_from script i) {x = rows_in script - i} {y = 0} (omega arith)

      all : take (i * 40) output ≡ output
      all = take_all (i * 40) output (omega arith)

-- ---- what the loop over the rows carries

pub begins_unpowered : (w : LogWriter) (q : RecordQueue) (r : Played) → w ≡ fresh → q ≡ empty → r ≡ playing w q 0 0 0 0 → r.bench ≡ unpowered
unfolding unpowered
begins_unpowered w q r ew eq er = ap (λ (x : Played). x.bench) er ∙ (λ k. bench (ew k) (eq k))

module _ (c : ℕ) (script image₀ : List ℕ) where
  -- the first n rows were played, and these are left
  pub record Plays (b : Bench) (image output : List ℕ) (n : ℕ) (rest : List ℕ) : Type 0 where
    pub leads : Leads c script image₀ b image output n
    pub left : rest ≡ drop (n * 288) script
    pub few : n ≤ rows_in script
    pub sound : SoundBench b
    pub room : length output ≡ rows_in script * 40

  pub plays_first : (b : Bench) (output rest : List ℕ) → b ≡ unpowered → length output ≡ rows_in script * 40 → rest ≡ script
      → Plays b image₀ output 0 rest
  plays_first b output rest e n er =
      record { leads = leads_first c script image₀ b output e; left = er; few = omega arith; sound = unpowered_as b e; room = n }

  module _ (b : Bench) (image output : List ℕ) (n : ℕ) (rest : List ℕ) (p : Plays b image output n rest) where
    module _ (row behind : List ℕ) (cut : rest ≡ row ++ behind) (long : length row ≡ 288) where
      at : Stands script n row behind
      at = stands script n row behind rest p.left cut long

      pub inside : n < rows_in script
      inside = at.inside

      -- a row is played: what is told of it stands at its place
      pub plays_again : (i m : ℕ) (o : Operation) (r : Played) (b' : Bench) (image' output' : List ℕ) → i ≡ n → m ≡ n + 1 → o ≡ operation_in row
          → r ≡ played c o b image → b' ≡ r.bench → image' ≡ image_after c o b image → output' ≡ placed output (i * 40) (tells_of r)
          → length output' ≡ length output → Plays b' image' output' m behind
      plays_again i m o r b' image' output' ei em eo er eb im out same =
          let out' : output' ≡ placed output (n * 40) (tells_of r) = out ∙ ap (λ (k : ℕ). placed output (k * 40) (tells_of r)) ei in
          let l = leads_again c script image₀ b image output n at.inside o row r image' output' eo at.here p.room er im out' p.leads in
          subst (λ (x : Bench). Plays x image' output' m behind) (sym eb)
          (subst (λ (k : ℕ). Plays r.bench image' output' k behind) (sym em)
          (record {
            leads = l;
            left = at.behind;
            few = omega (arith, at.inside);
            sound = played_as_lem c o b image r er p.sound;
            room = same ∙ p.room;
          }))

    pub plays_end : length rest < 288
        → Led image (plays_image c (operations script) unpowered image₀) output (tells c (operations script) unpowered image₀)
    plays_end l =
        leads_end c script image₀ b image output n p.few
        (omega (arith, p.few, l, ap (length {A = ℕ}) p.left, length-drop (n * 288) script)) p.room p.leads

-- ---- the tests in front

-- the end of the player: its answer, the image and the output are what the contract says
pub record Ends (a says : Answer (Unit {0})) (image picture output tale : List ℕ) : Type 0 where
  pub answer : a ≡ says
  pub left : image ≡ picture
  pub tells : output ≡ tale

pub ends : {a says : Answer (Unit {0})} {image picture output tale : List ℕ} → Ends a says image picture output tale
    → record { result_value : a ≡ says; image_after : image ≡ picture; output_after : output ≡ tale }
ends e = record { result_value = e.answer; image_after = e.left; output_after = e.tells }

module _ (c : ℕ) (image script output : List ℕ) where
  abbrev tested : (A : Type 0) → Answer A → Answer A
  tested A rest = on_script c (length image) script (length output) rest

  abbrev Ended : Answer (Unit {0}) → List ℕ → List ℕ → Type 0
  Ended a image' output' =
      Ends a (play_told c image script output) image' (after_play c image script output) output' (output_after c image script output)

  refused_ends : (x y : ℕ) → ((A : Type 0) (rest : Answer A) → refuses x y ≡ tested A rest) → Ended (refuses x y) image output
  refused_ends x y e = record { answer = e (Unit {0}) _; left = ap (leaves image) (e (List ℕ) _); tells = ap (leaves output) (e (List ℕ) _) }

  pub no_image : (told : Answer (Unit {0})) (x y : ℕ) → told ≡ refuses x y
      → ◌≡◌ {A = Answer (Unit {0})} (refuses x y) (on_image c (length image) (gives tt)) → Ended told image output
  unfolding on_script
  no_image told x y et e =
      subst (λ (a : Answer (Unit {0})). Ended a image output) (sym et)
      (refused_ends x y (λ A rest. image_refused c (length image) tt _ x y e))

  module _ (u : Unit {0}) (e : gives u ≡ on_image c (length image) (gives tt)) (b : Bool) (eb : b ≡ is_script script) where
    held : (valid_capacity c ≡ true) × (length image ≡ c)
    held = image_held {B = Unit {0}} c (length image) (tt {0}) (gives tt) u e

    pub no_script : b ≡ false → Ended (refuses bad_length 0) image output
    unfolding on_script
    no_script n =
        refused_ends bad_length 0 (λ A rest. sym (on_image_lem c (length image) _ held.0 held.1 ∙ simp (sym eb ∙ n)))

    module _ (n : b ≡ true) where
      pub other_output : (length output ≡ rows_in script * 40 → ⊥) → Ended (refuses bad_length 0) image output
      unfolding on_script
      other_output h =
          refused_ends bad_length 0
          (λ A rest. sym (on_image_lem c (length image) _ held.0 held.1 ∙ simp (sym eb ∙ n, ne_eqb (length output) (rows_in script * 40) h)))

      pub plays_it : (image' output' : List ℕ) → length output ≡ rows_in script * 40
          → image' ≡ plays_image c (operations script) unpowered image → output' ≡ tells c (operations script) unpowered image
          → Ended (gives tt) image' output'
      unfolding on_script
      plays_it image' output' h em eo =
          record {
            answer = sym (all (Unit {0}) (gives tt));
            left = em ∙ sym (ap (leaves image) (all (List ℕ) (gives (plays_image c (operations script) unpowered image))));
            tells = eo ∙ sym (ap (leaves output) (all (List ℕ) (gives (tells c (operations script) unpowered image))));
          }
        where
          all : (A : Type 0) (rest : Answer A) → tested A rest ≡ rest
          all A rest = on_image_lem c (length image) _ held.0 held.1 ∙ simp (sym eb ∙ n, eq-eqb (length output) (rows_in script * 40) h)

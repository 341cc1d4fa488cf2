-- What two boards logged alike is explained on flash. Assumes nothing.
use Prim.Native.Nat.{ℕ, ◌+◌, ◌≤◌, ◌<◌}
use mathlib.Core.Path.{◌≡◌, refl, sym, ap, ◌∙◌}
use mathlib.Core.Bool.{Bool}
use mathlib.Core.List.{List, [], ◌∷◌}
use native.Mathlib.Omega.{arith}
use lib.ListN.{length}
use Rattle.std.proofs.lemmas.List.{map-append, length-map}
use Rattle.power.specs.Pages.{PageStore, Each, last_per_page, most_lost}
use Rattle.power.specs.Lawful.{Lawful}
use Rattle.power.specs.Reading.{records_on}
use Rattle.power.specs.Life.{lives, unpowered, history}
use Rattle.power.specs.Theorem.{erased}
use Rattle.power.specs.Segments.{Split, filled, KeptPart, KeptParts, Segmented}
use Rattle.power.specs.Boards.{Behind, seen, each_seen, Aligned}
use Rattle.power.specs.Boards.{AtMost, TwoPowerOns, segments_of, Explained, ExplainedFromErased, NearAll, Lacks}
use Rattle.power.proofs.Segments.{segments_from_erased}
use Rattle.power.proofs.Aligned.{near_fronts, logs_aligned, logs_paired}

pub filled_seen : {A B : Type 0} (view : A → B) (parts : List (List A)) → filled (each_seen view parts) ≡ each_seen view (filled parts)
filled_seen view [] = refl
filled_seen view ([] ∷ parts) = filled_seen view parts
filled_seen {A} {B} view ((x ∷ xs) ∷ parts) = ap {B = List (List B)} (λ l. (view x ∷ seen view xs) ∷ l) (filled_seen view parts)

module _ {Page Record Mask : Type 0} (S : PageStore Page Record Mask) (L : Lawful S) {Key : Type 0} (view : ℕ × Record → Key) where
  module _ (most : ℕ) (few : AtMost S most) where
    last_at_most : (n : ℕ) → n ≤ most → (logged : List (ℕ × Record)) → last_per_page S n logged ≤ most
    last_at_most n h [] = h
    last_at_most n h (entry ∷ logged) = last_at_most (S.per_page (S.edition entry.1)) (few (S.edition entry.1)) logged

    at_most : (logged : List (ℕ × Record)) → most_lost S logged ≤ most
    at_most logged = last_at_most 0 (omega arith) logged

    kept_behind : (logged kept : List (ℕ × Record)) → KeptPart S logged kept → Behind most (seen view kept) (seen view logged)
    kept_behind logged kept h =
        record {
          more = seen view h.lost;
          few = omega (arith, length-map h.lost view, h.short, at_most logged);
          all = ap (seen view) h.all ∙ map-append view kept h.lost;
        }

    kept_lacks : (hist parts : List (List (ℕ × Record))) → KeptParts S hist parts → Lacks most (each_seen view hist) (each_seen view parts)
    kept_lacks [] [] h = tt
    kept_lacks [] (k ∷ parts) h = absurd h
    kept_lacks (l ∷ hist) [] h = absurd h
    kept_lacks (l ∷ hist) (k ∷ parts) h = (kept_behind l k h.0, kept_lacks hist parts h.1)

  pub two_power_ons : TwoPowerOns S view
  two_power_ons most few n logged kept logged' kept' h h' near =
      let b = kept_behind most few logged kept h in
      let b' = kept_behind most few logged' kept' h' in
      near_fronts n most (seen view logged) (seen view kept) b.more (seen view logged') (seen view kept') b'.more b.all b'.all b.few
      b'.few near

  segments_seen : (hist : List (List (ℕ × Record))) (flash : List (ℕ × Record)) (s : Segmented S hist flash)
      → filled (each_seen view s.parts) ≡ segments_of S view flash
  segments_seen hist flash s =
      filled_seen view s.parts ∙ ap (λ (x : Split (ℕ × Record)). each_seen view x.segments) (sym s.segments)

  -- of any two logs that are segmented
  pub explained : (most : ℕ) → AtMost S most → (n : ℕ) (shut_left shut_right : Bool) (hist hist' : List (List (ℕ × Record)))
      (flash flash' : List (ℕ × Record))
      → Segmented S hist flash → Segmented S hist' flash'
      → Aligned n shut_left shut_right (filled (each_seen view hist)) (filled (each_seen view hist'))
      → Explained S view (n + most) shut_left shut_right flash flash'
  explained most few n shut_left shut_right hist hist' flash flash' s s' al =
      record {
        left_begins = ap (λ (x : Split (ℕ × Record)). x.before) s.segments;
        right_begins = ap (λ (x : Split (ℕ × Record)). x.before) s'.segments;
        segments =
            rw (← segments_seen hist flash s, ← segments_seen hist' flash' s')
            (logs_aligned most n shut_left shut_right (each_seen view hist) (each_seen view s.parts) (each_seen view hist') (each_seen view s'.parts)
            (kept_lacks most few hist s.parts s.kept) (kept_lacks most few hist' s'.parts s'.kept) al);
      }

  pub explained_from_erased : ExplainedFromErased S view
  explained_from_erased most few n shut_left shut_right pages pages' life life' b b' al =
      explained most few n shut_left shut_right (history S (lives S life (unpowered S (erased S pages))))
      (history S (lives S life' (unpowered S (erased S pages'))))
      (records_on S (lives S life (unpowered S (erased S pages))).log) (records_on S (lives S life' (unpowered S (erased S pages'))).log)
      (segments_from_erased S L pages life b) (segments_from_erased S L pages' life' b') al

  pub paired : (most : ℕ) → AtMost S most → (n : ℕ) (hist hist' : List (List (ℕ × Record))) (flash flash' : List (ℕ × Record))
      → Segmented S hist flash → Segmented S hist' flash' → NearAll n (filled (each_seen view hist)) (filled (each_seen view hist'))
      → Each (λ logged. most < length logged) (filled (each_seen view hist)) → Each (λ logged. most < length logged) (filled (each_seen view hist'))
      → NearAll (n + most) (segments_of S view flash) (segments_of S view flash')
  paired most few n hist hist' flash flash' s s' near long long' =
      rw (← segments_seen hist flash s, ← segments_seen hist' flash' s')
      (logs_paired most n (each_seen view hist) (each_seen view s.parts) (each_seen view hist') (each_seen view s'.parts)
      (kept_lacks most few hist s.parts s.kept) (kept_lacks most few hist' s'.parts s'.kept) near long long')

-- A log that is shut: nothing is logged any more, and what another board goes on to log needs no counterpart. And that where neither is, no more is
-- allowed than can be lost. Assumes nothing.
use Prim.Native.Nat.{ℕ}
use mathlib.Core.Path.{◌≡◌, refl, sym, ap, ◌∙◌, subst}
use mathlib.Core.Bool.{true, false, false≢true}
use Rattle.std.specs.Prelude.{None}
use mathlib.Core.Logic.{inl, inr}
use mathlib.Core.List.{List, [], ◌∷◌, ◌++◌, append_assoc, append-nil}
use native.Mathlib.Nat.{zero-add}
use native.Mathlib.Omega.{arith}
use Rattle.std.proofs.lemmas.List.{map-append}
use Rattle.power.specs.Pages.{PageStore, Each}
use Rattle.power.specs.Lawful.{Lawful}
use Rattle.power.specs.Scan.{scan}
use Rattle.power.specs.Life.{Device, Call, offers, drains, writes, powers, power_on, call, lives, unpowered, history}
use Rattle.power.specs.Theorem.{erased}
use Rattle.power.specs.Segments.{filled}
use Rattle.power.specs.Boards.{Aligned, at_end, both, left_only, right_only, left_shut, right_shut, left_last, right_last}
use Rattle.power.specs.Boards.{Behind, Near, CommonHistory, AlignedIsSharp, ShutGoesOn, EqualAligned, ShutLogsNothing}
use Rattle.power.specs.Boards.{seen, each_seen, logged_by, ShutExplained}
use Rattle.power.proofs.Counted.{unwritable_logs_nothing, write_logs_nothing}
use Rattle.power.proofs.Theorem.{quiet_call}
use Rattle.power.proofs.Aligned.{logs_aligned}
use Rattle.power.proofs.Boards.{filled_seen, explained_from_erased}
use Rattle.power.proofs.Moments.{lives_append}

goes_on : {A : Type 0} {n : ℕ} {left right : List (List A)} (more : List (List A)) → Aligned n false true left right → Aligned n false true (left ++ more) right
goes_on more at_end = right_shut refl
goes_on more (both h al) = both h (goes_on more al)
goes_on more (left_only h al) = left_only h (goes_on more al)
goes_on more (right_only h al) = right_only h (goes_on more al)
goes_on more (left_shut e) = absurd (false≢true e)
goes_on more (right_shut e) = right_shut e
goes_on more (left_last e f) = absurd (false≢true e)
goes_on more (right_last e f) = right_last e f

pub shut_goes_on : ShutGoesOn
shut_goes_on A n left right more al = goes_on more al

pub equal_aligned : EqualAligned
equal_aligned A shut_left shut_right [] = at_end
equal_aligned A shut_left shut_right (a ∷ parts) =
    both (inl (record { more = []; few = omega arith; all = sym (append-nil a) })) (equal_aligned A shut_left shut_right parts)

-- ---- no more is allowed than can be lost

filled_some : {A : Type 0} (a : List A) (rest : List (List A)) → ¬ (a ≡ []) → filled (a ∷ rest) ≡ a ∷ filled rest
filled_some [] rest h = absurd (h refl)
filled_some (x ∷ a) rest h = refl

module _ {A : Type 0} (n : ℕ) where
  whole : (a : List A) → Behind n a a
  whole a = record { more = []; few = omega arith; all = sym (append-nil a) }

  -- one more segment of each, of a power-on that logged this
  common_both : (l a b : List A) (left right : List (List A)) → ¬ (a ≡ []) → ¬ (b ≡ []) → Behind n a l → Behind n b l → CommonHistory n left right
      → CommonHistory n (a ∷ left) (b ∷ right)
  common_both l a b left right ha hb f g c =
      record {
        hist = l ∷ c.hist;
        kept_left = a ∷ c.kept_left;
        kept_right = b ∷ c.kept_right;
        lacks_left = (f, c.lacks_left);
        lacks_right = (g, c.lacks_right);
        left_is = filled_some a c.kept_left ha ∙ ap {B = List (List A)} (λ r. a ∷ r) c.left_is;
        right_is = filled_some b c.kept_right hb ∙ ap {B = List (List A)} (λ r. b ∷ r) c.right_is;
      }

  common_near : (a b : List A) (left right : List (List A)) → ¬ (a ≡ []) → ¬ (b ≡ []) → Near n a b → CommonHistory n left right
      → CommonHistory n (a ∷ left) (b ∷ right)
  common_near a b left right ha hb (inl h) c = common_both b a b left right ha hb h (whole b) c
  common_near a b left right ha hb (inr h) c = common_both a a b left right ha hb (whole a) h c

  sharp : {left right : List (List A)} → Aligned n false false left right → Each (λ xs. ¬ (xs ≡ [])) left → Each (λ xs. ¬ (xs ≡ [])) right
      → CommonHistory n left right
  sharp at_end hl hr =
      record { hist = []; kept_left = []; kept_right = []; lacks_left = tt; lacks_right = tt; left_is = refl; right_is = refl }
  sharp (both {a} {b} {left} {right} h al) hl hr = common_near a b left right hl.0 hr.0 h (sharp al hl.1 hr.1)
  sharp (left_only {a} {left} {right} h al) hl hr =
      let c = sharp al hl.1 hr in
      record {
        hist = a ∷ c.hist;
        kept_left = a ∷ c.kept_left;
        kept_right = [] ∷ c.kept_right;
        lacks_left = (whole a, c.lacks_left);
        lacks_right = (record { more = a; few = h; all = refl }, c.lacks_right);
        left_is = filled_some a c.kept_left hl.0 ∙ ap {B = List (List A)} (λ r. a ∷ r) c.left_is;
        right_is = c.right_is;
      }
  sharp (right_only {b} {left} {right} h al) hl hr =
      let c = sharp al hl hr.1 in
      record {
        hist = b ∷ c.hist;
        kept_left = [] ∷ c.kept_left;
        kept_right = b ∷ c.kept_right;
        lacks_left = (record { more = b; few = h; all = refl }, c.lacks_left);
        lacks_right = (whole b, c.lacks_right);
        left_is = c.left_is;
        right_is = filled_some b c.kept_right hr.0 ∙ ap {B = List (List A)} (λ r. b ∷ r) c.right_is;
      }
  sharp (left_shut e) hl hr = absurd (false≢true e)
  sharp (right_shut e) hl hr = absurd (false≢true e)
  sharp (left_last e f) hl hr = absurd (false≢true e)
  sharp (right_last e f) hl hr = absurd (false≢true e)

  common_aligned : (left right : List (List A)) → CommonHistory n left right → Aligned n false false left right
  common_aligned left right c =
      rw (← c.left_is, ← c.right_is)
      (subst (λ (m : ℕ). Aligned m false false (filled c.kept_left) (filled c.kept_right)) (zero-add n)
      (logs_aligned n 0 false false c.hist c.kept_left c.hist c.kept_right c.lacks_left c.lacks_right
      (equal_aligned A false false (filled c.hist))))

pub aligned_is_sharp : AlignedIsSharp
aligned_is_sharp A n left right hl hr = (λ al. sharp n al hl hr, λ c. common_aligned n left right c)

filled_append : {A : Type 0} (a b : List (List A)) → filled (a ++ b) ≡ filled a ++ filled b
filled_append [] b = refl
filled_append ([] ∷ a) b = filled_append a b
filled_append {A} ((x ∷ xs) ∷ a) b = ap {B = List (List A)} (λ l. (x ∷ xs) ∷ l) (filled_append a b)

filled_none : {A : Type 0} (a : List (List A)) (x : List A) → x ≡ [] → filled (a ++ x ∷ []) ≡ filled a
filled_none {A} a x e = filled_append a (x ∷ []) ∙ ap (λ (y : List A). filled a ++ filled (y ∷ [])) e ∙ append-nil (filled a)

module _ {Page Record Mask : Type 0} (S : PageStore Page Record Mask) (L : Lawful S) where
  -- one call logs nothing, and no power-on that is over logged more
  record Silent (d d' : Device S) : Type 0 where
    past : filled d'.past ≡ filled d.past
    now : d'.now ≡ []

  silent_call : (c : Call S) (d : Device S) → d.writer.writable ≡ false → d.now ≡ [] → Silent d (call S c d)
  silent_call (offers r) d w e = record { past = refl; now = e }
  silent_call (drains order) d w e =
      record {
        past = refl;
        now = ap (λ (l : List (ℕ × Record)). d.now ++ l) (unwritable_logs_nothing S d order w) ∙ append-nil d.now ∙ e;
      }
  silent_call (writes g z) d w e =
      record { past = refl; now = ap (λ (l : List (ℕ × Record)). d.now ++ l) (write_logs_nothing S d g z) ∙ append-nil d.now ∙ e }
  silent_call powers d w e = record { past = filled_none d.past d.now e; now = refl }

  silent : (life : List (Call S)) (l : List Page) (d : Device S) → (scan S l).writable ≡ false → d.log ≡ l → d.writer.writable ≡ false
      → d.writer.waiting ≡ None → d.now ≡ [] → filled (history S (lives S life d)) ≡ filled d.past
  silent [] l d h e w n q = filled_none d.past d.now q
  silent (c ∷ life) l d h e w n q =
      let k = quiet_call S L c l d h e w n in
      let s = silent_call c d w q in
      silent life l (call S c d) h k.0 k.1 k.2 s.now ∙ s.past

  pub shut_logs_nothing : ShutLogsNothing S
  shut_logs_nothing d life h = silent life d.log (power_on S d) h refl h refl refl

  -- the power-ons that are over stay in the history
  grows : (life : List (Call S)) (d : Device S) → (rest : List (List (ℕ × Record))) × (history S (lives S life d) ≡ d.past ++ rest)
  grows [] d = (d.now ∷ [], refl)
  grows (offers r ∷ life) d = grows life (call S (offers r) d)
  grows (drains order ∷ life) d = grows life (call S (drains order) d)
  grows (writes g z ∷ life) d = grows life (call S (writes g z) d)
  grows (powers ∷ life) d = let i = grows life (call S powers d) in (d.now ∷ i.0, i.1 ∙ append_assoc d.past (d.now ∷ []) i.0)

  module _ {Key : Type 0} (view : ℕ × Record → Key) where
    -- the board that goes on
    went_on : (d : Device S) (more : List (Call S))
        → (rest : List (List Key)) × (logged_by S view (lives S more (power_on S d)) ≡ logged_by S view d ++ rest)
    went_on d more =
        let i = grows more (power_on S d) in (
          filled (each_seen view i.0),
          ap (λ (h : List (List (ℕ × Record))). filled (each_seen view h)) i.1 ∙ ap filled (map-append (seen view) (history S d) i.0)
              ∙ filled_append (each_seen view (history S d)) (each_seen view i.0),
        )

    -- the one that is shut
    stood_still : (d : Device S) (more : List (Call S)) → (scan S d.log).writable ≡ false
        → logged_by S view (lives S more (power_on S d)) ≡ logged_by S view d
    stood_still d more h =
        filled_seen view (history S (lives S more (power_on S d))) ∙ ap (each_seen view) (shut_logs_nothing d more h)
        ∙ sym (filled_seen view (history S d))

    pub shut_explained : ShutExplained S view
    shut_explained most few n pages pages' life more life' more' b b' off al =
        explained_from_erased S L view most few n false true pages pages' (life ++ powers ∷ more) (life' ++ powers ∷ more') b b'
        (subst (λ (x : Device S). Aligned n false true (logged_by S view x) (logged_by S view (lives S (life' ++ powers ∷ more') (unpowered S (erased S pages')))))
        (sym (lives_append S L life (powers ∷ more) (unpowered S (erased S pages))))
        (subst (λ (x : Device S). Aligned n false true (logged_by S view (lives S more (power_on S d))) (logged_by S view x))
        (sym (lives_append S L life' (powers ∷ more') (unpowered S (erased S pages'))))
        (subst (λ (l : List (List Key)). Aligned n false true l (logged_by S view (lives S more' (power_on S d')))) (sym w.1)
        (subst (λ (l : List (List Key)). Aligned n false true (logged_by S view d ++ w.0) l) (sym (stood_still d' more' off)) (goes_on w.0 al)))))
      where
        d : Device S
        d = lives S life (unpowered S (erased S pages))

        d' : Device S
        d' = lives S life' (unpowered S (erased S pages'))

        w : (rest : List (List Key)) × (logged_by S view (lives S more (power_on S d)) ≡ logged_by S view d ++ rest)
        w = went_on d more

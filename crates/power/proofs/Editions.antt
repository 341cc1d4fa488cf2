-- In a log of the strict grammar a flight has one edition: flights don't fall, and a further page of a flight is of the edition of the page
-- before it. By induction on the used pages. Assumes nothing.
use Prim.Native.Nat.{ℕ, ◌≤◌, ◌<◌}
use mathlib.Core.Path.{◌≡◌, refl, sym, ap, ◌∙◌}
use mathlib.Core.Logic.{◌⊎◌, inl, inr}
use mathlib.Core.List.{List, [], ◌∷◌, ◌++◌}
use native.Mathlib.Omega.{arith}
use native.Mathlib.Decide.{dec_lt}
use lib.ListN.{length, get_or-eq_default}
use Rattle.std.proofs.lemmas.Option.{same_Some}
use Rattle.power.specs.Pages.{Decoded, PageStore, Each, Packs}
use Rattle.power.specs.Lawful.{Lawful}
use Rattle.power.specs.Reading.{Whole, Torn, page_at}
use Rattle.power.specs.Grammar.{Ending, unused, ended, frayed, foreign, torn_more, newest, Sound, FurtherPage, NextPage, StrictRule}
use Rattle.power.specs.Grammar.{Follows, nothing_used, whole_page, torn_page, Strict}
use Rattle.power.specs.Claims.{AllOf, OneEdition}
use Rattle.power.specs.Theorem.{OneEditionFromErased}
use Rattle.power.proofs.Used.{none_some, length_snoc, at_left, at_snoc, at_all}
use Rattle.power.proofs.Theorem.{strict_from_erased}

module _ {Page Record Mask : Type 0} (S : PageStore Page Record Mask) (L : Lawful S) where
  -- past the end nothing is whole, so a whole page of one page more is one of those before, or that page
  no_page_lem : (l : List Page) (i : ℕ) (c : Decoded Record) → length l ≤ i → Whole S (page_at S l i) c → ⊥
  no_page_lem l i c h w = none_some (ap S.decode (get_or-eq_default l S.blank h) ∙ L.decode_blank) w

  whole_snoc : (l : List Page) (p : Page) (i : ℕ) (c : Decoded Record) → Whole S (page_at S (l ++ p ∷ []) i) c → Whole S (page_at S l i) c ⊎ Whole S p c
  whole_snoc l p i c w = go (dec_lt i (length l)) (dec_lt (length l) i)
    where
      go : Dec (i < length l) → Dec (length l < i) → Whole S (page_at S l i) c ⊎ Whole S p c
      go (yes h) k = inl (rw (at_left S L l (p ∷ []) i h) at w)
      go (no h) (yes k) = absurd (no_page_lem (l ++ p ∷ []) i c (omega (arith, length_snoc l p)) w)
      go (no h) (no k) = inr (rw (at_snoc S L l p i (omega arith)) at w)

  all_of : (e : S.Edition) (rows : List Record) → Each (λ r. S.Fits r × (S.edition r ≡ e)) rows → AllOf S e rows
  all_of e [] h = tt
  all_of e (r ∷ rows) h = (h.0.1, all_of e rows h.1)

  -- rows of two editions are none
  same_edition : (e f : S.Edition) (rows : List Record) → ¬ (rows ≡ []) → AllOf S e rows → AllOf S f rows → e ≡ f
  same_edition e f [] n h k = absurd (n refl)
  same_edition e f (r ∷ rows) n h k = sym h.0 ∙ k.0

  other_edition : {e f : S.Edition} (rows : List Record) → e ≡ f → AllOf S e rows → AllOf S f rows
  other_edition rows q h = rw q at h

  -- no whole page is of a later flight than the last
  abbrev Below : List Page → Ending Record → Type 0
  Below l st = Sound st → (i : ℕ) (c : Decoded Record) → Whole S (page_at S l i) c → c.flight ≤ newest st

  -- the whole pages of the last page's flight are of its edition
  abbrev Alike : List Page → Ending Record → Type 0
  Alike l unused = Unit {0}
  Alike l (ended b) =
      (e : S.Edition) × AllOf S e b.rows × ¬ (b.rows ≡ [])
      × ((i : ℕ) (c : Decoded Record) → Whole S (page_at S l i) c → c.flight ≡ b.flight → AllOf S e c.rows)
  Alike l (frayed b) = Unit {0}
  Alike l foreign = Unit {0}

  record Tidy (l : List Page) (st : Ending Record) : Type 0 where
    below : Below l st
    alike : Alike l st
    pairs : OneEdition S l

  -- a page of a flight after one of it, or of a new flight
  module _ (l : List Page) (st : Ending Record) (e : S.Edition) (g : Decoded Record) (is : Packs S e g.rows) (t : Tidy l st) where
    next_sound : NextPage S st e g.flight g.sequence → Sound st
    next_sound (inl a) = a.0
    next_sound (inr a) = further st a
      where
        further : (st' : Ending Record) → FurtherPage S st' e g.flight g.sequence → Sound st'
        further unused b = absurd b
        further (ended b) k = tt
        further (frayed b) k = absurd k
        further foreign k = k

    next_most : NextPage S st e g.flight g.sequence → newest st ≤ g.flight
    next_most (inl a) = omega (arith, a.1)
    next_most (inr a) = further st a
      where
        further : (st' : Ending Record) → FurtherPage S st' e g.flight g.sequence → newest st' ≤ g.flight
        further unused b = absurd b
        further (ended b) k = omega (arith, k.0)
        further (frayed b) k = absurd k
        further foreign k = absurd k

    -- the whole pages before it that are of its flight are of its edition
    earlier : NextPage S st e g.flight g.sequence → (i : ℕ) (c : Decoded Record) → Whole S (page_at S l i) c → c.flight ≡ g.flight
        → AllOf S e c.rows
    earlier (inl a) i c w q = absurd (omega (arith, t.below a.0 i c w, a.1))
    earlier (inr a) i c w q = further st a t.alike
      where
        further : (st' : Ending Record) → FurtherPage S st' e g.flight g.sequence → Alike l st' → AllOf S e c.rows
        further unused k h = absurd k
        further (ended b) k h =
            other_edition c.rows (same_edition h.0 e b.rows h.2 h.1 (all_of e b.rows k.3.each)) (h.3 i c w (q ∙ k.0))
        further (frayed b) k h = absurd k
        further foreign k h = absurd k

  tidy_whole : (pages : List Page) (ending : Ending Record) (page : Page) (content : Decoded Record) → Tidy pages ending → StrictRule S ending page content
      → Whole S page content → Tidy (pages ++ page ∷ []) (ended content)
  tidy_whole pages ending page content t s d =
      record {
        below = λ h i c w. below i c (whole_snoc pages page i c w);
        alike = (s.edition, own, s.some_rows, (λ i c w q. alike i c (whole_snoc pages page i c w) q));
        pairs = λ i j c g w v q. pair i j c g (whole_snoc pages page i c w) (whole_snoc pages page j g v) q;
      }
    where
      own : AllOf S s.edition content.rows
      own = all_of s.edition content.rows s.packs.each

      is : {c : Decoded Record} → Whole S page c → c ≡ content
      is w = same_Some _ _ (sym w ∙ d)

      below : (i : ℕ) (c : Decoded Record) → Whole S (page_at S pages i) c ⊎ Whole S page c → c.flight ≤ content.flight
      below i c (inl w) =
          omega (arith, t.below (next_sound pages ending s.edition content s.packs t s.next) i c w, next_most pages ending s.edition content s.packs t s.next)
      below i c (inr w) = omega (arith, ap (λ (x : Decoded Record). x.flight) (is w))

      alike : (i : ℕ) (c : Decoded Record) → Whole S (page_at S pages i) c ⊎ Whole S page c → c.flight ≡ content.flight → AllOf S s.edition c.rows
      alike i c (inl w) q = earlier pages ending s.edition content s.packs t s.next i c w q
      alike i c (inr w) q = rw (is w) own

      pair : (i j : ℕ) (c g : Decoded Record) → Whole S (page_at S pages i) c ⊎ Whole S page c → Whole S (page_at S pages j) g ⊎ Whole S page g
          → c.flight ≡ g.flight → (e : S.Edition) × AllOf S e c.rows × AllOf S e g.rows
      pair i j c g (inl w) (inl v) q = t.pairs i j c g w v q
      pair i j c g (inl w) (inr v) q = (s.edition, alike i c (inl w) (q ∙ ap (λ (x : Decoded Record). x.flight) (is v)), rw (is v) own)
      pair i j c g (inr w) (inl v) q = (s.edition, rw (is w) own, alike j g (inl v) (sym q ∙ ap (λ (x : Decoded Record). x.flight) (is w)))
      pair i j c g (inr w) (inr v) q = (s.edition, rw (is w) own, rw (is v) own)

  tidy_torn : (pages : List Page) (ending : Ending Record) (page : Page) → Tidy pages ending → Torn S page → Tidy (pages ++ page ∷ []) (torn_more ending)
  tidy_torn pages ending page t d =
      record {
        below = λ h i c w. fewer ending h i c (before i c w) t.below;
        alike = none_left ending;
        pairs = λ i j c g w v q. t.pairs i j c g (before i c w) (before j g v) q;
      }
    where
      before : (i : ℕ) (c : Decoded Record) → Whole S (page_at S (pages ++ page ∷ []) i) c → Whole S (page_at S pages i) c
      before i c w = go (whole_snoc pages page i c w)
        where
          go : Whole S (page_at S pages i) c ⊎ Whole S page c → Whole S (page_at S pages i) c
          go (inl h) = h
          go (inr h) = absurd (none_some d.0 h)

      fewer : (st : Ending Record) → Sound (torn_more st) → (i : ℕ) (c : Decoded Record) → Whole S (page_at S pages i) c → Below pages st
          → c.flight ≤ newest (torn_more st)
      fewer unused h i c w b = absurd h
      fewer (ended g) h i c w b = b tt i c w
      fewer (frayed g) h i c w b = absurd h
      fewer foreign h i c w b = absurd h

      none_left : (st : Ending Record) → Alike (pages ++ page ∷ []) (torn_more st)
      none_left unused = tt
      none_left (ended g) = tt
      none_left (frayed g) = tt
      none_left foreign = tt

  tidy : {l : List Page} {st : Ending Record} → Follows S (StrictRule S) l st → Tidy l st
  tidy nothing_used =
      record { below = λ h i c w. absurd (no_page_lem [] i c (omega arith) w); alike = tt; pairs = λ i j c d w v q. absurd (no_page_lem [] i c (omega arith) w) }
  tidy (whole_page {pages} {ending} {page} {content} u s d) = tidy_whole pages ending page content (tidy u) s d
  tidy (torn_page {pages} {ending} {page} u a d) = tidy_torn pages ending page (tidy u) d

  -- a flight of a log of the strict grammar has one edition
  pub one_edition : (log : List Page) → Strict S log → OneEdition S log
  one_edition log g i j c d w v q = (tidy g.follows).pairs i j c d (used i c w) (used j d v) q
    where
      used : (k : ℕ) (x : Decoded Record) → Whole S (page_at S log k) x → Whole S (page_at S g.used k) x
      used k x h = rw (g.split, at_all S L g.used g.rest g.blanks k) at h

  pub one_edition_from_erased : OneEditionFromErased S
  one_edition_from_erased pages some_page fits life assumed =
      one_edition _ (strict_from_erased S L pages some_page fits life assumed)

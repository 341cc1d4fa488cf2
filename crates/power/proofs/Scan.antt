-- On a log that follows the loose grammar the scan says what demand 3 claims: the halving finds the first blank page, and the verdict over
-- the used pages is foreign exactly if page 0 or the last two of them are torn. Assumes nothing.
use Prim.Native.Nat.{ℕ, zero, suc, ◌+◌, ◌-◌, ◌≤◌, ◌<◌}
use mathlib.Core.Path.{◌≡◌, refl, sym, ap, ap₂, ◌∙◌}
use mathlib.Core.Bool.{Bool, true, false, cond, false≢true}
use Rattle.std.specs.Prelude.{Option, None, Some}
use mathlib.Core.Logic.{◌⊎◌, inl, inr, ◌↔◌}
use mathlib.Core.List.{List, [], ◌∷◌, ◌++◌}
use native.Mathlib.Omega.{arith}
use lib.Dec.{ltb}
use borrow.Author.Tests.{lt-ltb}
use lib.ListN.{length, length-append}
use lib.Seq.{get_or-append-add}
use Rattle.laws.proofs.Halving.{bisecting_at}
use Rattle.power.specs.Pages.{Decoded, PageStore}
use Rattle.power.specs.Lawful.{Lawful}
use Rattle.power.specs.Reading.{ScanAnswer, foreign_answer, Blanks, Whole, Torn, page_at, first_blank, flight_or, newest_after, newest_flight}
use Rattle.power.specs.Grammar.{Ending, unused, ended, frayed, foreign, torn_more, newest, Sound, LooseRule, Follows, nothing_used, whole_page}
use Rattle.power.specs.Grammar.{torn_page, Loose}
use Rattle.power.specs.Claims.{ForeignLog, ScanSays}
use Rattle.power.specs.Scan.{flight_of, own_flight, page_flight, used_pages, if_begun, appending, verdict, scan}
use Rattle.power.proofs.Used.{none_some, length_snoc, blanks_at, at_all, at_left, at_snoc, flight_left}
use Rattle.power.proofs.Used.{blank_yes, blank_no, used_not_blank, last, none_used, unused_none, last_shown, begun}

module _ {Page Record Mask : Type 0} (S : PageStore Page Record Mask) (L : Lawful S) where
  -- the first blank page, by halving and by reading
  module _ {l : List Page} {st : Ending Record} (u : Follows S (LooseRule S) l st) (m : List Page) (b : Blanks S m) where
    used_point : used_pages S (l ++ m) ≡ length l
    used_point =
        bisecting_at (λ i. S.is_blank (page_at S (l ++ m) i)) (length (l ++ m)) (length l)
        (record { within = omega (arith, length-append l m); fails = low; passes = up })
      where
        low : (i : ℕ) → i < length l → S.is_blank (page_at S (l ++ m) i) ≡ false
        low i h = blank_no S L (page_at S (l ++ m) i) (rw (at_left S L l m i h) (used_not_blank S L u i h))

        up : (i : ℕ) → length l ≤ i → i < length (l ++ m) → S.is_blank (page_at S (l ++ m) i) ≡ true
        up i h k = blank_yes S L (page_at S (l ++ m) i) (ap (page_at S (l ++ m)) e ∙ get_or-append-add l m (i - length l) S.blank ∙ blanks_at S L m b (i - length l))
          where
            e : i ≡ length l + (i - length l)
            e = omega arith

  blanks_first : (l m : List Page) → ((i : ℕ) → i < length l → ¬ (page_at S l i ≡ S.blank)) → Blanks S m → first_blank S (l ++ m) ≡ length l
  blanks_first [] [] h b = refl
  blanks_first [] (p ∷ m) h b = rw (blank_yes S L p b.0) refl
  blanks_first (p ∷ l) m h b = rw (blank_no S L p (h 0 (omega arith)), blanks_first l m (λ i q. h (suc i) (omega arith)) b) refl

  pub first_blank_lem : {l : List Page} {st : Ending Record} → Follows S (LooseRule S) l st → (m : List Page) → Blanks S m → first_blank S (l ++ m) ≡ length l
  first_blank_lem {l} u m b = blanks_first l m (used_not_blank S L u) b

  -- the verdict, by the ending
  abbrev pub verdict_of : Ending Record → ℕ → ℕ → ScanAnswer
  verdict_of unused used count = record { page = 0; flight = 1; writable = true }
  verdict_of (ended c) used count = record { page = used; flight = S.flight_after c.flight; writable = ltb used count }
  verdict_of (frayed c) used count = record { page = used; flight = S.flight_after c.flight; writable = ltb used count }
  verdict_of foreign used count = foreign_answer

  begun_foreign : (o : Option ℕ) → if_begun S o foreign_answer ≡ foreign_answer
  begun_foreign None = refl
  begun_foreign (Some f) = refl

  verdict_sound : (l m : List Page) (k f : ℕ) (c₀ : Decoded Record) → length l ≡ suc k → Whole S (page_at S l 0) c₀ → page_flight S l k ≡ Some f
      → verdict S (l ++ m) (suc k) ≡ record { page = suc k; flight = S.flight_after f; writable = ltb (suc k) (length (l ++ m)) }
  verdict_sound l m k f c₀ h d e =
      ap₂ (λ (o n : Option ℕ). if_begun S o (appending S (l ++ m) (suc k) n))
      (ap (λ (p : Page). flight_of S (S.decode p)) (at_left S L l m 0 (omega arith)) ∙ ap (flight_of S) d) (flight_left S L l m k (omega arith) ∙ e)

  verdict_at : {l : List Page} (st : Ending Record) → Follows S (LooseRule S) l st → (m : List Page) (k : ℕ) → length l ≡ k
      → verdict S (l ++ m) k ≡ verdict_of st k (length (l ++ m))
  verdict_at {l} unused u m zero h = refl
  verdict_at {l} unused u m (suc k) h = absurd (last S L u k h)
  verdict_at {l} (ended c) u m zero h = absurd (none_used S L u h)
  verdict_at {l} (ended c) u m (suc k) h = verdict_sound l m k c.flight (begun S L u).0 h (begun S L u).1 (last_shown S L u k h)
  verdict_at {l} (frayed c) u m zero h = absurd (none_used S L u h)
  verdict_at {l} (frayed c) u m (suc k) h = verdict_sound l m k c.flight (begun S L u).0 h (begun S L u).1 (last_shown S L u k h)
  verdict_at {l} foreign u m zero h = absurd (none_used S L u h)
  verdict_at {l} foreign u m (suc k) h =
      ap (λ (n : Option ℕ). if_begun S (own_flight S (l ++ m) 0) (appending S (l ++ m) (suc k) n)) (flight_left S L l m k (omega arith) ∙ last_shown S L u k h)
      ∙ begun_foreign (own_flight S (l ++ m) 0)

  pub scan_is : {l : List Page} {st : Ending Record} → Follows S (LooseRule S) l st → (m : List Page) → Blanks S m
      → scan S (l ++ m) ≡ verdict_of st (length l) (length (l ++ m))
  scan_is {l} {st} u m b = rw (used_point u m b) (verdict_at st u m (length l) refl)

  -- the ending is foreign exactly if page 0 or the last two used pages are torn
  abbrev pub Alien : Ending Record → Type 0
  Alien unused = ⊥
  Alien (ended c) = ⊥
  Alien (frayed c) = ⊥
  Alien foreign = Unit {0}

  -- the pages that make a log of k used pages foreign
  abbrev Broken : List Page → ℕ → Type 0
  Broken l k = Torn S (page_at S l 0) ⊎ ((i : ℕ) × (k ≡ suc (suc i)) × Torn S (page_at S l i) × Torn S (page_at S l (suc i)))

  torn_broken : (l : List Page) (p : Page) (st : Ending Record) → Follows S (LooseRule S) l st → Sound st → Torn S p → Alien (torn_more st) → (k : ℕ)
      → length l ≡ k → Broken (l ++ p ∷ []) (suc k)
  torn_broken [] p unused u a t z k h = inl t
  torn_broken (q ∷ l) p unused u a t z k h = absurd (last S L u (length l) refl)
  torn_broken l p (ended g) u a t z k h = absurd z
  torn_broken l p (frayed g) u a t z zero h = absurd (none_used S L u h)
  torn_broken l p (frayed g) u a t z (suc k) h =
      inr (k, refl, rw (at_left S L l (p ∷ []) k (omega arith)) (last S L u k h, used_not_blank S L u k (omega arith)), rw (at_snoc S L l p (suc k) (sym h)) t)
  torn_broken l p foreign u a t z k h = absurd a

  to_broken : {l : List Page} {st : Ending Record} → Follows S (LooseRule S) l st → Alien st → Broken l (length l)
  to_broken nothing_used z = absurd z
  to_broken (whole_page u a d) z = absurd z
  to_broken (torn_page {pages} {ending} {page} u a t) z = rw (length_snoc pages page) (torn_broken pages page ending u a t z (length pages) refl)

  from_broken : (l : List Page) (st : Ending Record) → Follows S (LooseRule S) l st → Broken l (length l) → Alien st
  from_broken l foreign u h = tt
  from_broken [] unused u (inl t) = t.1 refl
  from_broken (q ∷ l) unused u (inl t) = absurd (last S L u (length l) refl)
  from_broken l (ended c) u (inl t) = none_some t.0 (begun S L u).1
  from_broken l (frayed c) u (inl t) = none_some t.0 (begun S L u).1
  from_broken l unused u (inr t) = absurd (last S L u (suc t.0) t.1)
  from_broken l (ended c) u (inr t) = none_some t.3.0 (last S L u (suc t.0) t.1)
  from_broken l (frayed c) u (inr t) = none_some unread (last_shown S L u (suc t.0) t.1)
    where
      unread : page_flight S l (suc t.0) ≡ None
      unread = rw (t.3.0, t.2.0) refl

  broken_left : (l m : List Page) (k : ℕ) → Blanks S m → Broken (l ++ m) k → Broken l k
  broken_left l m k b (inl t) = inl (rw (at_all S L l m b 0) at t)
  broken_left l m k b (inr t) = inr (t.0, t.1, rw (at_all S L l m b t.0) at t.2, rw (at_all S L l m b (suc t.0)) at t.3)

  broken_right : (l m : List Page) (k : ℕ) → Blanks S m → Broken l k → Broken (l ++ m) k
  broken_right l m k b (inl t) = inl (rw (at_all S L l m b 0) t)
  broken_right l m k b (inr t) = inr (t.0, t.1, rw (at_all S L l m b t.0) t.2, rw (at_all S L l m b (suc t.0)) t.3)

  pub foreign_is : {l : List Page} {st : Ending Record} → Follows S (LooseRule S) l st → (m : List Page) → Blanks S m → ForeignLog S (l ++ m) ↔ Alien st
  foreign_is {l} {st} u m b =
      rw (first_blank_lem u m b) (λ y. from_broken l st u (broken_left l m (length l) b y), λ y. broken_right l m (length l) b (to_broken u y))

  -- the newest flight, by reading and by the ending
  newest_append : (g : ℕ) (l m : List Page) → newest_after S g (l ++ m) ≡ newest_after S (newest_after S g l) m
  newest_append g [] m = refl
  newest_append g (p ∷ l) m = newest_append (flight_or S (S.decode p) g) l m

  pub newest_blanks : (g : ℕ) (m : List Page) → Blanks S m → newest_after S g m ≡ g
  newest_blanks g [] b = refl
  newest_blanks g (p ∷ m) b = rw (b.0, L.decode_blank) (newest_blanks g m b.1)

  abbrev Newest : Ending Record → ℕ → Type 0
  Newest unused g = g ≡ 0
  Newest (ended c) g = g ≡ c.flight
  Newest (frayed c) g = g ≡ c.flight
  Newest foreign g = Unit {0}

  newest_torn : (st : Ending Record) (g : ℕ) → Newest st g → Newest (torn_more st) g
  newest_torn unused g h = tt
  newest_torn (ended f) g h = h
  newest_torn (frayed f) g h = tt
  newest_torn foreign g h = tt

  newest_is : {l : List Page} {st : Ending Record} → Follows S (LooseRule S) l st → Newest st (newest_flight S l)
  newest_is nothing_used = refl
  newest_is (whole_page {pages} {ending} {page} u a d) = rw (newest_append 0 pages (page ∷ []), d) refl
  newest_is (torn_page {pages} {ending} {page} u a t) = rw (newest_append 0 pages (page ∷ []), t.0) (newest_torn ending (newest_flight S pages) (newest_is u))

  newest_low : (st : Ending Record) (g : ℕ) → Newest st g → newest st ≤ g
  newest_low unused g h = omega arith
  newest_low (ended c) g h = omega arith
  newest_low (frayed c) g h = omega arith
  newest_low foreign g h = omega arith

  pub newest_read : {l : List Page} {st : Ending Record} → Follows S (LooseRule S) l st → (m : List Page) → Blanks S m → newest st ≤ newest_flight S (l ++ m)
  newest_read {l} {st} u m b = newest_low st (newest_flight S (l ++ m)) (rw (newest_append 0 l m, newest_blanks (newest_flight S l) m b) (newest_is u))

  abbrev Used : Ending Record → ℕ → Type 0
  Used unused k = k ≡ 0
  Used (ended c) k = 0 < k
  Used (frayed c) k = 0 < k
  Used foreign k = Unit {0}

  used_is : {l : List Page} (st : Ending Record) → Follows S (LooseRule S) l st → (k : ℕ) → length l ≡ k → Used st k
  used_is unused u k h = unused_none S L u k h
  used_is (ended c) u zero h = absurd (none_used S L u h)
  used_is (ended c) u (suc k) h = omega arith
  used_is (frayed c) u zero h = absurd (none_used S L u h)
  used_is (frayed c) u (suc k) h = omega arith
  used_is foreign u k h = tt

  -- a verdict that isn't the foreign one: its page is not 0, or it is writable
  sound_says : (c : Decoded Record) (k g count : ℕ) (B : Type 0) → (B → ⊥) → g ≡ c.flight → 0 < k → c.flight < S.limit
      → (◌≡◌ {A = ScanAnswer} (record { page = k; flight = S.flight_after c.flight; writable = ltb k count }) foreign_answer ↔ B)
      × (¬ B
      → ◌≡◌ {A = ScanAnswer} (record { page = k; flight = S.flight_after c.flight; writable = ltb k count })
      (record { page = k; flight = suc g; writable = ltb k count }))
  sound_says c k g count B ne e p h =
      ((λ q. absurd (zero_not (ap (λ (x : ScanAnswer). x.page) q)), λ y. absurd (ne y)), λ y. rw (e, L.flight_after_lem c.flight h) refl)
    where
      zero_not : k ≡ 0 → ⊥
      zero_not q = omega arith

  says_by : (st : Ending Record) (k g count : ℕ) (B : Type 0) → B ↔ Alien st → Newest st g → Used st k → newest st < S.limit → 0 < count
      → (verdict_of st k count ≡ foreign_answer ↔ B) × (¬ B → verdict_of st k count ≡ record { page = k; flight = suc g; writable = ltb k count })
  says_by unused k g count B e s p h z =
      ((λ q. absurd (false≢true (sym (ap (λ (x : ScanAnswer). x.writable) q))), λ y. absurd (e.0 y)), λ y. rw (p, s, lt-ltb 0 count z) refl)
  says_by (ended c) k g count B e s p h z = sound_says c k g count B e.0 s p h
  says_by (frayed c) k g count B e s p h z = sound_says c k g count B e.0 s p h
  says_by foreign k g count B e s p h z = ((λ q. e.1 tt, λ y. refl), λ y. absurd (y (e.1 tt)))

  says : (l m : List Page) (st : Ending Record) → Follows S (LooseRule S) l st → Blanks S m → newest st < S.limit → 0 < length (l ++ m)
      → ScanSays S (l ++ m) (scan S (l ++ m))
  says l m st u b h z = record { foreign = rw (← answer) at both.0; otherwise = rw (← answer, ← first_blank_lem u m b) at both.1 }
    where
      answer : scan S (l ++ m) ≡ verdict_of st (length l) (length (l ++ m))
      answer = scan_is u m b

      both : (verdict_of st (length l) (length (l ++ m)) ≡ foreign_answer ↔ ForeignLog S (l ++ m))
          × (¬ ForeignLog S (l ++ m)
          → verdict_of st (length l) (length (l ++ m))
          ≡ record { page = length l; flight = suc (newest_flight S (l ++ m)); writable = ltb (length l) (length (l ++ m)) })
      both =
          says_by st (length l) (newest_flight S (l ++ m)) (length (l ++ m)) (ForeignLog S (l ++ m)) (foreign_is u m b)
          (rw (newest_append 0 l m, newest_blanks (newest_flight S l) m b) (newest_is u)) (used_is st u (length l) refl) h z

  -- of a log that follows the loose grammar: the halving finds the first blank page, and no page below it is blank
  pub used_first : (l : List Page) → Loose S l → used_pages S l ≡ first_blank S l
  used_first l w = rw w.split (used_point w.follows w.rest w.blanks ∙ sym (first_blank_lem w.follows w.rest w.blanks))

  pub used_below : (l : List Page) → Loose S l → (i : ℕ) → i < first_blank S l → ¬ (page_at S l i ≡ S.blank)
  used_below l w i h = rw (w.split, at_left S L w.used w.rest i within) (used_not_blank S L w.follows i within)
    where
      within : i < length w.used
      within = rw (w.split, first_blank_lem w.follows w.rest w.blanks) at h

  -- at the first blank page, or past the end, nothing was written
  pub blank_at_first : (l : List Page) → page_at S l (first_blank S l) ≡ S.blank
  blank_at_first [] = refl
  blank_at_first (p ∷ l) = go (S.is_blank p) refl (blank_at_first l)
    where
      go : (z : Bool) → S.is_blank p ≡ z → page_at S l (first_blank S l) ≡ S.blank → page_at S (p ∷ l) (cond z 0 (suc (first_blank S l))) ≡ S.blank
      go true e h = (L.blank_told p).0 e
      go false e h = h

  -- (c) of a log that follows the loose grammar
  pub scan_says : (l : List Page) (w : Loose S l) → newest w.ending < S.limit → 0 < length l → ScanSays S l (scan S l)
  scan_says l w h z = rw w.split (says w.used w.rest w.ending w.follows w.blanks h (rw w.split at z))

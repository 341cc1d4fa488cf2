-- What is known of used pages that follow the loose grammar: none is blank, what the last one is, which flight it counts with, and that
-- page 0 is whole unless the log is foreign. By induction on the pages. Assumes nothing.
use Prim.Native.Nat.{ℕ, zero, suc, ◌<◌}
use mathlib.Core.Path.{◌≡◌, refl, sym, ap, ap₂, ◌∙◌}
use mathlib.Core.Bool.{Bool, true, false, false≢true}
use Rattle.std.specs.Prelude.{Option, None, Some}
use mathlib.Core.List.{List, [], ◌∷◌, ◌++◌, append_assoc}
use native.Mathlib.Omega.{arith}
use native.Mathlib.Decide.{dec_lt}
use lib.ListN.{length, length-append, get_or-append}
use lib.Seq.{get_or_at}
use Rattle.power.specs.Pages.{Decoded, PageStore}
use Rattle.power.specs.Lawful.{Lawful}
use Rattle.power.specs.Reading.{Blanks, Whole, page_at, records_of, records_on}
use Rattle.power.specs.Grammar.{Ending, unused, ended, frayed, foreign, torn_more, Sound, NotFalling, LooseRule, Follows, nothing_used}
use Rattle.power.specs.Grammar.{whole_page, torn_page, LogBy}
use Rattle.power.specs.Scan.{flight_of, or_else, page_flight}

-- an answer is not both there and not there
pub none_some : {A : Type 0} {d : Option A} {a : A} → d ≡ None → d ≡ Some a → ⊥
none_some {A} {d} {a} p q = let z : ◌≡◌ {A = ℕ} 0 1 = cc in omega arith

-- a list with one more element
pub length_snoc : {A : Type 0} (l : List A) (x : A) → length (l ++ x ∷ []) ≡ suc (length l)
length_snoc l x = omega (arith, length-append l (x ∷ []))

-- what the last used page is, by the ending
abbrev pub Last : {Record : Type 0} → Ending Record → Option (Decoded Record) → Type 0
Last unused d = ⊥
Last (ended c) d = d ≡ Some c
Last (frayed c) d = d ≡ None
Last foreign d = d ≡ None

-- nothing is used
abbrev pub NoneUsed : {Record : Type 0} → Ending Record → Type 0
NoneUsed unused = Unit {0}
NoneUsed (ended c) = ⊥
NoneUsed (frayed c) = ⊥
NoneUsed foreign = ⊥

-- the flight that the last used page counts with
abbrev pub shown : {Record : Type 0} → Ending Record → Option ℕ
shown unused = None
shown (ended c) = Some c.flight
shown (frayed c) = Some c.flight
shown foreign = None

-- unless the log is foreign, page 0 is whole
abbrev pub Begun : {Record : Type 0} → Ending Record → Option (Decoded Record) → Type 0
Begun unused d = Unit {0}
Begun {Record} (ended g) d = (c : Decoded Record) × (d ≡ Some c)
Begun {Record} (frayed g) d = (c : Decoded Record) × (d ≡ Some c)
Begun foreign d = Unit {0}

module _ {Page Record Mask : Type 0} (S : PageStore Page Record Mask) (L : Lawful S) where
  pub records_append : (l m : List Page) → records_on S (l ++ m) ≡ records_on S l ++ records_on S m
  records_append [] m = refl
  records_append (p ∷ l) m = rw (records_append l m) (sym (append_assoc (records_of S (S.decode p)) (records_on S l) (records_on S m)))

  pub records_blanks : (l : List Page) → Blanks S l → records_on S l ≡ []
  records_blanks [] b = refl
  records_blanks (p ∷ l) b = rw (b.0, L.decode_blank) (records_blanks l b.1)

  pub blanks_at : (m : List Page) → Blanks S m → (j : ℕ) → page_at S m j ≡ S.blank
  blanks_at [] b j = refl
  blanks_at (c ∷ m) b zero = b.0
  blanks_at (c ∷ m) b (suc j) = blanks_at m b.1 j

  -- behind used pages and blank ones there are the same pages as behind the used ones
  pub at_all : (l m : List Page) → Blanks S m → (i : ℕ) → page_at S (l ++ m) i ≡ page_at S l i
  at_all [] m b i = blanks_at m b i
  at_all (p ∷ l) m b zero = refl
  at_all (p ∷ l) m b (suc i) = at_all l m b i

  pub at_left : (l m : List Page) (i : ℕ) → i < length l → page_at S (l ++ m) i ≡ page_at S l i
  at_left l m i h = get_or-append l m S.blank i h

  pub at_snoc : (l : List Page) (p : Page) (i : ℕ) → i ≡ length l → page_at S (l ++ p ∷ []) i ≡ p
  at_snoc l p i h = get_or_at l p [] S.blank i (sym h)

  pub flight_left : (l m : List Page) (k : ℕ) → k < length l → page_flight S (l ++ m) k ≡ page_flight S l k
  flight_left l m zero h = ap (λ (p : Page). flight_of S (S.decode p)) (at_left l m zero h)
  flight_left l m (suc k) h =
      ap₂ (λ (p q : Page). or_else S (flight_of S (S.decode p)) (flight_of S (S.decode q))) (at_left l m (suc k) h) (at_left l m k (omega arith))

  -- a page that decodes has its own flight, and is not blank
  pub flight_own : (l : List Page) (k : ℕ) (c : Decoded Record) → Whole S (page_at S l k) c → page_flight S l k ≡ Some c.flight
  flight_own l zero c d = rw d refl
  flight_own l (suc k) c d = rw d refl

  pub whole_not_blank : {p : Page} {c : Decoded Record} → Whole S p c → ¬ (p ≡ S.blank)
  whole_not_blank {p} {c} d b = none_some (ap S.decode b ∙ L.decode_blank) d

  pub blank_yes : (p : Page) → p ≡ S.blank → S.is_blank p ≡ true
  blank_yes p e = (L.blank_told p).1 e

  pub blank_no : (p : Page) → ¬ (p ≡ S.blank) → S.is_blank p ≡ false
  blank_no p e = go (S.is_blank p) refl
    where
      go : (b : Bool) → S.is_blank p ≡ b → S.is_blank p ≡ false
      go true h = absurd (e ((L.blank_told p).0 h))
      go false h = h

  -- whether a page is the blank one can be told
  pub blank? : (p : Page) → Dec (p ≡ S.blank)
  blank? p = go (S.is_blank p) refl
    where
      go : (b : Bool) → S.is_blank p ≡ b → Dec (p ≡ S.blank)
      go true h = yes ((L.blank_told p).0 h)
      go false h = no (λ e. false≢true (sym h ∙ blank_yes p e))

  -- what holds of each page of a log, and of one more, holds of each page with that one
  each_snoc : (P : Page → Type 0) (l : List Page) (p : Page) → ((i : ℕ) → i < length l → P (page_at S l i)) → P p → (i : ℕ) → i < length (l ++ p ∷ [])
      → P (page_at S (l ++ p ∷ []) i)
  each_snoc P l p a b i h = go (dec_lt i (length l))
    where
      go : Dec (i < length l) → P (page_at S (l ++ p ∷ []) i)
      go (yes q) = rw (at_left l (p ∷ []) i q) (a i q)
      go (no q) = rw (at_snoc l p i (omega (arith, length_snoc l p))) b

  pub used_not_blank : {l : List Page} {st : Ending Record} → Follows S (LooseRule S) l st → (i : ℕ) → i < length l → ¬ (page_at S l i ≡ S.blank)
  used_not_blank nothing_used i h = absurd (omega arith)
  used_not_blank (whole_page {pages} {ending} {page} u a d) i h =
      each_snoc (λ q. ¬ (q ≡ S.blank)) pages page (λ j q. used_not_blank u j q) (whole_not_blank d) i h
  used_not_blank (torn_page {pages} {ending} {page} u a t) i h = each_snoc (λ q. ¬ (q ≡ S.blank)) pages page (λ j q. used_not_blank u j q) t.1 i h

  last_torn : (st : Ending Record) (d : Option (Decoded Record)) → d ≡ None → Last (torn_more st) d
  last_torn unused d e = e
  last_torn (ended g) d e = e
  last_torn (frayed g) d e = e
  last_torn foreign d e = e

  pub last : {l : List Page} {st : Ending Record} → Follows S (LooseRule S) l st → (k : ℕ) → length l ≡ suc k → Last st (S.decode (page_at S l k))
  last nothing_used k h = omega arith
  last (whole_page {pages} {ending} {page} u a d) k h = rw (at_snoc pages page k (omega (arith, length_snoc pages page))) d
  last (torn_page {pages} {ending} {page} u a t) k h =
      last_torn ending (S.decode (page_at S (pages ++ page ∷ []) k)) (rw (at_snoc pages page k (omega (arith, length_snoc pages page))) t.0)

  pub none_used : {l : List Page} {st : Ending Record} → Follows S (LooseRule S) l st → length l ≡ 0 → NoneUsed st
  none_used nothing_used h = tt
  none_used (whole_page {pages} {ending} {page} u a d) h = omega (arith, length_snoc pages page)
  none_used (torn_page {pages} {ending} {page} u a t) h = absurd (omega (arith, length_snoc pages page))

  pub unused_none : {l : List Page} → Follows S (LooseRule S) l unused → (k : ℕ) → length l ≡ k → k ≡ 0
  unused_none u zero h = refl
  unused_none u (suc k) h = absurd (last u k h)

  torn_shown : (l : List Page) (st : Ending Record) (p : Page) → Follows S (LooseRule S) l st → Sound st → S.decode p ≡ None → (k : ℕ) → length l ≡ k
      → page_flight S (l ++ p ∷ []) k ≡ shown (torn_more st)
  torn_shown l unused p u a d zero h = rw (at_snoc l p 0 (omega arith), d) refl
  torn_shown l unused p u a d (suc k) h = absurd (last u k h)
  torn_shown l (ended g) p u a d zero h = absurd (none_used u h)
  torn_shown l (ended g) p u a d (suc k) h = rw (at_snoc l p (suc k) (omega arith), d, at_left l (p ∷ []) k (omega arith), last u k h) refl
  torn_shown l (frayed g) p u a d zero h = absurd (none_used u h)
  torn_shown l (frayed g) p u a d (suc k) h = rw (at_snoc l p (suc k) (omega arith), d, at_left l (p ∷ []) k (omega arith), last u k h) refl
  torn_shown l foreign p u a d k h = absurd a

  pub last_shown : {l : List Page} {st : Ending Record} → Follows S (LooseRule S) l st → (k : ℕ) → length l ≡ suc k → page_flight S l k ≡ shown st
  last_shown nothing_used k h = absurd (omega arith)
  last_shown (whole_page {pages} {ending} {page} {content} u a d) k h =
      flight_own (pages ++ page ∷ []) k content (rw (at_snoc pages page k (omega (arith, length_snoc pages page))) d)
  last_shown (torn_page {pages} {ending} {page} u a t) k h = torn_shown pages ending page u a t.0 k (omega (arith, length_snoc pages page))

  begun_torn : (l : List Page) (p : Page) (st : Ending Record) → Follows S (LooseRule S) l st → Begun st (S.decode (page_at S l 0))
      → Begun (torn_more st) (S.decode (page_at S (l ++ p ∷ []) 0))
  begun_torn l p unused u b = tt
  begun_torn [] p (ended g) u b = absurd (none_used u refl)
  begun_torn (q ∷ l) p (ended g) u b = b
  begun_torn l p (frayed g) u b = tt
  begun_torn l p foreign u b = tt

  begun_whole : (l : List Page) (p : Page) (st : Ending Record) (c : Decoded Record) → Follows S (LooseRule S) l st → NotFalling st c
      → S.decode p ≡ Some c → Begun st (S.decode (page_at S l 0)) → Begun (ended c) (S.decode (page_at S (l ++ p ∷ []) 0))
  begun_whole [] p st c u a d b = (c, d)
  begun_whole (q ∷ l) p unused c u a d b = absurd (last u (length l) refl)
  begun_whole (q ∷ l) p (ended h) c u a d b = b
  begun_whole (q ∷ l) p (frayed h) c u a d b = b
  begun_whole (q ∷ l) p foreign c u a d b = absurd a

  pub begun : {l : List Page} {st : Ending Record} → Follows S (LooseRule S) l st → Begun st (S.decode (page_at S l 0))
  begun nothing_used = tt
  begun (whole_page {pages} {ending} {page} {content} u a d) = begun_whole pages page ending content u a d (begun u)
  begun (torn_page {pages} {ending} {page} u a t) = begun_torn pages page ending u (begun u)

  -- a stricter rule has fewer logs
  pub follows_map : {Rule Rule' : Ending Record → Page → Decoded Record → Type 0}
      → ((st : Ending Record) (p : Page) (c : Decoded Record) → Rule st p c → Rule' st p c) → {l : List Page} {st : Ending Record}
      → Follows S Rule l st → Follows S Rule' l st
  follows_map f nothing_used = nothing_used
  follows_map f (whole_page {pages} {ending} {page} {content} u a d) = whole_page (follows_map f u) (f ending page content a) d
  follows_map f (torn_page u a t) = torn_page (follows_map f u) a t

  abbrev pub log_map : {Rule Rule' : Ending Record → Page → Decoded Record → Type 0}
      → ((st : Ending Record) (p : Page) (c : Decoded Record) → Rule st p c → Rule' st p c) → {l : List Page} → LogBy S Rule l → LogBy S Rule' l
  log_map f g = record { used = g.used; rest = g.rest; ending = g.ending; follows = follows_map f g.follows; blanks = g.blanks; split = g.split }

-- The invariant of a life. The log is used pages by a rule, then blank ones, but for the cell of a page that waits: that is blank or a stage of
-- its own programming. The records on flash are those of the power-ons before and the kept part of this one; what is not on flash is in the
-- writer, and it is at most the rows of one page, since a page that waits means no rows. When power goes the same holds with the writer
-- gone (`settle`). The rule is any that has our writer's pages and keeps flights from falling. Assumes nothing.
use Prim.Native.Nat.{ℕ, suc, ◌+◌, ◌≤◌, ◌<◌}
use mathlib.Core.Path.{◌≡◌, refl, sym, ap, ◌∙◌}
use mathlib.Core.Bool.{Bool, true, false}
use Rattle.std.specs.Prelude.{None, Some}
use mathlib.Core.Logic.{◌⊎◌, inl, inr}
use mathlib.Core.List.{List, [], ◌∷◌, ◌++◌, append_assoc, append-nil}
use native.Mathlib.Omega.{arith}
use lib.ListN.{length, length-append}
use lib.Seq.{append_snoc}
use Rattle.power.specs.Pages.{Decoded, PageStore, in_flight, Packs, full}
use Rattle.power.specs.Lawful.{Lawful}
use Rattle.power.specs.Reading.{Blanks, Whole, Torn, records_on}
use Rattle.power.specs.Grammar.{Ending, unused, ended, frayed, foreign, torn_more, newest, Sound, FurtherPage, NextPage, LooseRule}
use Rattle.power.specs.Grammar.{StrictRule, Follows, whole_page, torn_page}
use Rattle.power.specs.Claims.{Kept}
use Rattle.power.specs.Life.{Undecoded}
use Rattle.power.proofs.Used.{length_snoc, records_append, blank?}
use Rattle.power.proofs.Packing.{Short, short_none, short_page}

module _ {Page Record Mask : Type 0} (S : PageStore Page Record Mask) (L : Lawful S) where
  -- what the writer is about: nothing, since it is not writable; it waits for a flight; it fills a page (flight, sequence, edition, rows);
  -- it holds a page that is to be written (flight, next sequence, edition, whether the flight is still recorded)
  pub data Phase : Type 0 where
    off : Phase
    idle : Phase
    filling : ℕ → ℕ → S.Edition → List Record → Phase
    holding : ℕ → ℕ → S.Edition → Bool → Page → Phase

  -- the pages behind the used ones, while a page waits: its cell becomes the page when it is programmed, and doesn't decode before
  abbrev pub Tail : Page → List Page → Type 0
  Tail page [] = Unit {0}
  Tail page (cell ∷ rest) = (S.programmed cell page S.clean ≡ page) × Undecoded S (Some (page, cell)) × Blanks S rest

  pub tail_of_blanks : (page : Page) (l : List Page) → S.programmed S.blank page S.clean ≡ page → Blanks S l → Tail page l
  tail_of_blanks page [] e b = tt
  tail_of_blanks page (c ∷ r) e b = (rw b.0 e, inl (rw b.0 L.decode_blank), b.1)

  -- what holds in each phase: of the used pages and their ending, the pages behind, the next page and flight, and what is only in memory
  pub record Idle (st : Ending Record) (base more : List Page) (nx nf : ℕ) (mem : List (ℕ × Record)) : Type 0 where
    pub blanks : Blanks S more
    pub here : nx ≡ length base
    pub sound : Sound st
    pub next_flight_lem : nf ≡ suc (newest st)
    pub memory : mem ≡ []

  pub record Filling (f s : ℕ) (e : S.Edition) (rows : List Record) (st : Ending Record) (base more : List Page) (nx nf : ℕ)
      (mem : List (ℕ × Record)) : Type 0 where
    pub blanks : Blanks S more
    pub here : nx ≡ length base
    pub place : NextPage S st e f s
    pub next_flight_lem : nf ≡ suc f
    pub packs : Packs S e rows
    pub unfilled : full S e rows ≡ false
    pub memory : mem ≡ in_flight f rows
    pub small : f < S.limit
    pub few : s ≤ length base

  pub record Holding (f sq : ℕ) (e : S.Edition) (recording : Bool) (page : Page) (st : Ending Record) (base more : List Page) (nx nf : ℕ)
      (mem : List (ℕ × Record)) : Type 0 where
    pub tail : Tail page more
    pub here : nx ≡ length base
    pub number : ℕ
    pub rows : List Record
    pub encoded : page ≡ S.encode f number rows
    pub place : NextPage S st e f number
    pub next_flight_lem : nf ≡ suc f
    pub next_sequence : sq ≡ suc number
    pub packs : Packs S e rows
    pub some_rows : ¬ (rows ≡ [])
    pub filled : recording ≡ true → full S e rows ≡ true
    pub memory : mem ≡ in_flight f rows
    pub small : f < S.limit
    pub few : number ≤ length base

  -- a flight that is recorded has a row or a page already
  abbrev pub Begun : ℕ → ℕ → S.Edition → List Record → Ending Record → Type 0
  Begun f s e rows st = FurtherPage S st e f s ⊎ ¬ (rows ≡ [])

  abbrev pub Stands : Phase → Ending Record → List Page → List Page → ℕ → ℕ → List (ℕ × Record) → Type 0
  Stands off st base more nx nf mem = Blanks S more × Short S L mem
  Stands idle st base more nx nf mem = Idle st base more nx nf mem
  Stands (filling f s e rows) st base more nx nf mem = Filling f s e rows st base more nx nf mem × Begun f s e rows st
  Stands (holding f sq e recording page) st base more nx nf mem = Holding f sq e recording page st base more nx nf mem

  -- facts of endings
  pub next_sound : (st : Ending Record) (e : S.Edition) (f s : ℕ) → NextPage S st e f s → Sound st
  next_sound st e f s (inl a) = a.0
  next_sound unused e f s (inr a) = absurd a
  next_sound (ended c) e f s (inr a) = tt
  next_sound (frayed c) e f s (inr a) = tt
  next_sound foreign e f s (inr a) = a

  pub further_newest : (st : Ending Record) (e : S.Edition) (f s : ℕ) → FurtherPage S st e f s → f ≡ newest st
  further_newest unused e f s a = absurd a
  further_newest (ended c) e f s a = a.0
  further_newest (frayed c) e f s a = absurd a
  further_newest foreign e f s a = absurd a

  pub next_newest : (st : Ending Record) (e : S.Edition) (f s : ℕ) → NextPage S st e f s → f ≤ suc (newest st)
  next_newest st e f s (inl a) = omega (arith, a.1)
  next_newest st e f s (inr a) = omega (arith, further_newest st e f s a)

  newest_torn : (st : Ending Record) → newest (torn_more st) ≤ newest st
  newest_torn unused = omega arith
  newest_torn (ended c) = omega arith
  newest_torn (frayed c) = omega arith
  newest_torn foreign = omega arith

  -- what a life is looked at from: a rule for whole pages that has our writer's and keeps flights from falling; how many pages the log has,
  -- the newest flight that it began with, and the records that were there
  pub record Ground : Type 1 where
    pub Rule : Ending Record → Page → Decoded Record → Type 0
    pub ours : (st : Ending Record) (p : Page) (c : Decoded Record) → StrictRule S st p c → Rule st p c
    pub loose : (st : Ending Record) (p : Page) (c : Decoded Record) → Rule st p c → LooseRule S st p c
    pub count : ℕ
    pub top : ℕ
    pub there : List (ℕ × Record)

  module _ (G : Ground) where
    pub record Inv (l : List Page) (ph : Phase) (nx nf : ℕ) (past : List (List (ℕ × Record))) (now : List (ℕ × Record)) : Type 0 where
      pub base : List Page
      pub more : List Page
      pub ending : Ending Record
      pub old : List (ℕ × Record)
      pub kept : List (ℕ × Record)
      pub mem : List (ℕ × Record)
      pub follows : Follows S G.Rule base ending
      pub split : l ≡ base ++ more
      pub before : Kept S G.there past old
      pub on_flash_lem : records_on S base ≡ old ++ kept
      pub logged : now ≡ kept ++ mem
      pub risen : newest ending ≤ G.top + length base
      pub newest_small : newest ending < S.limit
      pub long : length l ≡ G.count
      pub bound : G.count < S.limit
      pub stands : Stands ph ending base more nx nf mem

    module _ {l : List Page} {ph : Phase} {nx nf : ℕ} {past : List (List (ℕ × Record))} {now : List (ℕ × Record)} (i : Inv l ph nx nf past now) where
      pub base_long : length i.base < S.limit
      base_long = omega (arith, length-append i.base i.more, ap length i.split, i.long, i.bound)

      -- the same log, another phase
      pub turned : {ph' : Phase} {nx' nf' : ℕ} {now' : List (ℕ × Record)} (mem : List (ℕ × Record)) → now' ≡ i.kept ++ mem
          → Stands ph' i.ending i.base i.more nx' nf' mem → Inv l ph' nx' nf' past now'
      turned mem e o =
          record {
            base = i.base;
            more = i.more;
            ending = i.ending;
            old = i.old;
            kept = i.kept;
            mem = mem;
            follows = i.follows;
            split = i.split;
            before = i.before;
            on_flash_lem = i.on_flash_lem;
            logged = e;
            risen = i.risen;
            newest_small = i.newest_small;
            long = i.long;
            bound = i.bound;
            stands = o;
          }

      -- the page behind the used ones is whole, with what was in memory, and counts as used
      pub passed : {l' : List Page} {ph' : Phase} {nx' nf' : ℕ} {page : Page} (c : Decoded Record) (m : List Page) → l' ≡ i.base ++ page ∷ m
          → length l' ≡ length l → StrictRule S i.ending page c
          → Whole S page c → c.flight < S.limit → i.mem ≡ in_flight c.flight c.rows → Stands ph' (ended c) (i.base ++ page ∷ []) m nx' nf' []
          → Inv l' ph' nx' nf' past now
      passed {page} c m e len strict d small em o =
          record {
            base = i.base ++ page ∷ [];
            more = m;
            ending = ended c;
            old = i.old;
            kept = i.kept ++ i.mem;
            mem = [];
            follows = whole_page i.follows (G.ours i.ending page c strict) d;
            split = e ∙ sym (append_snoc i.base page m);
            before = i.before;
            on_flash_lem =
                records_append S L i.base (page ∷ [])
                ∙ rw (d, i.on_flash_lem, em, append-nil) (append_assoc i.old i.kept (in_flight c.flight c.rows));
            logged = i.logged ∙ sym (append-nil (i.kept ++ i.mem));
            risen = omega (arith, i.risen, next_newest i.ending strict.edition c.flight c.sequence strict.next, length_snoc i.base page);
            newest_small = small;
            long = len ∙ i.long;
            bound = i.bound;
            stands = o;
          }

      -- the page behind the used ones is torn, and counts as used
      pub spoilt : {cell : Page} {m : List Page} → i.more ≡ cell ∷ m → Sound i.ending → Torn S cell → Blanks S m → Short S L i.mem
          → Inv l off nx nf past now
      spoilt {cell} {m} e a t bs h =
          record {
            base = i.base ++ cell ∷ [];
            more = m;
            ending = torn_more i.ending;
            old = i.old;
            kept = i.kept;
            mem = i.mem;
            follows = torn_page i.follows a t;
            split = i.split ∙ rw e (sym (append_snoc i.base cell m));
            before = i.before;
            on_flash_lem = records_append S L i.base (cell ∷ []) ∙ rw (t.0, i.on_flash_lem) (append-nil (i.old ++ i.kept));
            logged = i.logged;
            risen = omega (arith, i.risen, newest_torn i.ending, length_snoc i.base cell);
            newest_small = omega (arith, i.newest_small, newest_torn i.ending);
            long = i.long;
            bound = i.bound;
            stands = (bs, h);
          }

    -- a page that waits: what it decodes to, and that it is a page of the strict grammar
    module _ {l : List Page} {f sq : ℕ} {e : S.Edition} {recording : Bool} {page : Page} {nx nf : ℕ} {past : List (List (ℕ × Record))}
        {now : List (ℕ × Record)} (i : Inv l (holding f sq e recording page) nx nf past now) where
      abbrev pub held_content : Decoded Record
      held_content = record { flight = f; sequence = i.stands.number; rows = i.stands.rows }

      pub held_whole : Whole S page held_content
      held_whole =
          rw i.stands.encoded
          (L.decode_encode e f i.stands.number i.stands.rows i.stands.small (omega (arith, i.stands.few, base_long i))
          i.stands.packs)

      pub held_strict : StrictRule S i.ending page held_content
      held_strict = record { encoded = i.stands.encoded; some_rows = i.stands.some_rows; edition = e; packs = i.stands.packs; next = i.stands.place }

      settle_held : (m : List Page) → i.more ≡ m → Tail page m → Inv l off nx nf past now
      settle_held [] q t = turned i i.mem i.logged (rw q tt, rw i.stands.memory (short_page S L e f i.stands.rows i.stands.packs))
      settle_held (cell ∷ m) q t = go t.1
        where
          short : Short S L i.mem
          short = rw i.stands.memory (short_page S L e f i.stands.rows i.stands.packs)

          dark : Dec (cell ≡ S.blank) → S.decode cell ≡ None → Inv l off nx nf past now
          dark (yes b) d = turned i i.mem i.logged (rw q (b, t.2), short)
          dark (no b) d = spoilt i q (next_sound i.ending e f i.stands.number i.stands.place) (d, b) t.2 short

          go : Undecoded S (Some (page, cell)) → Inv l off nx nf past now
          go (inl d) = dark (blank? S L cell) d
          go (inr c) =
              passed i held_content m (i.split ∙ rw (q, c) refl) refl held_strict held_whole i.stands.small i.stands.memory
              (t.2, short_none S L)

    -- power goes: what is in memory is lost, and the cell of a page that waits is blank, torn or whole
    pub settle : {l : List Page} (ph : Phase) {nx nf : ℕ} {past : List (List (ℕ × Record))} {now : List (ℕ × Record)} → Inv l ph nx nf past now
        → Inv l off nx nf past now
    settle off i = i
    settle idle i = turned i i.mem i.logged (i.stands.blanks, rw i.stands.memory (short_none S L))
    settle (filling f s e rows) i =
        turned i i.mem i.logged (i.stands.0.blanks, rw i.stands.0.memory (short_page S L e f rows i.stands.0.packs))
    settle (holding f sq e recording page) i = settle_held i i.more refl i.stands.tail

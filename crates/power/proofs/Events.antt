-- Each event of a life keeps the invariant: a program that succeeds, one that doesn't finish, a record that the assembler takes, the end of a
-- flight, and power-on. Assumes nothing.
use Prim.Native.Nat.{ℕ, suc, ◌≤◌, ◌<◌}
use mathlib.Core.Path.{◌≡◌, refl, sym, ap, ◌∙◌}
use mathlib.Core.Bool.{Bool, true, false, cond, false≢true}
use Rattle.std.specs.Prelude.{Some}
use mathlib.Core.Logic.{inl, inr}
use mathlib.Core.List.{List, [], ◌∷◌, ◌++◌, append_assoc, append-nil}
use native.Mathlib.Decide.{ℕ_discrete}
use native.Mathlib.Omega.{arith}
use lib.Dec.{ltb}
use lib.ListN.{length, length-append, take, length-set}
use lib.Seq.{append_snoc, take-append-le, get_or-set_other}
use Rattle.std.proofs.lemmas.List.{map-append}
use Rattle.power.specs.Pages.{PageStore, in_flight, Packs, full}
use Rattle.power.specs.Lawful.{Lawful}
use Rattle.power.specs.Reading.{Blanks, Torn, page_at}
use Rattle.power.specs.Grammar.{Ending, unused, ended, frayed, foreign, newest, Sound, LooseRule, Follows}
use Rattle.power.specs.Claims.{power_on_lem, OnlyAdds}
use Rattle.power.specs.Scan.{scan}
use Rattle.power.specs.Calls.{programmed_cell, programmed_at}
use Rattle.power.specs.Life.{Undecoded}
use Rattle.power.specs.Torn.{torn_in}
use Rattle.power.proofs.Used.{length_snoc, unused_none, follows_map, none_some}
use Rattle.power.proofs.Scan.{verdict_of, scan_is}
use Rattle.power.proofs.Invariant.{Ground, Phase, off, idle, filling, holding, Tail, tail_of_blanks, Filling, Holding, Begun, Stands}
use Rattle.power.proofs.Invariant.{Inv, base_long, turned, passed, held_content, held_whole, held_strict, next_sound, further_newest}
use Rattle.power.proofs.Adds.{cell_there, cell_is, program_at, program_adds}
use Rattle.power.proofs.Packing.{lost_few, full_none, packs_none, packs_more, short_none}
use Rattle.power.proofs.TornCount.{torn_append, torn_whole, torn_below, torn_here, torn_at_least, torn_not, torn_below_next, Ends, blanks_front}

pub snoc_some : {A : Type 0} (xs : List A) (x : A) → ¬ (xs ++ x ∷ [] ≡ [])
snoc_some xs x e = omega (arith, length_snoc xs x, ap length e)

cons_some : {A : Type 0} (x : A) (xs : List A) → ¬ (x ∷ xs ≡ [])
cons_some x xs e = omega (arith, ap length e)

module _ {Page Record Mask : Type 0} (S : PageStore Page Record Mask) (L : Lawful S) where
  -- after a page was written: the flight goes on, or it has ended
  abbrev pub wrote : Bool → ℕ → ℕ → S.Edition → Phase S L
  wrote true f sq e = filling f sq e []
  wrote false f sq e = idle

  -- after a record was pushed
  abbrev pub pushed_phase : ℕ → ℕ → S.Edition → List Record → Phase S L
  pushed_phase f s e rows = cond (full S e rows) (holding f (S.sequence_after s) e true (S.encode f s rows)) (filling f s e rows)

  -- after a flight ended that had these rows
  abbrev pub stopped_phase : ℕ → ℕ → S.Edition → List Record → Phase S L
  stopped_phase f s e [] = idle
  stopped_phase f s e (r ∷ rows) = holding f (S.sequence_after s) e false (S.encode f s (r ∷ rows))

  -- after power-on
  abbrev pub woken : Bool → Phase S L
  woken true = idle
  woken false = off

  -- the same page waits, over another cell or with the flight ended
  reheld : {f sq : ℕ} {e : S.Edition} {r r' : Bool} {page : Page} {st : Ending Record} {base more more' : List Page} {nx nf : ℕ} {mem : List (ℕ × Record)}
      (h : Holding S L f sq e r page st base more nx nf mem) → Tail S L page more' → (r' ≡ true → full S e h.rows ≡ true)
      → Holding S L f sq e r' page st base more' nx nf mem
  reheld h tail filled =
      record {
        tail = tail;
        here = h.here;
        number = h.number;
        rows = h.rows;
        encoded = h.encoded;
        place = h.place;
        next_flight_lem = h.next_flight_lem;
        next_sequence = h.next_sequence;
        packs = h.packs;
        some_rows = h.some_rows;
        filled = filled;
        memory = h.memory;
        small = h.small;
        few = h.few;
      }

module _ {Page Record Mask : Type 0} (S : PageStore Page Record Mask) (L : Lawful S) (G : Ground S L) where
  -- a page that waits is programmed
  module _ {l : List Page} {f sq : ℕ} {e : S.Edition} {recording : Bool} {page : Page} {nx nf : ℕ} {past : List (List (ℕ × Record))} {now : List (ℕ × Record)}
      (i : Inv S L G l (holding f sq e recording page) nx nf past now) (inside : nx < length l) where
    there_cell : (cell : Page) × (rest : List Page) × (i.more ≡ cell ∷ rest)
    there_cell = cell_there S L i.base i.more nx i.stands.here (rw (← i.split) inside)

    abbrev cell : Page
    cell = there_cell.0

    abbrev rest : List Page
    rest = there_cell.1

    log_is : l ≡ i.base ++ cell ∷ rest
    log_is = i.split ∙ ap (λ (m : List Page). i.base ++ m) there_cell.2

    tail_is : Tail S L page (cell ∷ rest)
    tail_is = rw there_cell.2 at i.stands.tail

    -- with success
    wrote_stands : (r : Bool) → (r ≡ true → full S e i.stands.rows ≡ true)
        → Stands S L (wrote S L r f sq e) (ended (held_content S L G i)) (i.base ++ page ∷ []) rest (suc nx) nf []
    wrote_stands true g = (
      record {
        blanks = tail_is.2;
        here = omega (arith, i.stands.here, length_snoc i.base page);
        place = inr (refl, i.stands.next_sequence, g refl, i.stands.packs);
        next_flight_lem = i.stands.next_flight_lem;
        packs = packs_none S L e;
        unfilled = full_none S L e;
        memory = refl;
        small = i.stands.small;
        few = omega (arith, i.stands.next_sequence, i.stands.few, length_snoc i.base page);
      },
      inl (refl, i.stands.next_sequence, g refl, i.stands.packs),
    )
    wrote_stands false g =
        record {
          blanks = tail_is.2;
          here = omega (arith, i.stands.here, length_snoc i.base page);
          sound = tt;
          next_flight_lem = i.stands.next_flight_lem;
          memory = refl;
        }

    pub keep_written : Inv S L G (programmed_at S l nx page S.clean) (wrote S L recording f sq e) (suc nx) nf past now
    keep_written =
        passed S L G i (held_content S L G i) rest
        (program_at S L l i.base rest cell page nx S.clean log_is i.stands.here ∙ ap (λ (p : Page). i.base ++ p ∷ rest) tail_is.0)
        (length-set l nx (programmed_cell S l nx page S.clean)) (held_strict S L G i) (held_whole S L G i) i.stands.small i.stands.memory
        (wrote_stands recording i.stands.filled)

    -- or not to its end: the page stays waiting
    pub keep_failed : (keep : Mask) → Undecoded S (Some (page, programmed_cell S l nx page keep))
        → Inv S L G (programmed_at S l nx page keep) (holding f sq e recording page) nx nf past now
    keep_failed keep un =
        record {
          base = i.base;
          more = S.programmed cell page keep ∷ rest;
          ending = i.ending;
          old = i.old;
          kept = i.kept;
          mem = i.mem;
          follows = i.follows;
          split = program_at S L l i.base rest cell page nx keep log_is i.stands.here;
          before = i.before;
          on_flash_lem = i.on_flash_lem;
          logged = i.logged;
          risen = i.risen;
          newest_small = i.newest_small;
          long = length-set l nx (programmed_cell S l nx page keep) ∙ i.long;
          bound = i.bound;
          stands = reheld S L i.stands (L.program_again cell page keep ∙ tail_is.0, unread un, tail_is.2) i.stands.filled;
        }
      where
        here : programmed_cell S l nx page keep ≡ S.programmed cell page keep
        here = ap (λ (c : Page). S.programmed c page keep) (cell_is S L l i.base rest cell page nx keep log_is i.stands.here)

        unread : Undecoded S (Some (page, programmed_cell S l nx page keep)) → Undecoded S (Some (page, S.programmed cell page keep))
        unread (inl d) = inl (ap S.decode (sym here) ∙ d)
        unread (inr d) = inr (sym here ∙ d)

    pub keep_adds : (keep : Mask) → OnlyAdds S l (programmed_at S l nx page keep)
    keep_adds keep = program_adds S L l i.base rest cell page nx keep log_is i.stands.here tail_is

    -- a page that is written is not torn, and one that is not may be; those below it stay as they are
    written_is : programmed_at S l nx page S.clean ≡ i.base ++ page ∷ rest
    written_is = program_at S L l i.base rest cell page nx S.clean log_is i.stands.here ∙ ap (λ (p : Page). i.base ++ p ∷ rest) tail_is.0

    pub keep_torn_written : (n : ℕ) → torn_in S (take nx l) ≤ n
        → (torn_in S (programmed_at S l nx page S.clean) ≤ n) × (torn_in S (take (suc nx) (programmed_at S l nx page S.clean)) ≤ n)
    keep_torn_written n h =
        let b = torn_below S L l i.base rest cell nx log_is i.stands.here tail_is.2 in (
          omega (
            arith,
            torn_not S L (programmed_at S l nx page S.clean) i.base rest page nx written_is i.stands.here tail_is.2 (held_content S L G i) (held_whole S L G i),
          ),
          omega (
            arith,
            torn_below_next S L (programmed_at S l nx page S.clean) i.base rest page nx written_is i.stands.here tail_is.2 (held_content S L G i)
                (held_whole S L G i),
          ),
        )

    pub keep_torn_ends : (n : ℕ) → torn_in S (take nx l) ≤ n → Ends S L n (programmed_at S l nx page S.clean)
    keep_torn_ends n h =
        record {
          base = i.base ++ page ∷ [];
          rest = rest;
          split = written_is ∙ sym (append_snoc i.base page rest);
          few =
              omega (
                arith,
                torn_append S L i.base (page ∷ []),
                torn_whole S L page (held_content S L G i) (held_whole S L G i),
                torn_below S L l i.base rest cell nx log_is i.stands.here tail_is.2,
              );
          front = blanks_front S L rest tail_is.2;
        }

    pub keep_torn_left : (keep : Mask) (n : ℕ) → torn_in S (take nx l) ≤ n → Ends S L n (programmed_at S l nx page keep)
    keep_torn_left keep n h =
        record {
          base = i.base;
          rest = S.programmed cell page keep ∷ rest;
          split = program_at S L l i.base rest cell page nx keep log_is i.stands.here;
          few = omega (arith, torn_below S L l i.base rest cell nx log_is i.stands.here tail_is.2);
          front = tail_is.2;
        }

    -- the pages below it stay
    pub keep_front : (keep : Mask) (k : ℕ) → k ≤ nx → take k (programmed_at S l nx page keep) ≡ take k l
    keep_front keep k h =
        ap (take k) (program_at S L l i.base rest cell page nx keep log_is i.stands.here)
        ∙ take-append-le k i.base (S.programmed cell page keep ∷ rest) (omega (arith, i.stands.here))
        ∙ sym (ap (take k) log_is ∙ take-append-le k i.base (cell ∷ rest) (omega (arith, i.stands.here)))

    pub keep_torn_calm : torn_in S (programmed_at S l nx page S.clean) ≤ torn_in S l
    keep_torn_calm =
        omega (
          arith,
          torn_not S L (programmed_at S l nx page S.clean) i.base rest page nx written_is i.stands.here tail_is.2 (held_content S L G i) (held_whole S L G i),
          torn_at_least S L l i.base rest cell nx log_is i.stands.here tail_is.2,
        )

    -- the page that was written is whole, so what is torn elsewhere was torn before
    pub keep_left_whole : (j : ℕ) → Torn S (page_at S (programmed_at S l nx page S.clean) j) → Torn S (page_at S l j)
    keep_left_whole j t = go (ℕ_discrete j nx)
      where
        go : Dec (j ≡ nx) → Torn S (page_at S l j)
        go (yes e) =
            absurd (none_some t.0
            (ap S.decode
            (ap (λ (k : ℕ). page_at S (programmed_at S l nx page S.clean) k) e
            ∙ cell_is S L (programmed_at S l nx page S.clean) i.base rest page page nx S.clean written_is i.stands.here)
            ∙ held_whole S L G i))
        go (no e) = rw (get_or-set_other l nx j (programmed_cell S l nx page S.clean) S.blank e) at t

    pub keep_torn_failed : (keep : Mask) (n : ℕ) → torn_in S (take nx l) ≤ n
        → (torn_in S (programmed_at S l nx page keep) ≤ suc n) × (torn_in S (take nx (programmed_at S l nx page keep)) ≤ n)
    keep_torn_failed keep n h =
        let e = program_at S L l i.base rest cell page nx keep log_is i.stands.here in
        let b = torn_below S L l i.base rest cell nx log_is i.stands.here tail_is.2 in (
          omega (
            arith,
            torn_here S L (programmed_at S l nx page keep) i.base rest (S.programmed cell page keep) nx e i.stands.here tail_is.2,
          ),
          omega (
            arith,
            torn_below S L (programmed_at S l nx page keep) i.base rest (S.programmed cell page keep) nx e i.stands.here tail_is.2,
          ),
        )

  -- a record goes into flight f
  module _ {l : List Page} {ph : Phase S L} {nx₀ nf₀ nx nf : ℕ} {past : List (List (ℕ × Record))} {now : List (ℕ × Record)} (i : Inv S L G l ph nx₀ nf₀ past now)
      (f s : ℕ) (e : S.Edition) (rows : List Record) (w : Filling S L f s e rows i.ending i.base i.more nx nf i.mem) where
    sequence_small : s < S.limit
    sequence_small = omega (arith, w.few, base_long S L G i)

    -- rows become a page that waits
    page_made : (r : Bool) (xs : List Record) (mem : List (ℕ × Record)) → Packs S e xs → ¬ (xs ≡ []) → (r ≡ true → full S e xs ≡ true) → mem ≡ in_flight f xs
        → Holding S L f (S.sequence_after s) e r (S.encode f s xs) i.ending i.base i.more nx nf mem
    page_made r xs mem packs some_rows filled memory =
        record {
          tail = tail_of_blanks S L (S.encode f s xs) i.more (L.program_blank e f s xs w.small sequence_small packs) w.blanks;
          here = w.here;
          number = s;
          rows = xs;
          encoded = refl;
          place = w.place;
          next_flight_lem = w.next_flight_lem;
          next_sequence = L.sequence_after_lem s sequence_small;
          packs = packs;
          some_rows = some_rows;
          filled = filled;
          memory = memory;
          small = w.small;
          few = w.few;
        }

    pub keep_push : (r : Record) → S.Fits r → S.joins e r ≡ true → Inv S L G l (pushed_phase S L f s e (rows ++ r ∷ [])) nx nf past (now ++ (f, r) ∷ [])
    keep_push r fits joins = step (full S e (rows ++ r ∷ [])) refl
      where
        packs : Packs S e (rows ++ r ∷ [])
        packs = packs_more S L e rows r w.packs w.unfilled fits joins

        said : now ++ (f, r) ∷ [] ≡ i.kept ++ in_flight f (rows ++ r ∷ [])
        said = rw (i.logged, w.memory, map-append {B = ℕ × Record} (λ (r : Record). (f, r)) rows (r ∷ [])) (append_assoc i.kept (in_flight f rows) ((f, r) ∷ []))

        step : (q : Bool) → full S e (rows ++ r ∷ []) ≡ q → Inv S L G l (pushed_phase S L f s e (rows ++ r ∷ [])) nx nf past (now ++ (f, r) ∷ [])
        step false q =
            rw q
            (turned S L G i (in_flight f (rows ++ r ∷ [])) said (
              record {
                blanks = w.blanks;
                here = w.here;
                place = w.place;
                next_flight_lem = w.next_flight_lem;
                packs = packs;
                unfilled = q;
                memory = refl;
                small = w.small;
                few = w.few;
              },
              inr (snoc_some rows r),
            ))
        step true q =
            rw q
            (turned S L G i (in_flight f (rows ++ r ∷ [])) said
            (page_made true (rows ++ r ∷ []) (in_flight f (rows ++ r ∷ [])) packs (snoc_some rows r) (λ z. q) refl))

    -- the flight ends
    pub keep_stop : Begun S L f s e rows i.ending → Inv S L G l (stopped_phase S L f s e rows) nx nf past now
    keep_stop b = go rows refl b
      where
        go : (xs : List Record) → rows ≡ xs → Begun S L f s e xs i.ending → Inv S L G l (stopped_phase S L f s e xs) nx nf past now
        go [] q (inl a) =
            turned S L G i [] (i.logged ∙ rw (w.memory, q) refl)
            (record {
              blanks = w.blanks;
              here = w.here;
              sound = next_sound S L i.ending e f s (inr a);
              next_flight_lem = w.next_flight_lem ∙ ap suc (further_newest S L i.ending e f s a);
              memory = refl;
            })
        go [] q (inr a) = absurd (a refl)
        go (r ∷ xs) q b =
            turned S L G i i.mem i.logged
            (page_made false (r ∷ xs) i.mem (rw q at w.packs) (cons_some r xs) (λ z. absurd (false≢true z)) (w.memory ∙ rw q refl))

  -- a flight begins
  pub start_filling : {l : List Page} {nx nf : ℕ} {past : List (List (ℕ × Record))} {now : List (ℕ × Record)} (i : Inv S L G l idle nx nf past now)
      (e : S.Edition)
      → nf < S.limit
      → Filling S L nf 0 e [] i.ending i.base i.more nx (S.flight_after nf) i.mem
  start_filling {l} {nx} {nf} i e small =
      record {
        blanks = i.stands.blanks;
        here = i.stands.here;
        place = inl (i.stands.sound, i.stands.next_flight_lem, refl);
        next_flight_lem = L.flight_after_lem nf small;
        packs = packs_none S L e;
        unfilled = full_none S L e;
        memory = i.stands.memory;
        small = small;
        few = omega arith;
      }

  -- the flight's recording ends while a page of it waits
  pub keep_stop_held : {l : List Page} {f sq : ℕ} {e : S.Edition} {recording : Bool} {page : Page} {nx nf : ℕ} {past : List (List (ℕ × Record))}
      {now : List (ℕ × Record)}
      → Inv S L G l (holding f sq e recording page) nx nf past now → Inv S L G l (holding f sq e false page) nx nf past now
  keep_stop_held i = turned S L G i i.mem i.logged (reheld S L i.stands i.stands.tail (λ z. absurd (false≢true z)))

  -- power comes on
  woken_stands : (f k : ℕ) (q : Bool) (st : Ending Record) (base more : List Page) → k ≡ length base → f < S.limit → Sound st → newest st ≡ f
      → Blanks S more → Stands S L (woken S L q) st base more k (S.flight_after f) []
  woken_stands f k true st base more e h a n b = record { blanks = b; here = e; sound = a; next_flight_lem = L.flight_after_lem f h ∙ ap suc (sym n); memory = refl }
  woken_stands f k false st base more e h a n b = (b, short_none S L)

  verdict_stands : (st : Ending Record) (base more : List Page) (count : ℕ) → Follows S (LooseRule S) base st → Blanks S more → newest st < S.limit
      → Stands S L (woken S L (verdict_of S L st (length base) count).writable) st base more (verdict_of S L st (length base) count).page
      (verdict_of S L st (length base) count).flight []
  verdict_stands unused base more count u b h =
      record { blanks = b; here = sym (unused_none S L u (length base) refl); sound = tt; next_flight_lem = refl; memory = refl }
  verdict_stands (ended c) base more count u b h = woken_stands c.flight (length base) (ltb (length base) count) (ended c) base more refl h tt refl b
  verdict_stands (frayed c) base more count u b h = woken_stands c.flight (length base) (ltb (length base) count) (frayed c) base more refl h tt refl b
  verdict_stands foreign base more count u b h = (b, short_none S L)

  pub keep_power_on : {l : List Page} {nx nf : ℕ} {past : List (List (ℕ × Record))} {now : List (ℕ × Record)} → Inv S L G l off nx nf past now
      → Inv S L G l (woken S L (scan S l).writable) (scan S l).page (scan S l).flight (past ++ now ∷ []) []
  keep_power_on {l} i =
      record {
        base = i.base;
        more = i.more;
        ending = i.ending;
        old = i.old ++ i.kept;
        kept = [];
        mem = [];
        follows = i.follows;
        split = i.split;
        before = rw i.logged (power_on_lem i.kept i.mem i.before (omega (arith, lost_few S L i.kept i.mem i.stands.1, length-append i.kept i.mem)));
        on_flash_lem = i.on_flash_lem ∙ sym (append-nil (i.old ++ i.kept));
        logged = refl;
        risen = i.risen;
        newest_small = i.newest_small;
        long = i.long;
        bound = i.bound;
        stands = rw said (verdict_stands i.ending i.base i.more (length l) loosely i.stands.0 i.newest_small);
      }
    where
      loosely : Follows S (LooseRule S) i.base i.ending
      loosely = follows_map S L G.loose i.follows

      said : scan S l ≡ verdict_of S L i.ending (length i.base) (length l)
      said = rw i.split (scan_is S L loosely i.more i.stands.0)

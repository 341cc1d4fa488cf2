-- Behind a torn page comes a mark: power-on by power-on. The pages below the first blank one stay; those that a power-on writes are whole but for the
-- last; and what it adds to the records begins with a mark. Assumes nothing.
use Prim.Native.Nat.{ℕ, zero, suc, ◌+◌, ◌≤◌, ◌<◌}
use mathlib.Core.Path.{◌≡◌, refl, sym, ap, ◌∙◌, subst}
use mathlib.Core.Bool.{Bool, true, false, false≢true}
use Rattle.std.specs.Prelude.{None}
use mathlib.Core.Logic.{inr}
use mathlib.Core.List.{List, [], ◌∷◌, ◌++◌, append-nil}
use native.Mathlib.Omega.{arith}
use native.Mathlib.Decide.{dec_lt}
use lib.ListN.{length, take, drop, take-append-drop, get_or-append}
use lib.Seq.{take_at, take-append-le, get_or-append-add}
use Rattle.std.proofs.lemmas.List.{append_cancel_left}
use Rattle.power.specs.Pages.{Decoded, PageStore, Each, in_flight}
use Rattle.power.specs.Lawful.{Lawful}
use Rattle.power.specs.Reading.{Blanks, Whole, Torn, page_at, records_on}
use Rattle.power.specs.Claims.{ForeignLog}
use Rattle.power.specs.Scan.{scan}
use Rattle.power.specs.Writer.{new}
use Rattle.power.specs.Calls.{Pass}
use Rattle.power.specs.Life.{ordered, Device, Call, offers, drains, writes, powers, begin, power_on, call, lives, unpowered, history, AllAssumed, FlightsFit}
use Rattle.power.specs.Theorem.{erased, Beginning}
use Rattle.power.specs.Segments.{joined, starts, PlainOffers, FirstMarked, SegmentedAfter}
use Rattle.power.specs.Torn.{torn_one, torn_in, NoPowerOn, BeginsMarked, MarkAfterTorn, TornEndsPowerOn}
use Rattle.power.proofs.Used.{none_some, blanks_at, records_append, records_blanks, blank_no}
use Rattle.power.proofs.Invariant.{Ground, idle, Inv}
use Rattle.power.proofs.TornCount.{torn_append, torn_blanks, AtFront, Few}
use Rattle.power.proofs.Passes.{each_right, phase_by, Small}
use Rattle.power.proofs.Theorem.{Stands, call_keeps, lives_keep, left_loose, settled, holds, strictly, erased_stands, not_writable, write_off, blanks_erased}
use Rattle.power.proofs.Puts.{drain_off}
use Rattle.power.proofs.Moments.{lives_append, assumed_append}
use Rattle.power.proofs.Segments.{segments_from_beginning, parts_marked}
use Rattle.power.proofs.Torn.{few_power_on, lives_tear, lives_front}

module _ {Page Record Mask : Type 0} (S : PageStore Page Record Mask) (L : Lawful S) where
  -- ---- counting

  torn_counts : (page : Page) → Torn S page → torn_one S (S.is_blank page) (S.decode page) ≡ 1
  torn_counts page t = rw (blank_no S L page t.1, t.0) refl

  -- a torn page from k on is one more than those below k
  torn_later : (l : List Page) (k i : ℕ) → k ≤ i → i < length l → Torn S (page_at S l i) → suc (torn_in S (take k l)) ≤ torn_in S l
  torn_later [] k i h q t = absurd (omega arith)
  torn_later (p ∷ l) zero zero h q t = omega (arith, torn_counts p t)
  torn_later (p ∷ l) zero (suc i) h q t = omega (arith, torn_later l zero i (omega arith) (omega arith) t)
  torn_later (p ∷ l) (suc k) zero h q t = absurd (omega arith)
  torn_later (p ∷ l) (suc k) (suc i) h q t = omega (arith, torn_later l k i (omega arith) (omega arith) t)

  -- behind the one page that may be used all are blank
  behind_blank : (b r : List Page) (j : ℕ) → AtFront S L r → length b < j → page_at S (b ++ r) j ≡ S.blank
  behind_blank [] [] zero h q = absurd (omega arith)
  behind_blank [] [] (suc j) h q = refl
  behind_blank [] (c ∷ r) zero h q = absurd (omega arith)
  behind_blank [] (c ∷ r) (suc j) h q = blanks_at S L r h j
  behind_blank (p ∷ b) r zero h q = absurd (omega arith)
  behind_blank (p ∷ b) r (suc j) h q = behind_blank b r j h (omega arith)

  whole_blank : (page : Page) (c : Decoded Record) → page ≡ S.blank → Whole S page c → ⊥
  whole_blank page c e d = none_some (ap S.decode e ∙ L.decode_blank) d

  -- ---- a power-on does not look at those before it

  abbrev with_past : List (List (ℕ × Record)) → Device S → Device S
  with_past past d = record { log = d.log; writer = d.writer; queue = d.queue; past = past; now = d.now }

  past_lives : (past : List (List (ℕ × Record))) (calls : List (Call S)) (d : Device S) → NoPowerOn S calls
      → lives S calls (with_past past d) ≡ with_past past (lives S calls d)
  past_lives past [] d o = refl
  past_lives past (offers r ∷ calls) d o = past_lives past calls (call S (offers r) d) o
  past_lives past (drains order ∷ calls) d o = past_lives past calls (call S (drains order) d) o
  past_lives past (writes g z ∷ calls) d o = past_lives past calls (call S (writes g z) d) o
  past_lives past (powers ∷ calls) d o = absurd o

  past_assumed : (past : List (List (ℕ × Record))) (calls : List (Call S)) (d : Device S) → NoPowerOn S calls → AllAssumed S calls d
      → AllAssumed S calls (with_past past d)
  past_assumed past [] d o a = tt
  past_assumed past (offers r ∷ calls) d o a = (a.0, past_assumed past calls (call S (offers r) d) o a.1)
  past_assumed past (drains order ∷ calls) d o a = (a.0, past_assumed past calls (call S (drains order) d) o a.1)
  past_assumed past (writes g z ∷ calls) d o a = (a.0, past_assumed past calls (call S (writes g z) d) o a.1)
  past_assumed past (powers ∷ calls) d o a = absurd o

  -- ---- one power-on

  module _ (pages : ℕ) (z : 0 < pages) (room : pages + 2 ≤ S.limit) where
    abbrev G : Ground S L
    G = strictly S L pages

    -- the first record is a mark
    abbrev HeadMarked : List (ℕ × Record) → Type 0
    HeadMarked [] = Unit {0}
    HeadMarked (e ∷ rest) = starts S e ≡ true

    joined_head : (parts : List (List (ℕ × Record))) → Each (FirstMarked S) parts → HeadMarked (joined parts)
    joined_head [] h = tt
    joined_head ([] ∷ parts) h = joined_head parts h.1
    joined_head ((e ∷ xs) ∷ parts) h = h.0.0

    page_head : (c : Decoded Record) (rest : List (ℕ × Record)) → HeadMarked (in_flight c.flight c.rows ++ rest) → BeginsMarked S c.rows
    page_head c rest h = go c.rows h
      where
        go : (rows : List Record) → HeadMarked (in_flight c.flight rows ++ rest) → BeginsMarked S rows
        go [] k = tt
        go (r ∷ rows) k = k

    first_page : (l : List Page) (c : Decoded Record) → HeadMarked (records_on S l) → Whole S (page_at S l 0) c → BeginsMarked S c.rows
    first_page [] c h d = absurd (none_some L.decode_blank d)
    first_page (p ∷ l) c h d = page_head c (records_on S l) (rw d at h)

    module _ (d : Device S) (st : Stands S L G d) (calls : List (Call S)) (a : AllAssumed S calls (power_on S d)) (o : NoPowerOn S calls)
        (plain : PlainOffers S calls) (p0 : MarkAfterTorn S d.log) where
      abbrev after : Device S
      after = lives S calls (power_on S d)

      on_stands : Stands S L G (power_on S d)
      on_stands = (call_keeps S L G powers d tt (inr (omega arith)) st).stands

      after_stands : Stands S L G after
      after_stands = (lives_keep S L G calls (power_on S d) a (inr (omega arith)) on_stands).stands

      -- where the log may be written
      module _ (w : (scan S d.log).writable ≡ true) where
        abbrev nx : ℕ
        nx = (scan S d.log).page

        inv : Inv S L G d.log idle nx (scan S d.log).flight (d.past ++ d.now ∷ []) []
        inv =
            subst (λ (b : Bool). Inv S L G d.log (phase_by S L b None None false (new S).assembler) nx (scan S d.log).flight (d.past ++ d.now ∷ []) []) w
            on_stands.inv

        front : take nx after.log ≡ inv.base
        front =
            lives_front S L G calls (power_on S d) a (inr (omega arith)) on_stands o nx (λ h. omega arith)
            ∙ ap (take nx) inv.split ∙ take_at inv.base inv.more nx (sym inv.stands.here)

        few : Few S L (torn_in S d.log) after.log after.writer
        few = lives_tear S L G calls (power_on S d) a (inr (omega arith)) on_stands o (torn_in S d.log) (few_power_on S L d)

        torn_base : torn_in S d.log ≡ torn_in S inv.base
        torn_base =
            ap (torn_in S) inv.split ∙ omega (arith, torn_append S L inv.base inv.more, torn_blanks S L inv.more inv.stands.blanks)

        -- the log at the power-on is one from which the theorem starts
        not_foreign : ¬ ForeignLog S d.log
        not_foreign f = false≢true (sym (ap (λ x. x.writable) ((holds S L G d st z).scanned.foreign.1 f)) ∙ w)

        beginning : Beginning S d.log
        beginning =
            let said = ap (λ x. x.flight) ((holds S L G d st z).scanned.otherwise not_foreign) in
            record {
              loose = left_loose S L G d st;
              some_page = omega (arith, (settled S L G d st).long);
              long = omega (arith, (settled S L G d st).long, (settled S L G d st).bound);
              newest_fits = omega (arith, said, inv.stands.next_flight_lem, inv.newest_small);
            }

        abbrev fresh : Device S
        fresh = lives S calls (with_past ([] ∷ []) (power_on S d))

        fresh_is : fresh ≡ with_past ([] ∷ []) after
        fresh_is = past_lives ([] ∷ []) calls (power_on S d) o

        fit : FlightsFit S (history S fresh)
        fit =
            subst (λ (x : Device S). FlightsFit S (history S x)) (sym fresh_is)
            (tt, ((each_right (Small S L) after.past (after.now ∷ []) after_stands.small).0, tt))

        seg : SegmentedAfter S (records_on S d.log) (history S fresh) (records_on S fresh.log)
        seg =
            segments_from_beginning S L d.log beginning (powers ∷ calls) (tt, past_assumed ([] ∷ []) calls (power_on S d) o a) fit plain

        head : HeadMarked seg.added
        head =
            subst HeadMarked (sym seg.since.on_flash_lem)
            (joined_head seg.since.parts (parts_marked S L (history S fresh) seg.since.parts seg.since.kept seg.since.marks))

        abbrev later : List Page
        later = drop nx after.log

        after_split : after.log ≡ inv.base ++ later
        after_split = sym (take-append-drop nx after.log) ∙ ap (λ (l : List Page). l ++ later) front

        were : records_on S d.log ≡ records_on S inv.base
        were =
            ap (records_on S) inv.split ∙ records_append S L inv.base inv.more
            ∙ ap (λ (l : List (ℕ × Record)). records_on S inv.base ++ l) (records_blanks S L inv.more inv.stands.blanks)
            ∙ append-nil (records_on S inv.base)

        later_is : records_on S later ≡ seg.added
        later_is =
            append_cancel_left (records_on S inv.base) (records_on S later) seg.added
            (sym (ap (records_on S) after_split ∙ records_append S L inv.base later)
            ∙ sym (ap (λ (x : Device S). records_on S x.log) fresh_is) ∙ seg.behind
            ∙ ap (λ (l : List (ℕ × Record)). l ++ seg.added) were)

        later_head : HeadMarked (records_on S later)
        later_head = subst HeadMarked (sym later_is) head

        -- a page below the next one stays
        same_page : (j : ℕ) → j < nx → page_at S after.log j ≡ page_at S d.log j
        same_page j h =
            ap (λ (l : List Page). page_at S l j) after_split
            ∙ get_or-append inv.base later S.blank j (omega (arith, inv.stands.here))
            ∙ sym (ap (λ (l : List Page). page_at S l j) inv.split ∙ get_or-append inv.base inv.more S.blank j (omega (arith, inv.stands.here)))

        next_page_lem : (j : ℕ) → j ≡ nx → page_at S after.log j ≡ page_at S later 0
        next_page_lem j h =
            ap (λ (l : List Page). page_at S l j) after_split
            ∙ ap (λ (k : ℕ). page_at S (inv.base ++ later) k) at
            ∙ get_or-append-add inv.base later 0 S.blank
          where
            at : j ≡ length inv.base + 0
            at = omega (arith, inv.stands.here)

        none_later : (i : ℕ) (c : Decoded Record) → nx ≤ i → Torn S (page_at S after.log i) → Whole S (page_at S after.log (suc i)) c → ⊥
        none_later i c h t q = go (dec_lt i (length few.ends.base))
          where
            go : Dec (i < length few.ends.base) → ⊥
            go (yes k) =
                let there : page_at S after.log i ≡ page_at S few.ends.base i =
                ap (λ (l : List Page). page_at S l i) few.ends.split ∙ get_or-append few.ends.base few.ends.rest S.blank i k in
                let low : take nx few.ends.base ≡ inv.base =
                sym (ap (take nx) few.ends.split ∙ take-append-le nx few.ends.base few.ends.rest (omega arith)) ∙ front in
                omega (
                  arith,
                  torn_later few.ends.base nx i h k (subst (Torn S) there t),
                  ap (torn_in S) low,
                  few.ends.few,
                  torn_base,
                )
            go (no k) =
                whole_blank (page_at S after.log (suc i)) c
                (ap (λ (l : List Page). page_at S l (suc i)) few.ends.split ∙ behind_blank few.ends.base few.ends.rest (suc i) few.ends.front (omega arith))
                q

        marks_written : MarkAfterTorn S after.log
        marks_written i c t q = go (dec_lt i nx)
          where
            below : i < nx → Dec (suc i < nx) → BeginsMarked S c.rows
            below h (yes k) =
                p0 i c (subst (Torn S) (same_page i h) t) (subst (λ (p : Page). Whole S p c) (same_page (suc i) k) q)
            below h (no k) = first_page later c later_head (subst (λ (p : Page). Whole S p c) (next_page_lem (suc i) (omega arith)) q)

            go : Dec (i < nx) → BeginsMarked S c.rows
            go (yes h) = below h (dec_lt (suc i) nx)
            go (no h) = absurd (none_later i c (omega arith) t q)

      marks_on : MarkAfterTorn S after.log
      marks_on = go (scan S d.log).writable refl
        where
          go : (b : Bool) → (scan S d.log).writable ≡ b → MarkAfterTorn S after.log
          go true e = marks_written e
          go false e = subst (MarkAfterTorn S) (sym (not_writable S L d calls e)) p0

    -- ---- a life, power-on by power-on

    plain_split : (c : Call S) (life : List (Call S)) → PlainOffers S (c ∷ life) → PlainOffers S (c ∷ []) × PlainOffers S life
    plain_split (offers r) life h = ((h.0, tt), h.1)
    plain_split (drains order) life h = (tt, h)
    plain_split (writes g z) life h = (tt, h)
    plain_split powers life h = (tt, h)

    plain_more : (calls : List (Call S)) (c : Call S) → PlainOffers S calls → PlainOffers S (c ∷ []) → PlainOffers S (calls ++ c ∷ [])
    plain_more [] c h k = k
    plain_more (offers r ∷ calls) c h k = (h.0, plain_more calls c h.1 k)
    plain_more (drains order ∷ calls) c h k = plain_more calls c h k
    plain_more (writes g z ∷ calls) c h k = plain_more calls c h k
    plain_more (powers ∷ calls) c h k = plain_more calls c h k

    none_more : (calls : List (Call S)) (c : Call S) → NoPowerOn S calls → NoPowerOn S (c ∷ []) → NoPowerOn S (calls ++ c ∷ [])
    none_more [] c h k = k
    none_more (offers r ∷ calls) c h k = none_more calls c h k
    none_more (drains order ∷ calls) c h k = none_more calls c h k
    none_more (writes g z ∷ calls) c h k = none_more calls c h k
    none_more (powers ∷ calls) c h k = absurd h

    walk : (life : List (Call S)) (d : Device S) (since : List (Call S)) → Stands S L G d → MarkAfterTorn S d.log → AllAssumed S since (power_on S d)
        → NoPowerOn S since → PlainOffers S since → AllAssumed S life (lives S since (power_on S d)) → PlainOffers S life
        → MarkAfterTorn S (lives S life (lives S since (power_on S d))).log
    walk [] d since st p a o plain rest more = marks_on d st since a o plain p
    walk (powers ∷ life) d since st p a o plain rest more =
        walk life (lives S since (power_on S d)) []
        (lives_keep S L G since (power_on S d) a (inr (omega arith)) (call_keeps S L G powers d tt (inr (omega arith)) st).stands).stands
        (marks_on d st since a o plain p) tt tt tt rest.1 more
    walk (offers r ∷ life) d since st p a o plain rest more =
        let e = lives_append S L since (offers r ∷ []) (power_on S d) in
        subst (λ (x : Device S). MarkAfterTorn S (lives S life x).log) e
        (walk life d (since ++ offers r ∷ []) st p (assumed_append S L since (offers r ∷ []) (power_on S d) a (rest.0, tt)) (none_more since (offers r) o tt)
        (plain_more since (offers r) plain (more.0, tt)) (subst (AllAssumed S life) (sym e) rest.1) more.1)
    walk (drains order ∷ life) d since st p a o plain rest more =
        let c : Call S = drains order in
        let e = lives_append S L since (c ∷ []) (power_on S d) in
        subst (λ (x : Device S). MarkAfterTorn S (lives S life x).log) e
        (walk life d (since ++ c ∷ []) st p (assumed_append S L since (c ∷ []) (power_on S d) a (rest.0, tt)) (none_more since c o tt)
        (plain_more since c plain tt) (subst (AllAssumed S life) (sym e) rest.1) more)
    walk (writes g q ∷ life) d since st p a o plain rest more =
        let c : Call S = writes g q in
        let e = lives_append S L since (c ∷ []) (power_on S d) in
        subst (λ (x : Device S). MarkAfterTorn S (lives S life x).log) e
        (walk life d (since ++ c ∷ []) st p (assumed_append S L since (c ∷ []) (power_on S d) a (rest.0, tt)) (none_more since c o tt)
        (plain_more since c plain tt) (subst (AllAssumed S life) (sym e) rest.1) more)

    blank_marks : (l : List Page) → Blanks S l → MarkAfterTorn S l
    blank_marks l b i c t q = absurd (t.1 (blanks_at S L l b i))

    -- before the first power-on nothing is written
    early : (life : List (Call S)) (d : Device S) → Stands S L G d → Blanks S d.log → d.writer.writable ≡ false → d.writer.waiting ≡ None
        → AllAssumed S life d → PlainOffers S life → MarkAfterTorn S (lives S life d).log
    early [] d st b w n a plain = blank_marks d.log b
    early (powers ∷ life) d st b w n a plain = walk life d [] st (blank_marks d.log b) tt tt tt a.1 plain
    early (offers r ∷ life) d st b w n a plain =
        early life (call S (offers r) d) (call_keeps S L G (offers r) d a.0 (inr (omega arith)) st).stands b w n a.1 plain.1
    early (drains order ∷ life) d st b w n a plain =
        let e = drain_off S order (ordered S d order) w in
        early life (call S (drains order) d) (call_keeps S L G (drains order) d a.0 (inr (omega arith)) st).stands
        (subst (Blanks S) (sym (ap (λ (p : Pass S). p.log) e)) b) (ap (λ (p : Pass S). p.writer.writable) e ∙ w)
        (ap (λ (p : Pass S). p.writer.waiting) e ∙ n) a.1 plain
    early (writes g q ∷ life) d st b w n a plain =
        let e =
        write_off S L (begin S d g q) d.writer d.writer.writable d.writer.waiting d.writer.assembler.ready
        d.writer.assembler.recording d.writer.assembler.rows d.writer.assembler.mark_pending w n in
        early life (call S (writes g q) d) (call_keeps S L G (writes g q) d a.0 (inr (omega arith)) st).stands
        (subst (Blanks S) (sym (ap (λ (p : Pass S). p.log) e)) b) (ap (λ (p : Pass S). p.writer.writable) e ∙ w)
        (ap (λ (p : Pass S). p.writer.waiting) e ∙ n) a.1 plain

  pub torn_ends_power_on : TornEndsPowerOn S
  torn_ends_power_on pages life b =
      early pages b.some_page b.few_pages life (unpowered S (erased S pages)) (erased_stands S L pages b.few_pages) (blanks_erased S L pages) refl refl b.assumed b.plain

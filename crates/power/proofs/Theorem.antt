-- Demand 3 proved: the invariant holds along every life, call by call, and at each moment it gives the claims. The same proof at the strict
-- rule gives the strict grammar from an erased log. Assumes nothing.
use Prim.Native.Nat.{ℕ, zero, suc, ◌+◌, ◌≤◌, ◌<◌}
use mathlib.Core.Path.{◌≡◌, refl, sym, ap, ◌∙◌}
use mathlib.Core.Bool.{Bool, true, false, false≢true}
use Rattle.std.specs.Prelude.{Option, None, Some}
use mathlib.Core.Logic.{◌⊎◌, inl, inr}
use mathlib.Core.List.{List, [], ◌∷◌, ◌++◌, append-nil}
use native.Mathlib.Omega.{arith}
use lib.ListN.{length, length-replicate, length-append}
use Rattle.power.specs.Pages.{Decoded, PageStore, Each}
use Rattle.power.specs.Lawful.{Lawful}
use Rattle.power.specs.Reading.{Blanks, newest_flight, records_on}
use Rattle.power.specs.Grammar.{Ending, unused, ended, frayed, foreign, newest, NotFalling, LooseRule, FurtherPage, NextPage, StrictRule}
use Rattle.power.specs.Grammar.{nothing_used, LogBy, Loose}
use Rattle.power.specs.Claims.{Kept, no_power_on, power_on_lem, OnlyAdds}
use Rattle.power.specs.Scan.{scan}
use Rattle.power.specs.Writer.{Writer, new, recover}
use Rattle.power.specs.Calls.{Next, Pass, with_writer, drain, write_pending}
use Rattle.power.specs.Life.{ordered, Device, Call, offers, drains, writes, powers, begin, after_pass, power_on, call, lives, unpowered, history, Assumed}
use Rattle.power.specs.Life.{AllAssumed, FlightsFit}
use Rattle.power.specs.Theorem.{Holds, Beginning, EveryLife, RecordsStay, NotWritable, NoWrap, erased, FromErased, StrictFromErased, StayFromErased}
use Rattle.power.proofs.Used.{none_some, records_append, records_blanks, log_map}
use Rattle.power.proofs.Scan.{scan_says, newest_read, newest_blanks}
use Rattle.power.proofs.Search.{search_finds, flights_known, flights_below}
use Rattle.power.proofs.Invariant.{Ground, off, Inv, settle}
use Rattle.power.proofs.Adds.{adds_none, adds_then}
use Rattle.power.proofs.Events.{woken, keep_power_on}
use Rattle.power.proofs.Puts.{drain_off}
use Rattle.power.proofs.Passes.{each_left, each_right, each_append, shaped, phase_of, SaneBy, Sane, Small, Good, Why}
use Rattle.power.proofs.Turns.{drain_keeps, write_keeps}
use Rattle.power.proofs.Packing.{lost_few, Short, short_none}

module _ {Page Record Mask : Type 0} (S : PageStore Page Record Mask) (L : Lawful S) where
  -- a strict page is a loose one
  further_loose : (st : Ending Record) (e : S.Edition) (c : Decoded Record) → FurtherPage S st e c.flight c.sequence → NotFalling st c
  further_loose unused e c a = tt
  further_loose (ended b) e c a = omega (arith, a.0)
  further_loose (frayed b) e c a = absurd a
  further_loose foreign e c a = a

  next_loose : (st : Ending Record) (e : S.Edition) (c : Decoded Record) → NextPage S st e c.flight c.sequence → NotFalling st c
  next_loose unused e c (inl a) = tt
  next_loose (ended b) e c (inl a) = omega (arith, a.1)
  next_loose (frayed b) e c (inl a) = omega (arith, a.1)
  next_loose foreign e c (inl a) = a.0
  next_loose st e c (inr a) = further_loose st e c a

  pub strict_loose : (st : Ending Record) (p : Page) (c : Decoded Record) → StrictRule S st p c → LooseRule S st p c
  strict_loose st p c s = next_loose st s.edition c s.next

  -- the records of a log are those of its used pages
  records_used : (l base more : List Page) → l ≡ base ++ more → Blanks S more → records_on S l ≡ records_on S base
  records_used l base more e b = rw (e, records_append S L base more, records_blanks S L more b) (append-nil (records_on S base))

  -- the power-on that lasts counts as one that is over
  kept_more : (there : List (ℕ × Record)) (past : List (List (ℕ × Record))) (old kept mem now flash : List (ℕ × Record)) → Kept S there past old
      → Short S L mem → now ≡ kept ++ mem → flash ≡ old ++ kept → Kept S there (past ++ now ∷ []) flash
  kept_more there past old kept mem now flash k s e f = rw (f, e) (power_on_lem kept mem k (omega (arith, lost_few S L kept mem s, length-append kept mem)))

  -- what was logged before a call was logged after it
  fit_logged : (past : List (List (ℕ × Record))) (now more : List (ℕ × Record)) → FlightsFit S (past ++ (now ++ more) ∷ []) → FlightsFit S (past ++ now ∷ [])
  fit_logged past now more h =
      each_append (Small S L) past (now ∷ []) (each_left (Small S L) past _ h)
      (each_left (λ entry. entry.0 < S.limit) now more (each_right (Small S L) past _ h).0, tt)

  fit_call : (c : Call S) (d : Device S) → FlightsFit S (history S (call S c d)) → FlightsFit S (history S d)
  fit_call (offers r) d h = h
  fit_call (drains order) d h = fit_logged d.past d.now (drain S order (ordered S d order)).logged h
  fit_call (writes g z) d h = fit_logged d.past d.now (write_pending S (begin S d g z)).logged h
  fit_call powers d h = each_left (Small S L) (d.past ++ d.now ∷ []) _ h

  fit_lives : (life : List (Call S)) (d : Device S) → FlightsFit S (history S (lives S life d)) → FlightsFit S (history S d)
  fit_lives [] d h = h
  fit_lives (c ∷ life) d h = fit_call c d (fit_lives life (call S c d) h)

  module _ (G : Ground S L) where
    -- how a device stands
    pub record Stands (d : Device S) : Type 0 where
      pub inv : Inv S L G d.log (phase_of S L d.writer) d.writer.next_page d.writer.next_flight d.past d.now
      pub sane : Sane S L d.writer
      pub fits : Each S.Fits d.queue
      pub small : FlightsFit S (history S d)

    pub begins : (d : Device S) (g : ℕ) (z : Next Mask) → Stands d → Good S L G d.past d.now (begin S d g z)
    begins d g z h = record { inv = rw (append-nil d.now) h.inv; sane = h.sane; fits = h.fits; small = tt }

    after : (d : Device S) (p : Pass S) → Stands d → Good S L G d.past d.now p → Stands (after_pass S d p)
    after d p h k =
        record {
          inv = k.inv;
          sane = k.sane;
          fits = k.fits;
          small =
              each_append (Small S L) d.past ((d.now ++ p.logged) ∷ []) (each_left (Small S L) d.past (d.now ∷ []) h.small) (
                each_append (λ entry. entry.0 < S.limit) d.now p.logged (each_right (Small S L) d.past (d.now ∷ []) h.small).0
                    k.small,
                tt,
              );
        }

    -- why flights are below the limit, at a device
    abbrev pub Because : Device S → Type 0
    Because d = FlightsFit S (history S d) ⊎ (G.top + G.count + 2 ≤ S.limit)

    pub why : (d : Device S) (p : Pass S) → Because (after_pass S d p) → Why S L G d.past d.now p.logged
    why d p (inl h) = inl (each_right (λ entry. entry.0 < S.limit) d.now p.logged (each_right (Small S L) d.past ((d.now ++ p.logged) ∷ []) h).0)
    why d p (inr r) = inr r

    woken_phase : (b : Bool) → woken S L b ≡ phase_of S L (recover S (new S) (record { page = 0; flight = 0; writable = b }))
    woken_phase true = refl
    woken_phase false = refl

    woken_sane : (b : Bool) → SaneBy S L b None None false [] false
    woken_sane true = (refl, refl)
    woken_sane false = refl

    -- one call
    pub record Called (d d' : Device S) : Type 0 where
      pub stands : Stands d'
      pub adds : OnlyAdds S d.log d'.log

    pub call_keeps : (c : Call S) (d : Device S) → Assumed S c d → Because (call S c d) → Stands d → Called d (call S c d)
    call_keeps (offers r) d a b h =
        record {
          stands = record { inv = h.inv; sane = h.sane; fits = each_append S.Fits d.queue (r ∷ []) h.fits (a, tt); small = h.small };
          adds = adds_none S L d.log;
        }
    call_keeps (drains order) d a b h =
        let k = drain_keeps S L G d.past d.now order (ordered S d order) (begins d order.succeed order.next h) a (why d (drain S order (ordered S d order)) b) in
        record { stands = after d (drain S order (ordered S d order)) h k.good; adds = k.adds }
    call_keeps (writes g z) d a b h =
        let k = write_keeps S L G d.past d.now (begin S d g z) (begins d g z h) a in
        record { stands = after d (write_pending S (begin S d g z)) h k.good; adds = k.adds }
    call_keeps powers d a b h =
        record {
          stands =
              record {
                inv = rw (← woken_phase (scan S d.log).writable) (keep_power_on S L G (settle S L G (phase_of S L d.writer) h.inv));
                sane = woken_sane (scan S d.log).writable;
                fits = tt;
                small = each_append (Small S L) (d.past ++ d.now ∷ []) ([] ∷ []) h.small (tt, tt);
              };
          adds = adds_none S L d.log;
        }

    pub because_before : (life : List (Call S)) (d : Device S) → Because (lives S life d) → Because d
    because_before life d (inl h) = inl (fit_lives life d h)
    because_before life d (inr r) = inr r

    pub lives_keep : (life : List (Call S)) (d : Device S) → AllAssumed S life d → Because (lives S life d) → Stands d → Called d (lives S life d)
    lives_keep [] d a b h = record { stands = h; adds = adds_none S L d.log }
    lives_keep (c ∷ life) d a b h =
        let first = call_keeps c d a.0 (because_before life (call S c d) b) h in
        let rest = lives_keep life (call S c d) a.1 b first.stands in
        record { stands = rest.stands; adds = adds_then S L first.adds rest.adds }

    -- before the first power-on
    module _ (log : List Page) (g : LogBy S G.Rule log) (n : newest g.ending ≡ G.top) (small : G.top < S.limit)
        (long : length log ≡ G.count) (bound : G.count < S.limit) (was : records_on S log ≡ G.there) where
      unpowered_stands : Stands (unpowered S log)
      unpowered_stands =
          record {
            inv =
                record {
                  base = g.used;
                  more = g.rest;
                  ending = g.ending;
                  old = G.there;
                  kept = [];
                  mem = [];
                  follows = g.follows;
                  split = g.split;
                  before = no_power_on;
                  on_flash_lem = only_used ∙ was ∙ sym (append-nil G.there);
                  logged = refl;
                  risen = omega arith;
                  newest_small = omega arith;
                  long = long;
                  bound = bound;
                  stands = (g.blanks, short_none S L);
                };
            sane = refl;
            fits = tt;
            small = (tt, tt);
          }
        where
          only_used : records_on S g.used ≡ records_on S log
          only_used = sym (records_used log g.used g.rest g.split g.blanks)

    -- the log as it is left, with the writer gone
    module _ (d : Device S) (h : Stands d) where
      pub settled : Inv S L G d.log off d.writer.next_page d.writer.next_flight d.past d.now
      settled = settle S L G (phase_of S L d.writer) h.inv

      abbrev pub left : LogBy S G.Rule d.log
      left =
          record {
            used = settled.base;
            rest = settled.more;
            ending = settled.ending;
            follows = settled.follows;
            blanks = settled.stands.0;
            split = settled.split;
          }

      abbrev pub left_loose : Loose S d.log
      left_loose = log_map S L G.loose left

      pub holds : 0 < G.count → Holds S G.there d
      holds z =
          record {
            records = kept;
            scanned = scan_says S L d.log left_loose settled.newest_small (omega (arith, settled.long));
            searched = search_finds S L d.log left_loose;
            known = flights_known S L d.log left_loose;
            below = λ ours i l. omega (arith, flights_below S L d.log left_loose ours i l, settled.newest_small);
          }
        where
          on_flash_lem : records_on S d.log ≡ settled.old ++ settled.kept
          on_flash_lem = records_used d.log settled.base settled.more settled.split settled.stands.0 ∙ settled.on_flash_lem

          kept : Kept S G.there (history S d) (records_on S d.log)
          kept =
              kept_more G.there d.past settled.old settled.kept settled.mem d.now (records_on S d.log) settled.before
              settled.stands.1 settled.logged on_flash_lem

  -- from a loose beginning
  module _ (log : List Page) (b : Beginning S log) where
    abbrev loosely : Ground S L
    loosely =
        record {
          Rule = LooseRule S;
          ours = strict_loose;
          loose = λ st p c r. r;
          count = length log;
          top = newest b.loose.ending;
          there = records_on S log;
        }

    newest_begin : newest b.loose.ending ≤ newest_flight S log
    newest_begin = rw b.loose.split (newest_read S L b.loose.follows b.loose.rest b.loose.blanks)

    began : Stands loosely (unpowered S log)
    began = unpowered_stands loosely log b.loose refl (omega (arith, newest_begin, b.newest_fits)) refl b.long refl

  pub every_life : EveryLife S
  every_life log b life a fit =
      holds (loosely log b) (lives S life (unpowered S log)) (lives_keep (loosely log b) life (unpowered S log) a (inl fit) (began log b)).stands
      b.some_page

  pub records_stay : RecordsStay S
  records_stay log b life after a a' fit =
      let k = lives_keep (loosely log b) life (unpowered S log) a (inl (fit_lives after (lives S life (unpowered S log)) fit)) (began log b) in
      (lives_keep (loosely log b) after (lives S life (unpowered S log)) a' (inl fit) k.stands).adds

  pub no_wrap : NoWrap S
  no_wrap log b room life a = (lives_keep (loosely log b) life (unpowered S log) a (inr (omega (arith, newest_begin log b))) (began log b)).stands.small

  -- on a log that is not writable write_pending has no page to write
  pub write_off : (p : Pass S) (v : Writer S) (writable : Bool) (waiting ready : Option Page) (r : Bool) (rows : List Record) (m : Bool)
      → writable ≡ false → waiting ≡ None
      → write_pending S (with_writer S (shaped S L writable waiting ready r rows m v) p) ≡ with_writer S (shaped S L writable waiting ready r rows m v) p
  write_off p v true waiting ready r rows m h e = absurd (false≢true (sym h))
  write_off p v false (Some page) ready r rows m h e = absurd (none_some e refl)
  write_off p v false None ready r rows m h e = refl

  pub quiet_call : (c : Call S) (l : List Page) (d : Device S) → (scan S l).writable ≡ false → d.log ≡ l → d.writer.writable ≡ false → d.writer.waiting ≡ None
      → ((call S c d).log ≡ l) × ((call S c d).writer.writable ≡ false) × ((call S c d).writer.waiting ≡ None)
  quiet_call (offers r) l d h e w n = (e, w, n)
  quiet_call (drains order) l d h e w n =
      let q = drain_off S order (ordered S d order) w in
      (ap (λ (p : Pass S). p.log) q ∙ e, ap (λ (p : Pass S). p.writer.writable) q ∙ w, ap (λ (p : Pass S). p.writer.waiting) q ∙ n)
  quiet_call (writes g z) l d h e w n =
      let q =
      write_off (begin S d g z) d.writer d.writer.writable d.writer.waiting d.writer.assembler.ready
      d.writer.assembler.recording d.writer.assembler.rows d.writer.assembler.mark_pending w n in
      (ap (λ (p : Pass S). p.log) q ∙ e, ap (λ (p : Pass S). p.writer.writable) q ∙ w, ap (λ (p : Pass S). p.writer.waiting) q ∙ n)
  quiet_call powers l d h e w n = (e, rw e h, refl)

  quiet : (life : List (Call S)) (l : List Page) (d : Device S) → (scan S l).writable ≡ false → d.log ≡ l → d.writer.writable ≡ false
      → d.writer.waiting ≡ None → (lives S life d).log ≡ l
  quiet [] l d h e w n = e
  quiet (c ∷ life) l d h e w n = let q = quiet_call c l d h e w n in quiet life l (call S c d) h q.0 q.1 q.2

  pub not_writable : NotWritable S
  not_writable d life h = quiet life d.log (power_on S d) h refl h refl

  -- from an erased log
  abbrev pub blanks_erased : (pages : ℕ) → Blanks S (erased S pages)
  blanks_erased zero = tt
  blanks_erased (suc pages) = (refl, blanks_erased pages)

  abbrev erased_by : (Rule : Ending Record → Page → Decoded Record → Type 0) (pages : ℕ) → LogBy S Rule (erased S pages)
  erased_by Rule pages = record { used = []; rest = erased S pages; ending = unused; follows = nothing_used; blanks = blanks_erased pages; split = refl }

  newest_erased : (pages : ℕ) → newest_flight S (erased S pages) ≡ 0
  newest_erased pages = newest_blanks S L 0 (erased S pages) (blanks_erased pages)

  erased_beginning : (pages : ℕ) → 0 < pages → pages + 2 ≤ S.limit → Beginning S (erased S pages)
  erased_beginning pages z h =
      record {
        loose = erased_by (LooseRule S) pages;
        some_page = rw (length-replicate pages S.blank) z;
        long = rw (length-replicate pages S.blank) (omega arith);
        newest_fits = rw (newest_erased pages) (omega arith);
      }

  pub from_erased : FromErased S
  from_erased pages z h life a =
      rw (records_blanks S L (erased S pages) (blanks_erased pages)) at
      (every_life (erased S pages) (erased_beginning pages z h) life a
      (no_wrap (erased S pages) (erased_beginning pages z h) (rw (newest_erased pages, length-replicate pages S.blank) (omega arith)) life a))

  -- the same from an erased log at the strict rule
  abbrev pub strictly : ℕ → Ground S L
  strictly pages = record { Rule = StrictRule S; ours = λ st p c r. r; loose = strict_loose; count = pages; top = 0; there = [] }

  pub erased_stands : (pages : ℕ) → pages + 2 ≤ S.limit → Stands (strictly pages) (unpowered S (erased S pages))
  erased_stands pages h =
      unpowered_stands (strictly pages) (erased S pages) (erased_by (StrictRule S) pages) refl (omega arith) (length-replicate pages S.blank)
      (omega arith) (records_blanks S L (erased S pages) (blanks_erased pages))

  pub strict_from_erased : StrictFromErased S
  strict_from_erased pages z h life a =
      left (strictly pages) (lives S life (unpowered S (erased S pages)))
      (lives_keep (strictly pages) life (unpowered S (erased S pages)) a (inr (omega arith)) (erased_stands pages h)).stands

  pub stay_from_erased : StayFromErased S
  stay_from_erased pages z h life after a a' =
      let k = lives_keep (strictly pages) life (unpowered S (erased S pages)) a (inr (omega arith)) (erased_stands pages h) in
      (lives_keep (strictly pages) after (lives S life (unpowered S (erased S pages))) a' (inr (omega arith)) k.stands).adds

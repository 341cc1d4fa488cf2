-- Demand 3 on the bytes: what the rig plays is a life of the theory, whose theorem holds of it. Assumes nothing.
use Prim.Native.Nat.{ℕ, suc, ◌+◌, ◌-◌, ◌*◌, ◌^◌, ◌≤◌, ◌<◌}
use mathlib.Core.Path.{◌≡◌, refl, sym, ap, ◌∙◌, subst}
use mathlib.Core.Bool.{Bool, true, false, cond}
use mathlib.Core.List.{List, [], ◌∷◌, ◌++◌, append_assoc}
use native.Mathlib.Omega.{arith}
use borrow.Author.Tests.{eq-eqb}
use lib.Dec.{eqb}
use lib.ListN.{length}
use Rattle.laws.specs.Refusals.{bad_length}
use Rattle.laws.specs.Answers.{Answer, gives, refuses, must}
use Rattle.power.specs.Pages.{last_per_page}
use Rattle.power.specs.Claims.{Kept, OnlyAdds, ForeignLog, ScanSays, SearchFinds, OneEdition}
use Rattle.power.specs.Grammar.{Strict}
use Rattle.power.specs.Life.{Call, Device}
use Rattle.power.specs.Life as Life
use Rattle.power.specs.Reading.{first_blank, records_on}
use Rattle.power.specs.Scan.{scan, find, FlightsKnown, flight_number}
use Rattle.power.specs.Theorem.{Holds, erased}
use Rattle.power.proofs.Theorem.{from_erased, strict_from_erased, stay_from_erased, not_writable}
use Rattle.power.proofs.Moments.{lives_append}
use Rattle.power.proofs.Editions.{one_edition_from_erased}
use Rattle.layout.specs.Layout.{valid_capacity, pages_in}
use Rattle.layout.proofs.Capacity.{valid}
use Rattle.store.specs.Store.{no_faults, leaves}
use Rattle.store.proofs.Checks.{on_image_lem}
use Rattle.assembler.specs.Assembler as Assembler
use Rattle.queue.specs.Queue.{empty}
use Rattle.records.specs.declared.Scan.{Scan}
use Rattle.blackbox.specs.declared.FlightRecord.{FlightRecord}
use Rattle.log_state.specs.Writer.{fresh}
use Rattle.power_pages.specs.Store.{real}
use Rattle.power_pages.proofs.Real.{real_lawful}
use Rattle.power_pages.proofs.Scan.{length_pages, scan_is_theory}
use Rattle.power_pages.proofs.Search.{find_is_theory}
use Rattle.script.specs.Script.{Operation, offers, drains, writes, powers, recovers, resets, flushes, rows_in, operations}
use Rattle.script.specs.Laws.{EachWrites}
use Rattle.script.proofs.Laws.{rows_fit}
use Rattle.rig.specs.Rig.{unpowered, played, image_after, plays, plays_image, on_script, after_play}
use Rattle.rig.specs.declared.Bench.{Bench}
use Rattle.rig.proofs.Laws.{unpowered_sound}
use Rattle.power_lives.specs.Lives.{takes, drain_of, write_of, calls_of, life_from, life_of, life_after, device_before, device_after, NoneDecodes}
use Rattle.power_lives.specs.Theorem.{Plays, log_of, Erased, Assumed, logged_in, Safe, Demand3, RecordsStay, NotWritable, ScriptsCallTheWriter, FiveAtMost}
use Rattle.power_lives.proofs.Lives.{device_of, Reaches, Fine, none_faulty, one_a_page, all_go, all_only_log}

-- ---- the assumptions

-- what the rows of a script offer are records, so that the theory's assumption is the one of demand 3
assumed_of : (capacity : ℕ) (os : List Operation) (b : Bench) (image : List ℕ) (d : Device real) → EachWrites os
    → NoneDecodes (life_from capacity os b image) d → Life.AllAssumed real (life_from capacity os b image) d
assumed_of c [] b image d w n = tt
assumed_of c (offers r ∷ os) b image d w n =
    go (takes b) n (λ e m. assumed_of c os (played c (offers r) b image).bench (image_after c (offers r) b image) e w.1 m)
  where
    rest : List (Call real)
    rest = life_from c os (played c (offers r) b image).bench (image_after c (offers r) b image)

    go : (z : Bool) → NoneDecodes (cond z (Life.offers r ∷ []) [] ++ rest) d
        → ((e : Device real) → NoneDecodes rest e → Life.AllAssumed real rest e) → Life.AllAssumed real (cond z (Life.offers r ∷ []) [] ++ rest) d
    go true m h = (w.0, h (Life.call real (Life.offers r) d) m)
    go false m h = h d m
assumed_of c (drains order keep ∷ os) b image d w n =
    (n.0, assumed_of c os _ _ (Life.call real (drain_of order keep) d) w.1 n.1)
assumed_of c (writes succeed next keep ∷ os) b image d w n =
    (n.0, assumed_of c os _ _ (Life.call real (write_of succeed next keep) d) w.1 n.1)
assumed_of c (powers ∷ os) b image d w n = (tt, assumed_of c os _ _ (Life.call real Life.powers d) w.1 n)
assumed_of c (recovers page flight writable ∷ os) b image d w n = assumed_of c os _ _ d w.1 n
assumed_of c (resets ∷ os) b image d w n = assumed_of c os _ _ d w.1 n
assumed_of c (flushes buffered clock ∷ os) b image d w n = assumed_of c os _ _ d w.1 n

-- ---- a script that is played

-- every test is passed
on_script_lem : {A : Type 0} (c : ℕ) (image script output : List ℕ) (rest : Answer A) → Plays c image script output
    → on_script c (length image) script (length output) rest ≡ rest
unfolding on_script
on_script_lem c image script output rest p =
    on_image_lem c (length image) _ p.valid p.whole
    ∙ ap (λ (z : Bool). must z bad_length (must (eqb (length output) (rows_in script * 40)) bad_length rest)) p.rows
    ∙ ap (λ (z : Bool). must z bad_length rest) (eq-eqb (length output) (rows_in script * 40) p.told)

pub left_is : (c : ℕ) (image script output : List ℕ) → Plays c image script output
    → after_play c image script output ≡ plays_image c (operations script) unpowered image
left_is c image script output p = ap (leaves image) (on_script_lem c image script output (gives (plays_image c (operations script) unpowered image)) p)

pub after_long : (c : ℕ) (image script output : List ℕ) → Plays c image script output → length (after_play c image script output) ≡ c
after_long c image script output p =
    ap length (left_is c image script output p) ∙ (all_only_log c (operations script) unpowered image unpowered_sound).long ∙ p.whole

pub begun_is : (c : ℕ) (image : List ℕ) → device_before c image ≡ device_of (pages_in c) unpowered image [] []
unfolding unpowered fresh Assembler.fresh empty
begun_is c image = refl

pub begun_fine : (c : ℕ) (image script output : List ℕ) → Plays c image script output → Fine c unpowered image
begun_fine c image script output p = record { valid = p.valid; whole = p.whole; sound = unpowered_sound }

pub some_pages : (c : ℕ) → valid_capacity c ≡ true → 0 < pages_in c
some_pages c v = let h = valid c v in omega (arith, h.above, h.sectors)

pub few_pages : (c : ℕ) → valid_capacity c ≡ true → pages_in c + 2 ≤ 2 ^ 32 - 1
few_pages c v = let h = valid c v in omega (arith, h.most)

pub first_within : (log : List (List ℕ)) → first_blank real log ≤ length log
first_within [] = omega arith
first_within (page ∷ log) = go (real.is_blank page) (first_within log)
  where
    go : (z : Bool) → first_blank real log ≤ length log → cond z 0 (suc (first_blank real log)) ≤ suc (length log)
    go true h = omega arith
    go false h = omega arith

-- what is claimed of a log
record Claimed (logged : List (List (ℕ × FlightRecord))) (log : List (List ℕ)) : Type 0 where
  pub records : Kept real [] logged (records_on real log)
  pub scan_says : ScanSays real log (scan real log)
  pub find_says : ¬ ForeignLog real log → (flight : ℕ) → SearchFinds real log flight (find real log (first_blank real log) flight)
  pub known : ¬ ForeignLog real log → FlightsKnown real log (first_blank real log)
  pub below : ¬ ForeignLog real log → (i : ℕ) → i < first_blank real log → flight_number real log i < 2 ^ 32 - 1
  pub strict : Strict real log
  pub one_edition : OneEdition real log

-- ---- a script that goes on where another ends

life_append : (c : ℕ) (os more : List Operation) (b : Bench) (image : List ℕ)
    → life_from c (os ++ more) b image ≡ life_from c os b image ++ life_from c more (plays c os b image) (plays_image c os b image)
unfolding plays plays_image
life_append c [] more b image = refl
life_append c (o ∷ os) more b image =
    ap (λ (l : List (Call real)). calls_of o b ++ l) (life_append c os more (played c o b image).bench (image_after c o b image))
    ∙ sym (append_assoc (calls_of o b) (life_from c os (played c o b image).bench (image_after c o b image))
    (life_from c more (plays c os (played c o b image).bench (image_after c o b image)) (plays_image c os (played c o b image).bench (image_after c o b image))))

-- the life of the longer one
pub longer_life : (c : ℕ) (image script longer : List ℕ) (more : List Operation) → operations longer ≡ operations script ++ more
    → life_of c image longer ≡ life_of c image script ++ life_after c image script more
longer_life c image script longer more e =
    ap (λ (os : List Operation). life_from c os unpowered image) e ∙ life_append c (operations script) more unpowered image

pub assumed_split : (a b : List (Call real)) (d : Device real) → Life.AllAssumed real (a ++ b) d
    → Life.AllAssumed real a d × Life.AllAssumed real b (Life.lives real a d)
assumed_split [] b d h = (tt, h)
assumed_split (x ∷ a) b d h = let t = assumed_split a b (Life.call real x d) h.1 in ((h.0, t.0), t.1)

-- whether a scan says writable
may_write : Answer Scan → Bool
may_write (gives s) = s.writable
may_write (refuses number fault) = true

-- the device after the script is the bench and the image that the rig leaves
pub reached : (c : ℕ) (image script output : List ℕ) → Plays c image script output
    → Reaches (pages_in c) (device_after c image script) (plays c (operations script) unpowered image) (after_play c image script output)
reached c image script output p =
    let h = all_go c (operations script) unpowered image (begun_fine c image script output p) p.life (rows_fit script p.bytes p.rows) [] [] in
    record {
      past = h.past;
      now = h.now;
      same =
          ap (Life.lives real (life_of c image script)) (begun_is c image) ∙ h.same
          ∙ ap (λ (m : List ℕ). device_of (pages_in c) (plays c (operations script) unpowered image) m h.past h.now) (sym (left_is c image script output p));
    }

pub log_is : (c : ℕ) (image script output : List ℕ) → Plays c image script output
    → (device_after c image script).log ≡ log_of c (after_play c image script output)
log_is c image script output p = ap (λ (d : Device real). d.log) (reached c image script output p).same

module _ (c : ℕ) (image script output : List ℕ) (p : Plays c image script output) (blank : Erased c image) (none : Assumed c image script) where
  pub assumed : Life.AllAssumed real (life_of c image script) (Life.unpowered real (erased real (pages_in c)))
  assumed =
      subst (λ (log : List (List ℕ)). Life.AllAssumed real (life_of c image script) (Life.unpowered real log)) blank
      (assumed_of c (operations script) unpowered image (device_before c image) (rows_fit script p.bytes p.rows) none)

  claimed : Claimed (logged_in c image script) (device_after c image script).log
  claimed =
      let h : Holds real [] (device_after c image script) =
      subst (λ (log : List (List ℕ)). Holds real [] (Life.lives real (life_of c image script) (Life.unpowered real log))) (sym blank)
      (from_erased real real_lawful (pages_in c) (some_pages c p.valid) (few_pages c p.valid) (life_of c image script) assumed) in
      let g : Strict real (device_after c image script).log =
      subst (λ (log : List (List ℕ)). Strict real (Life.lives real (life_of c image script) (Life.unpowered real log)).log) (sym blank)
      (strict_from_erased real real_lawful (pages_in c) (some_pages c p.valid) (few_pages c p.valid) (life_of c image script) assumed) in
      let one : OneEdition real (device_after c image script).log =
      subst (λ (log : List (List ℕ)). OneEdition real (Life.lives real (life_of c image script) (Life.unpowered real log)).log) (sym blank)
      (one_edition_from_erased real real_lawful (pages_in c) (some_pages c p.valid) (few_pages c p.valid) (life_of c image script) assumed) in
      record { records = h.records; scan_says = h.scanned; find_says = h.searched; known = h.known; below = h.below; strict = g; one_edition = one }

  claimed_there : Claimed (logged_in c image script) (log_of c (after_play c image script output))
  claimed_there = subst (Claimed (logged_in c image script)) (log_is c image script output p) claimed

  safe : Safe c image (after_play c image script output) (logged_in c image script)
  safe =
      let h = claimed_there in
      record {
        records = h.records;
        scan_log = scan_is_theory c (after_play c image script output) (no_faults c) p.valid (after_long c image script output p) (one_a_page c) (none_faulty c);
        scan_says = h.scan_says;
        find_flight = λ ours flight.
            find_is_theory c (after_play c image script output) (no_faults c) p.valid (after_long c image script output p) (one_a_page c) (none_faulty c)
            (first_blank real (log_of c (after_play c image script output)))
            (omega (arith, first_within (log_of c (after_play c image script output)), length_pages (after_play c image script output) 0 (pages_in c)))
            (h.known ours) (h.below ours) flight;
        find_says = h.find_says;
        strict = h.strict;
        one_edition = h.one_edition;
        outside = rw (left_is c image script output p) (all_only_log c (operations script) unpowered image unpowered_sound);
      }

pub demand_3 : Demand3
demand_3 = safe

-- of a life whose assumption is met call by call
pub none_decodes : (life : List (Call real)) (d : Device real) → Life.AllAssumed real life d → NoneDecodes life d
none_decodes [] d a = tt
none_decodes (Life.offers r ∷ life) d a = none_decodes life (Life.call real (Life.offers r) d) a.1
none_decodes (Life.drains order ∷ life) d a =
    (a.0, none_decodes life (Life.call real (Life.drains order) d) a.1)
none_decodes (Life.writes succeed next ∷ life) d a = (a.0, none_decodes life (Life.call real (Life.writes succeed next) d) a.1)
none_decodes (Life.powers ∷ life) d a = none_decodes life (Life.call real Life.powers d) a.1

module _ (c : ℕ) (image script output longer output' : List ℕ) (more : List Operation) (p : Plays c image script output)
    (p' : Plays c image longer output') where
  -- the calls that the longer script makes after the other
  rest : List (Call real)
  rest = life_after c image script more

  longer_log : operations longer ≡ operations script ++ more
      → log_of c (after_play c image longer output') ≡ (Life.lives real rest (device_after c image script)).log
  unfolding rest
  longer_log e =
      sym (log_is c image longer output' p')
      ∙ ap (λ (l : List (Call real)). (Life.lives real l (device_before c image)).log) (longer_life c image script longer more e)
      ∙ ap (λ (d : Device real). d.log) (lives_append real real_lawful (life_of c image script) rest (device_before c image))

  stay : operations longer ≡ operations script ++ more → Erased c image → Assumed c image longer
      → OnlyAdds real (log_of c (after_play c image script output)) (log_of c (after_play c image longer output'))
  unfolding rest
  stay e blank none =
      let all = subst (λ (l : List (Call real)). Life.AllAssumed real l (Life.unpowered real (erased real (pages_in c))))
      (longer_life c image script longer more e) (assumed c image longer output' p' blank none) in
      let parts = assumed_split (life_of c image script) rest (Life.unpowered real (erased real (pages_in c))) all in
      let h = stay_from_erased real real_lawful (pages_in c) (some_pages c p.valid) (few_pages c p.valid) (life_of c image script) rest parts.0 parts.1 in
      let there = subst (λ (log : List (List ℕ)). OnlyAdds real (Life.lives real (life_of c image script) (Life.unpowered real log)).log
      (Life.lives real rest (Life.lives real (life_of c image script) (Life.unpowered real log))).log) (sym blank) h in
      subst (λ (log : List (List ℕ)). OnlyAdds real log (log_of c (after_play c image longer output'))) (log_is c image script output p)
      (subst (λ (log : List (List ℕ)). OnlyAdds real (device_after c image script).log log) (sym (longer_log e)) there)

pub records_stay : RecordsStay
records_stay c image script output longer output' more p p' e blank none = stay c image script output longer output' more p p' e blank none

pub nothing_written : NotWritable
unfolding rest may_write
nothing_written c image script output longer output' more s p p' e said off =
    longer_log c image script output longer output' (powers ∷ more) p p' e
    ∙ not_writable real real_lawful (device_after c image script) (life_from c more _ _)
    (ap (λ (log : List (List ℕ)). (scan real log).writable) (log_is c image script output p) ∙ read)
    ∙ log_is c image script output p
  where
    after : List ℕ
    after = after_play c image script output

    read : (scan real (log_of c after)).writable ≡ false
    read = ap may_write (sym (scan_is_theory c after (no_faults c) p.valid (after_long c image script output p) (one_a_page c) (none_faulty c)) ∙ said) ∙ off

last_five : (n : ℕ) → n ≤ 5 → (logged : List (ℕ × FlightRecord)) → last_per_page real n logged ≤ 5
last_five n h [] = h
last_five n h (entry ∷ logged) = last_five 5 (omega arith) logged

pub five_at_most : FiveAtMost
five_at_most logged = omega (arith, last_five 0 (omega arith) logged)

pub scripts_call_the_writer : ScriptsCallTheWriter
unfolding played image_after
scripts_call_the_writer c order succeed next keep b image = (refl, refl, refl, refl)

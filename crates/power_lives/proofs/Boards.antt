-- One board and two on the bytes: the theory's laws at the page of 256 bytes, of what the rig plays. Assumes nothing.
use Prim.Native.Nat.{ℕ, ◌+◌, ◌≤◌}
use mathlib.Core.Path.{◌≡◌, refl, sym, ap, ◌∙◌, subst}
use mathlib.Core.Bool.{Bool, true, false, cond, false≢true}
use Rattle.std.specs.Prelude.{None, Option, Some, is_some}
use mathlib.Core.Logic.{◌↔◌, inl, ◌⊎◌, inr}
use mathlib.Core.List.{List, [], ◌∷◌, ◌++◌, append-nil}
use native.Mathlib.Omega.{arith}
use lib.ListN.{length}
use Rattle.power.specs.Reading.{Torn, page_at}
use Rattle.power.specs.Writer as Model
use Rattle.power.specs.Life.{Call, Device}
use Rattle.power.specs.Life as Life
use Rattle.power.specs.Segments.{split_by, filled, starts}
use Rattle.power.specs.Boards.{seen, each_seen, Aligned, both?, none?, aligned?, AtMost, segments_of, Explained}
use Rattle.power.specs.Offers.{OffersOf, Within, unflown}
use Rattle.power.specs.Theorem.{erased}
use Rattle.power.specs.Torn.{torn_in, AllFinished, MarkAfterTorn}
use Rattle.power.specs.Torn as Theory
use Rattle.power.proofs.Moments.{lives_append}
use Rattle.power.proofs.Segments.{segmented, marks_first}
use Rattle.power.proofs.Tested.{both_true, true_both, aligned_is_tested}
use Rattle.power.proofs.Boards.{two_power_ons, explained, paired}
use Rattle.power.proofs.Shut.{equal_aligned, shut_explained}
use Rattle.power.proofs.Offers.{logged_within, streams_aligned}
use Rattle.power.proofs.Torn.{at_most_one_torn}
use Rattle.power.proofs.Torn as Torn
use Rattle.power.proofs.TornEnds as Ends
use Rattle.words.specs.Words.{same_bytes}
use Rattle.words.proofs.Same.{same_refl, same_equal}
use Rattle.blackbox.specs.declared.FlightRecord.{FlightRecord}
use Rattle.layout.specs.Layout.{pages_in}
use Rattle.queue.specs.Queue.{records_held}
use Rattle.queue.proofs.Laws.{holds_at_most_31}
use Rattle.power_pages.specs.Store.{real}
use Rattle.power_pages.proofs.Real.{real_lawful}
use Rattle.script.specs.Script.{Operation, offers, drains, writes, powers, recovers, resets, flushes, operations}
use Rattle.script.specs.Laws.{EachWrites}
use Rattle.script.proofs.Laws.{rows_fit}
use Rattle.rig.specs.Rig.{unpowered, played, image_after, plays_image, after_play}
use Rattle.rig.specs.declared.Bench.{Bench}
use Rattle.power_lives.specs.Lives.{EachOfLife, takes, drain_of, write_of, calls_of, life_from, life_of, life_after, device_before, device_after}
use Rattle.power_lives.specs.Theorem.{Plays, log_of, logged_in, bench_after}
use Rattle.power_lives.specs.Boards.{Board, on_flash, SegmentsOfImage, NoPowerOn, OneTornPage, NoneTornIfFinished, TornEndsPowerOn, SameLoggedNear, TornIsLeft}
use Rattle.power_lives.specs.Boards.{ImagesExplained, ImagesPaired, accepted_in, Heeds, OffersHeeded, LoggedBut31, StreamsOfImages}
use Rattle.power_lives.specs.Boards.{by_bytes, is_shut, explained_images?, ImagesAreTested, SameLoggedPasses, ShutBoards}
use Rattle.power_lives.proofs.Lives.{device_of, Fine, goes, fine_after}
use Rattle.power_lives.proofs.Theorem.{log_is, begun_is, begun_fine, demand_3, assumed, assumed_split, longer_life, some_pages, few_pages}
use Rattle.power_lives.proofs.Ghost.{devices_agree}

-- the queue never holds more than 31
module _ (c : ℕ) where
  held : (b : Bench) (image : List ℕ) → Fine c b image → length (records_held b.queue) ≤ 31
  held b image f = let h = holds_at_most_31 b.queue f.sound.queue in omega (arith, h.0, h.1)

  within : (os : List Operation) (b : Bench) (image : List ℕ) (past : List (List (ℕ × FlightRecord))) (now : List (ℕ × FlightRecord)) → Fine c b image
      → EachOfLife os → EachWrites os → Heeds (life_from c os b image) (device_of (pages_in c) b image past now)
      → Within real 31 (life_from c os b image) (device_of (pages_in c) b image past now)
  within [] b image past now f l w h = held b image f
  within (o ∷ os) b image past now f l w h =
      let g = goes c b image f past now o l.0 w.0 in
      step o (takes b) refl
      (λ k. subst (Within real 31 rest) (sym g.same)
      (within os (played c o b image).bench (image_after c o b image) g.past g.now (fine_after c o b image f) l.1 w.1 (subst (Heeds rest) g.same k)))
      h
    where
      rest : List (Call real)
      rest = life_from c os (played c o b image).bench (image_after c o b image)

      d : Device real
      d = device_of (pages_in c) b image past now

      one : (x : Call real) → (Heeds rest (Life.call real x d) → Within real 31 rest (Life.call real x d)) → Heeds (x ∷ rest) d → Within real 31 (x ∷ rest) d
      one x k m = (held b image f, m.0, k m.1)

      offered : (r : FlightRecord) (z : Bool)
          → (Heeds rest (Life.lives real (cond z (Life.offers r ∷ []) []) d) → Within real 31 rest (Life.lives real (cond z (Life.offers r ∷ []) []) d))
          → Heeds (cond z (Life.offers r ∷ []) [] ++ rest) d → Within real 31 (cond z (Life.offers r ∷ []) [] ++ rest) d
      offered r true k m = one (Life.offers r) k m
      offered r false k m = k m

      step : (x : Operation) (z : Bool) → takes b ≡ z
          → (Heeds rest (Life.lives real (calls_of x b) d) → Within real 31 rest (Life.lives real (calls_of x b) d))
          → Heeds (calls_of x b ++ rest) d → Within real 31 (calls_of x b ++ rest) d
      step (offers r) z e k m = offered r (takes b) k m
      step (drains order keep) z e k m = one (drain_of order keep) k m
      step (writes succeed next keep) z e k m = one (write_of succeed next keep) k m
      step powers z e k m = one Life.powers k m
      step (recovers page flight writable) z e k m = k m
      step resets z e k m = k m
      step (flushes buffered clock) z e k m = k m

  all_within : (image script output : List ℕ) → Plays c image script output → OffersHeeded c image script
      → Within real 31 (life_of c image script) (device_before c image)
  all_within image script output p h =
      subst (Within real 31 (life_of c image script)) (sym (begun_is c image))
      (within (operations script) unpowered image [] [] (begun_fine c image script output p) p.life (rows_fit script p.bytes p.rows)
      (subst (Heeds (life_of c image script)) (begun_is c image) h))

-- every record is of the one edition
one_edition : (life : List (Call real)) → OffersOf real tt life
one_edition [] = tt
one_edition (Life.offers r ∷ life) = (refl, one_edition life)
one_edition (Life.drains order ∷ life) = one_edition life
one_edition (Life.writes succeed next ∷ life) = one_edition life
one_edition (Life.powers ∷ life) = one_edition life

pub logged_but_31 : LoggedBut31
logged_but_31 c image script output while_disarmed p s h =
    logged_within real real_lawful tt 31 while_disarmed (log_of c image) (life_of c image script) (one_edition (life_of c image script)) s
    (all_within c image script output p h)

-- ---- images

pub segments_of_image : SegmentsOfImage
segments_of_image c image script output b =
    segmented real real_lawful (logged_in c image script) (on_flash c (after_play c image script output))
    (demand_3 c image script output b.played b.erased b.assumed).records (marks_first real real_lawful (life_of c image script) (log_of c image) b.plain)

few : AtMost real 5
few e = omega arith

pub same_logged_near : SameLoggedNear
same_logged_near Key view logged kept logged' kept' h h' e =
    two_power_ons real real_lawful view 5 few 0 logged kept logged' kept' h h'
    (inl (record { more = []; few = omega arith; all = sym e ∙ sym (append-nil (seen view logged)) }))

pub images_explained : ImagesExplained
images_explained Key view n shut_left shut_right c image script output c' image' script' output' b b' al =
    explained real real_lawful view 5 few n shut_left shut_right (logged_in c image script) (logged_in c' image' script')
    (on_flash c (after_play c image script output)) (on_flash c' (after_play c' image' script' output')) (segments_of_image c image script output b)
    (segments_of_image c' image' script' output' b') al

pub images_paired : ImagesPaired
images_paired Key view n c image script output c' image' script' output' b b' near long long' =
    paired real real_lawful view 5 few n (logged_in c image script) (logged_in c' image' script') (on_flash c (after_play c image script output))
    (on_flash c' (after_play c' image' script' output')) (segments_of_image c image script output b) (segments_of_image c' image' script' output' b') near long long'

pub streams_of_images : StreamsOfImages
streams_of_images n while_disarmed shut_left shut_right c image script output c' image' script' output' b b' s s' h h' near =
    images_explained FlightRecord (unflown real) (n + 31) shut_left shut_right c image script output c' image' script' output' b b'
    (streams_aligned real real_lawful n 31 while_disarmed shut_left shut_right (accepted_in c image script) (accepted_in c' image' script') (logged_in c image script)
    (logged_in c' image' script') (logged_but_31 c image script output while_disarmed b.played s h)
    (logged_but_31 c' image' script' output' while_disarmed b'.played s' h') near)

-- ---- torn pages

no_power : (os : List Operation) (b : Bench) → (c : ℕ) (image : List ℕ) → NoPowerOn os → Theory.NoPowerOn real (life_from c os b image)
no_power [] b c image h = tt
no_power (offers r ∷ os) b c image h = go (takes b) (no_power os (played c (offers r) b image).bench c (image_after c (offers r) b image) h)
  where
    go : (z : Bool) → Theory.NoPowerOn real (life_from c os (played c (offers r) b image).bench (image_after c (offers r) b image))
        → Theory.NoPowerOn real (cond z (Life.offers r ∷ []) [] ++ life_from c os (played c (offers r) b image).bench (image_after c (offers r) b image))
    go true k = k
    go false k = k
no_power (drains order keep ∷ os) b c image h = no_power os _ c _ h
no_power (writes succeed next keep ∷ os) b c image h = no_power os _ c _ h
no_power (powers ∷ os) b c image h = absurd h
no_power (recovers page flight writable ∷ os) b c image h = no_power os _ c _ h
no_power (resets ∷ os) b c image h = no_power os _ c _ h
no_power (flushes buffered clock ∷ os) b c image h = no_power os _ c _ h

-- where no page waits, none is there
none_waits : (pending : Option (List ℕ)) → is_some pending ≡ false → pending ≡ None
none_waits (Some page) e = absurd (false≢true (sym e))
none_waits None e = refl

module _ (c : ℕ) (image script output longer output' : List ℕ) (p : Plays c image script output) (b : Board c image longer output')
    (calls : List (Call real)) (e : life_of c image longer ≡ life_of c image script ++ calls) where
  abbrev blank : Device real
  blank = Life.unpowered real (erased real (pages_in c))

  -- the assumption of the longer script, before and after the other's end
  all : Life.AllAssumed real (life_of c image script ++ calls) blank
  all = subst (λ (l : List (Call real)). Life.AllAssumed real l blank) e (assumed c image longer output' b.played b.erased b.assumed)

  parts : Life.AllAssumed real (life_of c image script) blank × Life.AllAssumed real calls (Life.lives real (life_of c image script) blank)
  parts = assumed_split (life_of c image script) calls blank all

  -- the two logs, from the erased one
  log_before : (Life.lives real (life_of c image script) blank).log ≡ log_of c (after_play c image script output)
  log_before =
      ap (λ (log : List (List ℕ)). (Life.lives real (life_of c image script) (Life.unpowered real log)).log) (sym b.erased) ∙ log_is c image script output p

  device_after_lem : Life.lives real calls (Life.lives real (life_of c image script) blank) ≡ device_after c image longer
  device_after_lem =
      sym (lives_append real real_lawful (life_of c image script) calls blank)
      ∙ ap (λ (l : List (Call real)). Life.lives real l blank) (sym e)
      ∙ ap (λ (log : List (List ℕ)). Life.lives real (life_of c image longer) (Life.unpowered real log)) (sym b.erased)

  log_after : (Life.lives real calls (Life.lives real (life_of c image script) blank)).log ≡ log_of c (after_play c image longer output')
  log_after = ap (λ (d : Device real). d.log) device_after_lem ∙ log_is c image longer output' b.played

  none_torn : AllFinished real calls (device_after c image script)
      → torn_in real (log_of c (after_play c image longer output')) ≤ torn_in real (log_of c (after_play c image script output))
  none_torn u =
      omega (
        arith,
        ap (torn_in real) log_before,
        ap (torn_in real) log_after,
        Torn.none_torn_if_finished real real_lawful (pages_in c) (some_pages c p.valid) (few_pages c p.valid) (life_of c image script) calls parts.0
            parts.1
            (subst (λ (log : List (List ℕ)). AllFinished real calls (Life.lives real (life_of c image script) (Life.unpowered real log))) b.erased u),
      )

  -- the device where the other script ends
  device_before_lem : Life.lives real (life_of c image script) blank ≡ device_after c image script
  device_before_lem = ap (λ (log : List (List ℕ)). Life.lives real (life_of c image script) (Life.unpowered real log)) (sym b.erased)

  -- where one call more is made
  left_by : (x : Call real) → calls ≡ x ∷ [] → (i : ℕ) → Torn real (page_at real (log_of c (after_play c image longer output')) i)
      → Torn real (page_at real (log_of c (after_play c image script output)) i)
      ⊎ ((page : List ℕ) × (◌≡◌ {A = Option (List ℕ × List ℕ)} (Theory.unfinished_in real x (device_after c image script))
      (Some (page, page_at real (log_of c (after_play c image longer output')) i))))
  left_by x q i t =
      go
      (Torn.torn_is_left real real_lawful (pages_in c) (some_pages c p.valid) (few_pages c p.valid) (life_of c image script) x parts.0 one.0 i
      (subst (λ (log : List (List ℕ)). Torn real (page_at real log i)) (sym log_one) t))
    where
      one : Life.AllAssumed real (x ∷ []) (Life.lives real (life_of c image script) blank)
      one = subst (λ (l : List (Call real)). Life.AllAssumed real l (Life.lives real (life_of c image script) blank)) q parts.1

      log_one : (Life.call real x (Life.lives real (life_of c image script) blank)).log ≡ log_of c (after_play c image longer output')
      log_one = ap (λ (l : List (Call real)). (Life.lives real l (Life.lives real (life_of c image script) blank)).log) (sym q) ∙ log_after

      go : Torn real (page_at real (Life.lives real (life_of c image script) blank).log i)
          ⊎ ((page : List ℕ) × (◌≡◌ {A = Option (List ℕ × List ℕ)} (Theory.unfinished_in real x (Life.lives real (life_of c image script) blank))
          (Some (page, page_at real (Life.call real x (Life.lives real (life_of c image script) blank)).log i))))
          → Torn real (page_at real (log_of c (after_play c image script output)) i)
          ⊎ ((page : List ℕ) × (◌≡◌ {A = Option (List ℕ × List ℕ)} (Theory.unfinished_in real x (device_after c image script))
          (Some (page, page_at real (log_of c (after_play c image longer output')) i))))
      go (inl s) = inl (subst (λ (log : List (List ℕ)). Torn real (page_at real log i)) log_before s)
      go (inr s) =
          inr (
            s.0,
            ap (Theory.unfinished_in real x) (sym device_before_lem) ∙ s.1
                ∙ ap {B = Option (List ℕ × List ℕ)} (λ (log : List (List ℕ)). Some (s.0, page_at real log i)) log_one,
          )

  -- where none is, the log is as it was
  left_as : (Life.lives real calls (Life.lives real (life_of c image script) blank)).log ≡ (Life.lives real (life_of c image script) blank).log → (i : ℕ)
      → Torn real (page_at real (log_of c (after_play c image longer output')) i) → Torn real (page_at real (log_of c (after_play c image script output)) i)
  left_as q i t = subst (λ (log : List (List ℕ)). Torn real (page_at real log i)) (sym log_after ∙ q ∙ log_before) t

pub torn_is_left : TornIsLeft
torn_is_left c image script output longer output' (offers r) p b e i t =
    inl (left_as c image script output longer output' p b (life_after c image script (offers r ∷ [])) (longer_life c image script longer (offers r ∷ []) e)
    (go (takes (bench_after c image script))) i t)
  where
    go : (z : Bool)
        → (Life.lives real (cond z (Life.offers r ∷ []) [] ++ []) (Life.lives real (life_of c image script) (Life.unpowered real (erased real (pages_in c))))).log
        ≡ (Life.lives real (life_of c image script) (Life.unpowered real (erased real (pages_in c)))).log
    go true = refl
    go false = refl
torn_is_left c image script output longer output' (drains order keep) p b e i t =
    left_by c image script output longer output' p b (life_after c image script (drains order keep ∷ []))
    (longer_life c image script longer (drains order keep ∷ []) e)
    (drain_of order keep) refl i t
torn_is_left c image script output longer output' (writes succeed next keep) p b e i t =
    left_by c image script output longer output' p b (life_after c image script (writes succeed next keep ∷ []))
    (longer_life c image script longer (writes succeed next keep ∷ []) e) (write_of succeed next keep) refl i t
torn_is_left c image script output longer output' powers p b e i t =
    inl (left_as c image script output longer output' p b (life_after c image script (powers ∷ [])) (longer_life c image script longer (powers ∷ []) e) refl i t)
torn_is_left c image script output longer output' (recovers page flight writable) p b e i t =
    inl (left_as c image script output longer output' p b (life_after c image script (recovers page flight writable ∷ []))
    (longer_life c image script longer (recovers page flight writable ∷ []) e) refl i t)
torn_is_left c image script output longer output' resets p b e i t =
    inl (left_as c image script output longer output' p b (life_after c image script (resets ∷ [])) (longer_life c image script longer (resets ∷ []) e) refl i t)
torn_is_left c image script output longer output' (flushes buffered clock) p b e i t =
    inl (left_as c image script output longer output' p b (life_after c image script (flushes buffered clock ∷ []))
    (longer_life c image script longer (flushes buffered clock ∷ []) e) refl i t)

pub none_torn_if_finished : NoneTornIfFinished
none_torn_if_finished c image script output longer output' more p b e u =
    none_torn c image script output longer output' p b (life_after c image script more) (longer_life c image script longer more e) u

pub one_torn_page : OneTornPage
one_torn_page c image script output longer output' more p b e once =
    let calls = life_from c more (played c powers (bench_after c image script) (plays_image c (operations script) unpowered image)).bench
    (image_after c powers (bench_after c image script) (plays_image c (operations script) unpowered image)) in
    let same : life_of c image longer ≡ life_of c image script ++ Life.powers ∷ calls = longer_life c image script longer (powers ∷ more) e in
    let a = parts c image script output longer output' p b (Life.powers ∷ calls) same in
    let t = at_most_one_torn real real_lawful (pages_in c) (some_pages c p.valid) (few_pages c p.valid) (life_of c image script) calls a.0 a.1.1
    (no_power more _ c _ once) in
    let before = ap (torn_in real) (log_before c image script output longer output' p b (Life.powers ∷ calls) same) in
    let after = ap (torn_in real) (log_after c image script output longer output' p b (Life.powers ∷ calls) same) in
    let writer = ap (λ (d : Device real). d.writer) (device_after_lem c image script output longer output' p b (Life.powers ∷ calls) same)
    ∙ (devices_agree c image longer output' b.played).writer in
    record {
      at_most_one = omega (arith, before, after, t.at_most_one);
      only_waiting = λ on free.
          omega (
            arith,
            before,
            after,
            t.only_waiting (ap (λ (w : Model.Writer real). w.writable) writer ∙ on)
                (ap (λ (w : Model.Writer real). w.waiting) writer ∙ none_waits (bench_after c image longer).writer.pending free),
          );
    }

pub torn_ends_power_on : TornEndsPowerOn
torn_ends_power_on c image script output b =
    subst (MarkAfterTorn real) (log_is c image script output b.played)
    (subst (λ (log : List (List ℕ)). MarkAfterTorn real (Life.lives real (life_of c image script) (Life.unpowered real log)).log) (sym b.erased)
    (Ends.torn_ends_power_on real real_lawful (pages_in c) (life_of c image script)
    (record {
      some_page = some_pages c b.played.valid;
      few_pages = few_pages c b.played.valid;
      assumed = assumed c image script output b.played b.erased b.assumed;
      plain = b.plain;
    })))

-- ---- the test of two images

same_tells : (x y : List ℕ) → (same_bytes x y ≡ true) ↔ (x ≡ y)
same_tells x y = (same_equal x y, λ e. rw e (same_refl y))

none_told : {A : Type 0} (xs : List A) → none? xs ≡ true → xs ≡ []
none_told [] h = refl
none_told (x ∷ xs) h = absurd (false≢true h)

none_tells : {A : Type 0} (xs : List A) → xs ≡ [] → none? xs ≡ true
none_tells xs e = rw e refl

pub images_are_tested : ImagesAreTested
images_are_tested n c image c' image' = (told, tells)
  where
    left : List (ℕ × FlightRecord)
    left = (split_by (starts real) (on_flash c image)).before

    right : List (ℕ × FlightRecord)
    right = (split_by (starts real) (on_flash c' image')).before

    test : Bool
    test =
        aligned? same_bytes n (is_shut c image) (is_shut c' image') (segments_of real by_bytes (on_flash c image))
        (segments_of real by_bytes (on_flash c' image'))

    both_ways : (test ≡ true) ↔ Aligned n (is_shut c image) (is_shut c' image') (segments_of real by_bytes (on_flash c image))
        (segments_of real by_bytes (on_flash c' image'))
    both_ways =
        aligned_is_tested (List ℕ) same_bytes same_tells n (is_shut c image) (is_shut c' image') (segments_of real by_bytes (on_flash c image))
        (segments_of real by_bytes (on_flash c' image'))

    told : explained_images? n c image c' image' ≡ true
        → Explained real by_bytes n (is_shut c image) (is_shut c' image') (on_flash c image) (on_flash c' image')
    told h =
        let x = both_true (none? left) (both? (none? right) test) h in
        let y = both_true (none? right) test x.1 in
        record { left_begins = none_told left x.0; right_begins = none_told right y.0; segments = both_ways.0 y.1 }

    tells : Explained real by_bytes n (is_shut c image) (is_shut c' image') (on_flash c image) (on_flash c' image')
        → explained_images? n c image c' image' ≡ true
    tells e =
        true_both (none? left) (both? (none? right) test) (none_tells left e.left_begins)
        (true_both (none? right) test (none_tells right e.right_begins) (both_ways.1 e.segments))

pub same_logged_passes : SameLoggedPasses
same_logged_passes c image script output c' image' script' output' b b' e =
    (images_are_tested 5 c (after_play c image script output) c' (after_play c' image' script' output')).1
    (images_explained (List ℕ) by_bytes 0 (is_shut c (after_play c image script output)) (is_shut c' (after_play c' image' script' output')) c image script output
    c' image' script' output' b b'
    (subst (Aligned 0 (is_shut c (after_play c image script output)) (is_shut c' (after_play c' image' script' output')) (filled (each_seen by_bytes (logged_in c image script)))) e
    (equal_aligned (List ℕ) (is_shut c (after_play c image script output)) (is_shut c' (after_play c' image' script' output'))
    (filled (each_seen by_bytes (logged_in c image script))))))

pub shut_boards : ShutBoards
shut_boards = shut_explained real real_lawful by_bytes

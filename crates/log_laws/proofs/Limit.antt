-- How many records a drain takes: a turn takes one at most, so its turns take no more than the limit. Assumes nothing.
use Prim.Native.Nat.{ℕ, zero, suc, ◌+◌, ◌-◌, ◌%◌, ◌≤◌}
use mathlib.Core.Path.{◌≡◌, refl, sym, ap, ◌∙◌}
use mathlib.Core.Bool.{Bool, true, false, cond}
use mathlib.Core.List.{List}
use mathlib.Core.Logic.{◌⊎◌, inl, inr}
use native.Mathlib.Omega.{arith}
use borrow.Author.Tests.{eq-eqb, ne_eqb}
use lib.Dec.{eqb, ltb}
use lib.ListN.{length, drop}
use lib.Seq.{drop-drop}
use Rattle.laws.specs.Refusals.{invalid_layout, bad_length}
use Rattle.laws.specs.Answers.{Answer, gives, must}
use Rattle.layout.specs.Layout.{valid_capacity, pages_in}
use Rattle.store.specs.Store.{leaves, on_image, on_lengths, on_mask}
use Rattle.std.specs.Prelude.{Option, None, Some}
use Rattle.blackbox.specs.declared.FlightRecord.{FlightRecord}
use Rattle.assembler.proofs.Laws.{never}
use Rattle.queue.specs.Queue.{dequeue, oldest, without_oldest, dequeued, records_from}
use Rattle.queue.specs.declared.RecordQueue.{RecordQueue}
use Rattle.queue.specs.declared.Dequeued.{Dequeued}
use Rattle.log_state.specs.Writer.{has_pending, ended}
use Rattle.log_writer.specs.Pass.{with_writer, halted, failing, put, severed, busy_now, counted, taking_if, taking_record, programming, fetched_pass, turn}
use Rattle.log_writer.specs.Pass.{turns, turns_image, dropping_if, dropping, on_empty_queue, begin, drain_pass, drain_image}
use Rattle.log_writer.specs.Calls.{DrainTold, drain_told, drained, after_drain}
use Rattle.log_writer.specs.declared.Pass.{Pass}
use Rattle.log_writer.specs.declared.DrainOrder.{DrainOrder}
use Rattle.log_writer.specs.declared.NextProgram.{NextProgram}
use Rattle.log_writer.specs.declared.NextProgram.TheVariants.{Busy, Fault, Cut}
use Rattle.log_laws.specs.Laws.{Taken, most_taken, DrainTakesAtMost, limited, NoneHeld, AtAnyLimit, LimitOfNone}

-- ---- what leaves a queue

none_taken : (n : ℕ) (q : RecordQueue) → Taken n q q
none_taken n q = record { count = 0; few = omega arith; held = omega arith; others = refl }

-- a bound that allows more
taken_within : (m n : ℕ) (q u : RecordQueue) → m ≤ n → Taken m q u → Taken n q u
taken_within m n q u h t = record { count = t.count; few = omega (arith, t.few); held = t.held; others = t.others }

taken_then : (n : ℕ) (a b c : RecordQueue) → Taken 1 a b → Taken n b c → Taken (suc n) a c
taken_then n a b c x y =
    record {
      count = x.count + y.count;
      few = omega (arith, x.few, y.few);
      held = omega (arith, x.held, y.held);
      others = y.others ∙ ap (drop y.count) x.others ∙ drop-drop y.count x.count _;
    }

left_behind : (slots : List FlightRecord) (first held : ℕ) → (held ≡ 0 → ⊥)
    → records_from slots ((first + 1) % 32) (held - 1) ≡ drop 1 (records_from slots first held)
left_behind slots first zero h = absurd (h refl)
left_behind slots first (suc n) h = let less : suc n - 1 ≡ n = omega arith in ap (records_from slots ((first + 1) % 32)) less

one_taken : (q : RecordQueue) → Taken 1 q (dequeued q).queue
unfolding dequeued without_oldest
one_taken q = go (eqb q.held 0) refl
  where
    go : (z : Bool) → eqb q.held 0 ≡ z → Taken 1 q (cond z (dequeue None q) (dequeue (Some (oldest q)) (without_oldest q))).queue
    go true e = none_taken 1 q
    go false e =
        let some : q.held ≡ 0 → ⊥ = λ n. never (sym e ∙ eq-eqb q.held 0 n) in
        record { count = 1; few = omega arith; held = omega (arith, some); others = left_behind q.slots q.first q.held some }

-- ---- what a step takes, if the power isn't cut

record Steps (n : ℕ) (p q : Pass) : Type 0 where
  pub uncut : q.progress.cut ≡ false → p.progress.cut ≡ false
  pub takes : q.progress.cut ≡ false → Taken n p.queue q.queue

still : (n : ℕ) (p q : Pass) → q.progress.cut ≡ p.progress.cut → q.queue ≡ p.queue → Steps n p q
still n p q c e = record { uncut = λ h. sym c ∙ h; takes = λ _. rw e (none_taken n p.queue) }

within : (m n : ℕ) (p q : Pass) → m ≤ n → Steps m p q → Steps n p q
within m n p q h s = record { uncut = s.uncut; takes = λ e. taken_within m n p.queue q.queue h (s.takes e) }

steps_then : (n : ℕ) (p q r : Pass) → Steps 1 p q → Steps n q r → Steps (suc n) p r
steps_then n p q r x y =
    record {
      uncut = λ h. x.uncut (y.uncut h);
      takes = λ h. taken_then n p.queue q.queue r.queue (x.takes (y.uncut h)) (y.takes h);
    }

taking_steps : (order : DrainOrder) (p : Pass) → Steps 1 p (taking_record order p)
unfolding taking_record counted halted
taking_steps order p = go d.«record»
  where
    d : Dequeued
    d = dequeued p.queue

    go : (o : Option FlightRecord) → Steps 1 p (taking_if order p d.queue o)
    go (Some r) = record { uncut = λ h. h; takes = λ _. one_taken p.queue }
    go None = still 1 p (halted p) refl refl

failing_steps : (next : NextProgram) (p : Pass) → Steps 1 p (failing next p)
unfolding halted severed
failing_steps Busy p = still 1 p (halted p) refl refl
failing_steps Fault p = still 1 p (halted p) refl refl
failing_steps Cut p = record { uncut = λ h. never (sym h); takes = λ h. never (sym h) }

programming_steps : (g : ℕ) (order : DrainOrder) (p : Pass) → Steps 1 p (programming g order p)
unfolding put
programming_steps zero order p = failing_steps order.next p
programming_steps (suc g) order p =
    let t = taking_steps order (put p g) in
    record { uncut = t.uncut; takes = t.takes }

turn_steps : (pages : ℕ) (order : DrainOrder) (p : Pass) → Steps 1 p (turn pages order p)
unfolding turn with_writer halted
turn_steps pages order p = go (has_pending f.writer) (busy_now p.progress.succeed order.next) (ltb f.writer.next_page pages)
  where
    f : Pass
    f = fetched_pass p

    from : (q : Pass) → Steps 1 f q → Steps 1 p q
    from q s = record { uncut = s.uncut; takes = s.takes }

    go : (x y z : Bool) → Steps 1 p (cond x (cond y (halted f) (cond z (programming p.progress.succeed order f) (halted f))) (taking_record order f))
    go true true z = still 1 p (halted f) refl refl
    go true false true = from (programming p.progress.succeed order f) (programming_steps p.progress.succeed order f)
    go true false false = still 1 p (halted f) refl refl
    go false y z = from (taking_record order f) (taking_steps order f)

turns_steps : (pages : ℕ) (order : DrainOrder) (n : ℕ) (p : Pass) → Steps n p (turns pages order n p)
unfolding turns
turns_steps pages order zero p = still 0 p p refl refl
turns_steps pages order (suc n) p = go (turns_steps pages order n (turn pages order p)) p.progress.going
  where
    rest : Pass
    rest = turns pages order n (turn pages order p)

    go : Steps n (turn pages order p) rest → (z : Bool) → Steps (suc n) p (cond z rest p)
    go ih true = steps_then n p (turn pages order p) rest (turn_steps pages order p) ih
    go ih false = still (suc n) p p refl refl

drain_steps : (pages : ℕ) (order : DrainOrder) (p : Pass) → Steps (most_taken p.writer.writable order.limit) p (drain_pass pages order p)
unfolding drain_pass dropping on_empty_queue counted
drain_steps pages order p = go p.writer.writable (eqb p.queue.held 0) order.record_while_disarmed order.armed
  where
    d : Dequeued
    d = dequeued p.queue

    drops : (o : Option FlightRecord) → Steps 1 p (dropping_if p d.queue o)
    drops (Some r) = record { uncut = λ h. h; takes = λ _. one_taken p.queue }
    drops None = still 1 p p refl refl

    go : (x y u v : Bool)
        → Steps (most_taken x order.limit) p
        (cond x (cond y (cond u p (cond v p (counted p p.queue (ended p.writer)))) (turns pages order order.limit p)) (dropping p))
    go true true true v = still _ p p refl refl
    go true true false true = still _ p p refl refl
    go true true false false = still _ p (counted p p.queue (ended p.writer)) refl refl
    go true false u v = within order.limit _ p (turns pages order order.limit p) (omega arith) (turns_steps pages order order.limit p)
    go false y u v = within 1 _ p (dropping p) (omega arith) (drops d.«record»)

-- ---- the call

pub drain_takes_at_most : DrainTakesAtMost
unfolding drained on_lengths on_image
drain_takes_at_most order c image keep w q = go (valid_capacity c) (eqb (length image) c) (eqb (length keep) 256)
  where
    most : ℕ
    most = most_taken w.writable order.limit

    p : Pass
    p = drain_pass (pages_in c) order (begin w q order.succeed)

    out : Bool → Bool → Bool → Answer Pass
    out x y z = must x invalid_layout (must y bad_length (must z bad_length (gives p)))

    go : (x y z : Bool) → (drain_told w q (out x y z)).cut ≡ false → Taken most q (drain_told w q (out x y z)).queue
    go true true true = (drain_steps (pages_in c) order (begin w q order.succeed)).takes
    go true true false = λ _. none_taken most q
    go true false z = λ _. none_taken most q
    go false y z = λ _. none_taken most q

-- ---- limits

module _ {A : Type 0} (drops rests takes : A) where
  -- not writable, or no record to take: what would be taken doesn't matter
  untaken : (a b : Bool) (other : A) → (a ≡ false) ⊎ (b ≡ true) → cond a (cond b rests other) drops ≡ cond a (cond b rests takes) drops
  untaken true true other h = refl
  untaken true false other (inl e) = never (sym e)
  untaken true false other (inr e) = never e
  untaken false b other h = refl

  -- writable, and a record to take
  all_taken : (a b : Bool) → a ≡ true → b ≡ false → cond a (cond b rests takes) drops ≡ takes
  all_taken true true e n = never (sym n)
  all_taken true false e n = refl
  all_taken false b e n = never e

same_cases : {A : Type 0} (a b : Bool) (x : A) → cond a (cond b x x) x ≡ x
same_cases true true x = refl
same_cases true false x = refl
same_cases false b x = refl

-- nothing that was programmed, whatever the tests in front say
leaves_same : (x y z : Bool) (image : List ℕ) → leaves image (must x invalid_layout (must y bad_length (must z bad_length (gives image)))) ≡ image
leaves_same true true true image = refl
leaves_same true true false image = refl
leaves_same true false z image = refl
leaves_same false y z image = refl

unprogrammed : (c : ℕ) (image keep after : List ℕ) → after ≡ image → leaves image (on_mask c (length image) (length keep) (gives after)) ≡ image
unfolding on_lengths on_image
unprogrammed c image keep after e =
    ap (λ (m : List ℕ). leaves image (on_mask c (length image) (length keep) (gives m))) e
    ∙ leaves_same (valid_capacity c) (eqb (length image) c) (eqb (length keep) 256) image

pub at_any_limit : AtAnyLimit
unfolding drained after_drain drain_pass drain_image on_empty_queue
at_any_limit limit order c image keep w q h =
    record {
      answer =
          ap (λ (r : Pass). drain_told w q (on_mask c (length image) (length keep) (gives r)))
          (untaken (dropping p) (on_empty_queue order p) (turns (pages_in c) order order.limit p) w.writable (eqb q.held 0)
          (turns (pages_in c) (limited limit order) limit p) (none h));
      unprogrammed =
          unprogrammed c image keep (drain_image (pages_in c) order keep p image)
          (untaken image image image w.writable (eqb q.held 0) (turns_image (pages_in c) order keep order.limit p image) (none h)
          ∙ same_cases w.writable (eqb q.held 0) image);
    }
  where
    p : Pass
    p = begin w q order.succeed

    none : (w.writable ≡ false) ⊎ NoneHeld q → (w.writable ≡ false) ⊎ (eqb q.held 0 ≡ true)
    none (inl e) = inl e
    none (inr e) = inr (eq-eqb q.held 0 (omega (arith, e)))

no_turns : (pages : ℕ) (order : DrainOrder) (n : ℕ) (p : Pass) → n ≡ 0 → turns pages order n p ≡ p
unfolding turns
no_turns pages order zero p e = refl
no_turns pages order (suc n) p e = absurd (omega (arith, e))

no_turns_image : (pages : ℕ) (order : DrainOrder) (keep : List ℕ) (n : ℕ) (p : Pass) (image : List ℕ) → n ≡ 0 → turns_image pages order keep n p image ≡ image
unfolding turns_image
no_turns_image pages order keep zero p image e = refl
no_turns_image pages order keep (suc n) p image e = absurd (omega (arith, e))

pub limit_of_none : LimitOfNone
unfolding drained after_drain on_lengths on_image drain_pass drain_image
limit_of_none order c image keep w q l e n =
    record {
      writer = ap (λ (r : Pass). (told r).writer) idle ∙ (go (valid_capacity c) (eqb (length image) c) (eqb (length keep) 256)).0;
      queue = ap (λ (r : Pass). (told r).queue) idle ∙ (go (valid_capacity c) (eqb (length image) c) (eqb (length keep) 256)).1;
      image =
          unprogrammed c image keep (drain_image (pages_in c) order keep p image)
          (all_taken image image (turns_image (pages_in c) order keep order.limit p image) w.writable (eqb q.held 0) e some
          ∙ no_turns_image (pages_in c) order keep order.limit p image (omega (arith, l)));
    }
  where
    p : Pass
    p = begin w q order.succeed

    some : eqb q.held 0 ≡ false
    some = ne_eqb q.held 0 (λ z. n (omega (arith, z)))

    told : Pass → DrainTold
    told r = drain_told w q (on_mask c (length image) (length keep) (gives r))

    idle : drain_pass (pages_in c) order p ≡ p
    idle =
        all_taken (dropping p) (on_empty_queue order p) (turns (pages_in c) order order.limit p) w.writable (eqb q.held 0) e some
        ∙ no_turns (pages_in c) order order.limit p (omega (arith, l))

    out : Bool → Bool → Bool → Answer Pass
    out x y z = must x invalid_layout (must y bad_length (must z bad_length (gives p)))

    go : (x y z : Bool) → ((drain_told w q (out x y z)).writer ≡ w) × ((drain_told w q (out x y z)).queue ≡ q)
    go true true true = (refl, refl)
    go true true false = (refl, refl)
    go true false z = (refl, refl)
    go false y z = (refl, refl)

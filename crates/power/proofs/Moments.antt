-- Every moment of a call is the end of a life: between two records of a pass it is a pass with a smaller limit; after a program but before the
-- next record such a pass and then write_pending; in the midst of a program such a pass and a write_pending that is cut. By induction on the
-- turns, which carries that no more turns were done than the pass has. Assumes nothing.
use Prim.Native.Nat.{ℕ, zero, suc, ◌+◌, ◌≤◌, ◌<◌}
use mathlib.Core.Path.{◌≡◌, refl, sym, ap, ◌∙◌, subst}
use mathlib.Core.Bool.{Bool, true, false, cond}
use Rattle.std.specs.Prelude.{Option, None, Some}
use mathlib.Core.Logic.{inl, inr}
use mathlib.Core.List.{List, [], ◌∷◌, ◌++◌, append-nil}
use native.Mathlib.Omega.{arith}
use lib.Dec.{ltb}
use borrow.Author.Tests.{lt-ltb}
use lib.ListN.{length}
use Rattle.power.specs.Pages.{PageStore}
use Rattle.power.specs.Lawful.{Lawful}
use Rattle.power.specs.Reading.{records_on}
use Rattle.power.specs.Writer.{Writer}
use Rattle.power.specs.Calls.{order_of, Order, Next, busy, fault, cut, Pass, Step, goes_on, ends, program, program_if_room, put, put_page, fetched}
use Rattle.power.specs.Calls.{fetched_if_writable, with_writer, severed, take_one, take_next, after_put, onward, turns, drain_writable}
use Rattle.power.specs.Calls.{drain, write_one, write_pending, logs, ended_with}
use Rattle.power.specs.Life.{ordered, Device, Call, offers, drains, writes, powers, begin, after_pass, power_on, call, lives, unpowered, history}
use Rattle.power.specs.Life.{Undecoded, Assumed, AllAssumed, FlightsFit}
use Rattle.power.specs.Theorem.{Holds}
use Rattle.power.specs.Moments.{During, at_top, in_program, after_put_lem, at_end, after_record, before, over, in_drain, in_write, LifeTo}
use Rattle.power.specs.Moments.{Moment, MaskAllowed, NoLarger, Bounded, EveryMoment, HoldsAtEveryMoment}
use Rattle.power.proofs.Puts.{Goes, put_facts, drain_on}
use Rattle.power.proofs.Turns.{taken_writable}
use Rattle.power.proofs.Theorem.{every_life}

module _ {Page Record Mask : Type 0} (S : PageStore Page Record Mask) (L : Lawful S) where
  -- a step that goes on is none that ends
  goes_is : {p q : Pass S} → ◌≡◌ {A = Step S} (goes_on p) (goes_on q) → p ≡ q
  goes_is e = cc

  goes_not : {p q : Pass S} → ◌≡◌ {A = Step S} (ends p) (goes_on q) → ⊥
  goes_not {p} {q} e = let z : ◌≡◌ {A = ℕ} 0 1 = cc in omega arith

  -- what turns that were not stopped leave alone
  record Running (p q : Pass S) : Type 0 where
    writable : q.writer.writable ≡ p.writer.writable
    unfinished : q.unfinished ≡ p.unfinished

  -- a moment of the turns: after some turns, at most the limit, or in the midst of a program after them, or after the page was put
  data At (Allowed : Mask → Type 0) (wd : Bool) (limit : ℕ) (p m : Pass S) : Type 0 where
    reached : (n : ℕ) → n ≤ limit → turns S wd n p ≡ m → At Allowed wd limit p m
    programming : (n : ℕ) → n ≤ limit → (page : Page) (keep : Mask) → Allowed keep → Running p (turns S wd n p)
        → (fetched S (turns S wd n p).writer).waiting ≡ Some page
        → (fetched S (turns S wd n p).writer).next_page < length (turns S wd n p).log
        → severed S keep page (with_writer S (fetched S (turns S wd n p).writer) (turns S wd n p)) ≡ m → At Allowed wd limit p m
    putted : (n : ℕ) → n < limit → Running p (turns S wd n p) → put_page S (turns S wd n p) ≡ goes_on m → At Allowed wd limit p m

  running_put : (p q : Pass S) → put_page S p ≡ goes_on q → Running p q
  running_put p q e = let f : Goes S p.succeed p q = rw e at (put_facts S p) in record { writable = f.writable; unfinished = f.unfinished }

  one_turn : (wd : Bool) (n : ℕ) (p q : Pass S) (r : Record) (queue : List Record) → put_page S p ≡ goes_on q → q.queue ≡ r ∷ queue
      → turns S wd (suc n) p ≡ turns S wd n (take_one S wd r queue q)
  one_turn wd n p q r queue e h =
      ap (λ (t : Step S). onward S (λ x. turns S wd n x) (after_put S wd t)) e ∙ ap (λ (l : List Record). onward S (λ x. turns S wd n x) (take_next S wd l q)) h

  -- the moments after one turn more
  module _ (wd : Bool) (p q : Pass S) (r : Record) (queue : List Record) (e : put_page S p ≡ goes_on q) (h : q.queue ≡ r ∷ queue) where
    running_turn : (x : Pass S) → Running (take_one S wd r queue q) x → Running p x
    running_turn x k =
        let f = running_put p q e in
        record {
          writable = k.writable ∙ taken_writable S L (logs S wd r) q.writer.assembler.recording r q.writer ∙ f.writable;
          unfinished = k.unfinished ∙ f.unfinished;
        }

    later : {Allowed : Mask → Type 0} {limit : ℕ} {m : Pass S} → At Allowed wd limit (take_one S wd r queue q) m → At Allowed wd (suc limit) p m
    later (reached n b k) = reached (suc n) (omega arith) (one_turn wd n p q r queue e h ∙ k)
    later (programming n b page keep a k w i s) =
        let e₁ = one_turn wd n p q r queue e h in
        programming (suc n) (omega arith) page keep a (rw e₁ (running_turn (turns S wd n (take_one S wd r queue q)) k)) (rw e₁ w) (rw e₁ i) (rw e₁ s)
    later (putted n b k s) =
        let e₁ = one_turn wd n p q r queue e h in
        putted (suc n) (omega arith) (rw e₁ (running_turn (turns S wd n (take_one S wd r queue q)) k)) (rw e₁ s)

  moment_at : {Allowed : Mask → Type 0} (wd : Bool) {limit : ℕ} {p m : Pass S} → During S Allowed wd limit p m → At Allowed wd limit p m
  moment_at wd at_top = reached 0 (omega arith) refl
  moment_at wd (in_program page keep a w i) = programming 0 (omega arith) page keep a (record { writable = refl; unfinished = refl }) w i refl
  moment_at wd (after_put_lem e) = putted 0 (omega arith) (record { writable = refl; unfinished = refl }) e
  moment_at wd (at_end e) = reached 1 (omega arith) (ap (λ (t : Step S). onward S (λ x. x) (after_put S wd t)) e)
  moment_at wd (after_record {turns} {p} {q} {m} r queue e h k) = later wd p q r queue e h (moment_at wd k)

  -- what the next power-on finds is the log and the history
  abbrev found : List Page → List (List (ℕ × Record)) → List (ℕ × Record) → Device S
  found log past now = power_on S (record { log = log; writer = (unpowered S log).writer; queue = []; past = past; now = now })

  same_found : (d d' : Device S) → d.log ≡ d'.log → d.past ≡ d'.past → d.now ≡ d'.now → power_on S d ≡ power_on S d'
  same_found d d' e₁ e₂ e₃ =
      ap (λ (l : List Page). found l d.past d.now) e₁ ∙ ap (λ (h : List (List (ℕ × Record))). found d'.log h d.now) e₂
      ∙ ap (λ (n : List (ℕ × Record)). found d'.log d'.past n) e₃

  -- a pass on a writable log with a record in the queue is its turns
  drain_turns : (order : Order Mask) (p : Pass S) (r : Record) (queue : List Record) → p.writer.writable ≡ true → p.queue ≡ r ∷ queue
      → drain S order p ≡ turns S order.while_disarmed order.limit p
  drain_turns order p r queue w e = drain_on S order p w ∙ ap (λ (l : List Record). drain_writable S order l p) e

  -- write_pending with a cut to come, its page fetched
  abbrev cutting : Device S → Mask → Pass S
  cutting d keep = with_writer S (fetched_if_writable S d.writer) (begin S d 0 (cut keep))

  -- where a page waits and there is an address for it
  write_severed : (d : Device S) (page : Page) (keep : Mask) → (fetched_if_writable S d.writer).waiting ≡ Some page
      → (fetched_if_writable S d.writer).next_page < length d.log
      → write_pending S (begin S d 0 (cut keep)) ≡ severed S keep page (cutting d keep)
  write_severed d page keep w i =
      ap (λ (o : Option Page). write_one S o (cutting d keep)) w
      ∙ ap (λ (b : Bool). ended_with S (cond b (program S 0 (cut keep) page (cutting d keep)) (ends (cutting d keep))))
      (lt-ltb (fetched_if_writable S d.writer).next_page (length d.log) i)

  fetched_writable : (w : Writer S) → w.writable ≡ true → fetched_if_writable S w ≡ fetched S w
  fetched_writable w h = ap (λ (b : Bool). cond b (fetched S w) w) h

  -- write_pending after a pass does what the pass would do at the top of its next turn
  record Wrote (m p : Pass S) : Type 0 where
    log : p.log ≡ m.log
    logged : p.logged ≡ []
    unfinished : p.unfinished ≡ None

  program_wrote : (g : ℕ) (z : Next Mask) (page : Page) (p p' m : Pass S) → p'.log ≡ p.log → p'.writer.next_page ≡ p.writer.next_page
      → p'.logged ≡ [] → p'.unfinished ≡ None → program S g z page p ≡ goes_on m → Wrote m (ended_with S (program S 1 busy page p'))
  program_wrote (suc g) z page p p' m e d l u k =
      record { log = rw (e, d) refl ∙ ap (λ (q : Pass S). q.log) (goes_is k); logged = l; unfinished = u }
  program_wrote zero busy page p p' m e d l u k = absurd (goes_not k)
  program_wrote zero (fault keep) page p p' m e d l u k = absurd (goes_not k)
  program_wrote zero (cut keep) page p p' m e d l u k = absurd (goes_not k)

  room_wrote : (g : ℕ) (z : Next Mask) (page : Page) (p p' m : Pass S) → p'.log ≡ p.log → p'.writer.next_page ≡ p.writer.next_page
      → p'.logged ≡ [] → p'.unfinished ≡ None
      → program_if_room S g z page p ≡ goes_on m → Wrote m (ended_with S (program_if_room S 1 busy page p'))
  room_wrote g z page p p' m e d l u k = step (ltb p.writer.next_page (length p.log)) refl
    where
      there : (b : Bool) → ltb p.writer.next_page (length p.log) ≡ b → ltb p'.writer.next_page (length p'.log) ≡ b
      there b h = rw (d, e) h

      step : (b : Bool) → ltb p.writer.next_page (length p.log) ≡ b → Wrote m (ended_with S (program_if_room S 1 busy page p'))
      step true h = rw (there true h) (program_wrote g z page p p' m e d l u (rw h at k))
      step false h = absurd (goes_not (rw h at k))

  put_wrote : (o : Option Page) (p m : Pass S) (d : Device S) (w : Writer S) → d.log ≡ p.log → w.next_page ≡ p.writer.next_page
      → put S o p ≡ goes_on m → Wrote m (write_one S o (with_writer S w (begin S d 1 busy)))
  put_wrote None p m d w e h k = record { log = e ∙ ap (λ (q : Pass S). q.log) (goes_is k); logged = refl; unfinished = refl }
  put_wrote (Some page) p m d w e h k = room_wrote p.succeed p.next page p (with_writer S w (begin S d 1 busy)) m e h refl refl k

  -- nothing is left unfinished
  finished : {o : Option (Page × Page)} → o ≡ None → Undecoded S o
  finished {o} e = subst (λ (x : Option (Page × Page)). Undecoded S x) (sym e) tt

  -- what a pass left unfinished is what an equal one left
  undecoded_as : {p q : Pass S} → p ≡ q → Undecoded S q.unfinished → Undecoded S p.unfinished
  undecoded_as e un = subst (λ (x : Pass S). Undecoded S x.unfinished) (sym e) un

  -- a moment of the turns that began with the device d, in a pass that is no larger than the bound
  module _ (Allowed : Mask → Type 0) (bound : ℕ) (order : Order Mask) (small : NoLarger S Allowed bound (drains order)) (d : Device S)
      (r : Record) (queue : List Record) (w : d.writer.writable ≡ true) (e : d.queue ≡ r ∷ queue) where
    -- the order with another limit
    abbrev up_to : ℕ → Order Mask
    up_to n = order_of n order.while_disarmed order.armed order.succeed order.next

    -- so is one of fewer turns
    smaller : (n : ℕ) → n ≤ order.limit → NoLarger S Allowed bound (drains (up_to n))
    smaller n b = let b' = small.0 in (omega arith, small.1, small.2)

    -- after n turns, the pass and the device
    abbrev passed : ℕ → Pass S
    passed n = turns S order.while_disarmed n (ordered S d order)

    abbrev stood : ℕ → Device S
    stood n = after_pass S d (passed n)

    drained : (n : ℕ) → call S (drains (up_to n)) d ≡ stood n
    drained n = ap (after_pass S d) (drain_turns (up_to n) (ordered S d order) r queue w e)

    drain_assumed : (n : ℕ) → Undecoded S (passed n).unfinished → Assumed S (drains (up_to n)) d
    drain_assumed n un = undecoded_as (drain_turns (up_to n) (ordered S d order) r queue w e) un

    -- a pass of n turns and then a call that is assumed of the device as it stands
    then_assumed : (n : ℕ) (c : Call S) → (passed n).unfinished ≡ None → Assumed S c (stood n) → AllAssumed S (drains (up_to n) ∷ c ∷ []) d
    then_assumed n c u a = (drain_assumed n (finished u), (subst (λ (x : Device S). Assumed S c x) (sym (drained n)) a, tt))

    fetch : (n : ℕ) → Running (ordered S d order) (passed n) → fetched_if_writable S (passed n).writer ≡ fetched S (passed n).writer
    fetch n k = fetched_writable (passed n).writer (k.writable ∙ w)

    life_at : {m : Pass S} → At Allowed order.while_disarmed order.limit (ordered S d order) m → Undecoded S m.unfinished
        → LifeTo S Allowed bound (drains order) d (after_pass S d m)
    life_at (reached n b k) un =
        record {
          life = drains (up_to n) ∷ [];
          no_larger = inr (smaller n b, tt);
          assumed = (drain_assumed n (undecoded_as k un), tt);
          same = ap (power_on S) (drained n ∙ ap (after_pass S d) k);
        }
    life_at {m} (programming n b page keep a k h i s) un =
        record {
          life = drains (up_to n) ∷ writes 0 (cut keep) ∷ [];
          no_larger = inr (smaller n b, ((omega arith, a), tt));
          assumed = then_assumed n (writes 0 (cut keep)) k.unfinished (undecoded_as is (undecoded_as s un));
          same =
              ap (λ (x : Device S). power_on S (call S (writes 0 (cut keep)) x)) (drained n)
              ∙ same_found (call S (writes 0 (cut keep)) (stood n)) (after_pass S d m) (ap (λ (x : Pass S). x.log) is ∙ ap (λ (x : Pass S). x.log) s)
              refl logged;
        }
      where
        is : write_pending S (begin S (stood n) 0 (cut keep)) ≡ severed S keep page
            (with_writer S (fetched S (passed n).writer) (begin S (stood n) 0 (cut keep)))
        is =
            write_severed (stood n) page keep (ap (λ (x : Writer S). x.waiting) (fetch n k) ∙ h) (rw (fetch n k) i)
            ∙ ap (λ (x : Writer S). severed S keep page (with_writer S x (begin S (stood n) 0 (cut keep)))) (fetch n k)

        logged : (stood n).now ++ (write_pending S (begin S (stood n) 0 (cut keep))).logged ≡ d.now ++ m.logged
        logged = ap (λ (x : Pass S). (stood n).now ++ x.logged) is ∙ append-nil (stood n).now ∙ ap (λ (x : Pass S). d.now ++ x.logged) s
    life_at {m} (putted n b k h) un =
        record {
          life = drains (up_to n) ∷ writes 1 busy ∷ [];
          no_larger = let b' = small.0 in inr (smaller n (omega arith), ((omega arith, tt), tt));
          assumed = then_assumed n (writes 1 busy) k.unfinished (finished wrote.unfinished);
          same =
              ap (λ (x : Device S). power_on S (call S (writes 1 busy) x)) (drained n)
              ∙ same_found (call S (writes 1 busy) (stood n)) (after_pass S d m) wrote.log refl logged;
        }
      where
        wrote : Wrote m (write_pending S (begin S (stood n) 1 busy))
        wrote =
            rw (fetch n k)
            (put_wrote (fetched S (passed n).writer).waiting (with_writer S (fetched S (passed n).writer) (passed n)) m (stood n)
            (fetched S (passed n).writer) refl refl h)

        same_logged : m.logged ≡ (passed n).logged
        same_logged = let f : Goes S (passed n).succeed (passed n) m = rw h at (put_facts S (passed n)) in f.logged

        logged : (stood n).now ++ (write_pending S (begin S (stood n) 1 busy)).logged ≡ d.now ++ m.logged
        logged =
            ap (λ (l : List (ℕ × Record)). (stood n).now ++ l) wrote.logged ∙ append-nil (stood n).now
            ∙ ap (λ (l : List (ℕ × Record)). d.now ++ l) (sym same_logged)

  pub every_moment : EveryMoment S
  every_moment Allowed n c d d' b before = record { life = []; no_larger = inr tt; assumed = tt; same = refl }
  every_moment Allowed n c d d' b (over a) = record { life = c ∷ []; no_larger = inl refl; assumed = (a, tt); same = refl }
  every_moment Allowed n c d d' b (in_drain order r queue w e k un) =
      life_at Allowed n order b d r queue w e (moment_at order.while_disarmed k) un
  every_moment Allowed n c d d' b (in_write g z page keep a w i un) =
      record {
        life = writes 0 (cut keep) ∷ [];
        no_larger = inr ((omega arith, a), tt);
        assumed = (undecoded_as (write_severed d page keep w i) un, tt);
        same = ap (λ (x : Pass S). power_on S (after_pass S d x)) (write_severed d page keep w i);
      }

  -- a moment is one still where every mask is allowed
  abbrev Any : Mask → Type 0
  Any keep = Unit {0}

  any_during : {Allowed : Mask → Type 0} {wd : Bool} {limit : ℕ} {p m : Pass S} → During S Allowed wd limit p m → During S Any wd limit p m
  any_during at_top = at_top
  any_during (in_program page keep a w i) = in_program page keep tt w i
  any_during (after_put_lem e) = after_put_lem e
  any_during (at_end e) = at_end e
  any_during (after_record r queue e h k) = after_record r queue e h (any_during k)

  any_moment : {Allowed : Mask → Type 0} {c : Call S} {d d' : Device S} → Moment S Allowed c d d' → Moment S Any c d d'
  any_moment before = before
  any_moment (over a) = over a
  any_moment (in_drain order r queue w e k un) = in_drain order r queue w e (any_during k) un
  any_moment (in_write g z page keep a w i un) = in_write g z page keep tt w i un

  -- and there a call is bounded by its own numbers
  abbrev own : Call S → ℕ
  own (offers r) = 0
  own (drains order) = order.limit + order.succeed
  own (writes g z) = g
  own powers = 0

  any_mask : (z : Next Mask) → MaskAllowed S Any z
  any_mask busy = tt
  any_mask (fault keep) = tt
  any_mask (cut keep) = tt

  own_bounded : (c : Call S) → Bounded S Any (own c) c
  own_bounded (offers r) = tt
  own_bounded (drains order) = (omega arith, omega arith, any_mask order.next)
  own_bounded (writes g z) = (omega arith, any_mask z)
  own_bounded powers = tt

  pub lives_append : (a b : List (Call S)) (d : Device S) → lives S (a ++ b) d ≡ lives S b (lives S a d)
  lives_append [] b d = refl
  lives_append (c ∷ a) b d = lives_append a b (call S c d)

  pub assumed_append : (a b : List (Call S)) (d : Device S) → AllAssumed S a d → AllAssumed S b (lives S a d) → AllAssumed S (a ++ b) d
  assumed_append [] b d h k = k
  assumed_append (c ∷ a) b d h k = (h.0, assumed_append a b (call S c d) h.1 k)

  pub holds_at_every_moment : HoldsAtEveryMoment S
  holds_at_every_moment Allowed log b life a c d' m fit =
      subst (λ (x : Device S). Holds S (records_on S log) x) (sym there)
      (every_life S L log b (life ++ (k.life ++ powers ∷ [])) assumed (subst (λ (x : Device S). FlightsFit S (history S x)) there fit))
    where
      k : LifeTo S Any (own c) c (lives S life (unpowered S log)) d'
      k = every_moment Any (own c) c (lives S life (unpowered S log)) d' (own_bounded c) (any_moment m)

      there : power_on S d' ≡ lives S (life ++ (k.life ++ powers ∷ [])) (unpowered S log)
      there =
          sym
          (lives_append life (k.life ++ powers ∷ []) (unpowered S log) ∙ lives_append k.life (powers ∷ []) (lives S life (unpowered S log))
          ∙ k.same)

      assumed : AllAssumed S (life ++ (k.life ++ powers ∷ [])) (unpowered S log)
      assumed =
          assumed_append life (k.life ++ powers ∷ []) (unpowered S log) a
          (assumed_append k.life (powers ∷ []) (lives S life (unpowered S log)) k.assumed (tt, tt))

-- Every life has a script, and every moment is the end of a life that has one: the operations of the calls, as bytes, are read back as they are, and
-- each plays its call. Assumes nothing.
use Prim.Native.Nat.{ℕ, ◌^◌, ◌*◌, ◌-◌}
use mathlib.Core.Path.{◌≡◌, refl, sym, ap, ap₂, ◌∙◌, subst}
use mathlib.Core.Bool.{Bool, true, cond}
use mathlib.Core.Logic.{◌⊎◌, inl, inr}
use mathlib.Core.List.{List, [], ◌∷◌, ◌++◌}
use native.Mathlib.Omega.{arith}
use borrow.Author.Tests.{lt-ltb}
use lib.ListN.{length, replicate, length-replicate}
use Rattle.power.specs.Pages.{Each}
use Rattle.power.specs.Calls.{Next, order_of}
use Rattle.power.specs.Life.{Call, Device}
use Rattle.power.specs.Life as Life
use Rattle.power.specs.Moments.{MaskAllowed, NoLarger, Bounded, LifeTo}
use Rattle.power.proofs.Moments.{lives_append, assumed_append, every_moment}
use Rattle.words.specs.Words.{Bytes}
use Rattle.words.proofs.Numbers.{bytes_replicate}
use Rattle.layout.specs.Layout.{pages_in}
use Rattle.queue.proofs.Laws.{holds_at_most_31}
use Rattle.blackbox.specs.declared.FlightRecord.{FlightRecord}
use Rattle.power_pages.specs.Store.{real}
use Rattle.power_pages.proofs.Real.{real_lawful}
use Rattle.power_views.specs.Views.{as_next}
use Rattle.script.specs.Script.{Operation, rows_in, script_of}
use Rattle.script.specs.Laws.{Writes, EachWrites}
use Rattle.script.proofs.Laws.{has_script}
use Rattle.rig.specs.Rig.{unpowered, played, image_after}
use Rattle.rig.specs.declared.Bench.{Bench}
use Rattle.rig.proofs.Laws.{unpowered_sound}
use Rattle.power_lives.specs.Lives.{OfLife, EachOfLife, takes, calls_of, life_from, device_before, NoneDecodes, next_of, keep_of, operation_of, operations_of}
use Rattle.power_lives.specs.Theorem.{Plays}
use Rattle.power_lives.specs.Scripts.{IsMask, MaskFits, Fits, AllFit, ScriptOf, EveryLifeHasScript, EndsSafe, EveryLifeSafe, EveryMomentSafe}
use Rattle.power_lives.proofs.Lives.{device_of, Fine, goes, fine_after}
use Rattle.power_lives.proofs.Scripts.{BytesOf, EachBytesOf, script_bytes}
use Rattle.power_lives.proofs.Theorem.{begun_is, log_is, demand_3, none_decodes}

next_back : (next : Next (List ℕ)) → as_next (next_of next) (keep_of next) ≡ next
next_back Next.busy = refl
next_back (Next.fault keep) = refl
next_back (Next.cut keep) = refl

mask_long : (next : Next (List ℕ)) → MaskFits next → length (keep_of next) ≡ 256
mask_long Next.busy h = length-replicate {A = ℕ} 256 0
mask_long (Next.fault keep) h = omega (arith, h.0)
mask_long (Next.cut keep) h = omega (arith, h.0)

each_of_life : (life : List (Call real)) → EachOfLife (operations_of life)
each_of_life [] = tt
each_of_life (Life.offers r ∷ life) = (tt, each_of_life life)
each_of_life (Life.drains order ∷ life) = (tt, each_of_life life)
each_of_life (Life.writes succeed next ∷ life) = (tt, each_of_life life)
each_of_life (Life.powers ∷ life) = (tt, each_of_life life)

writes_of : (c : Call real) (d : Device real) → Fits c d → Writes (operation_of c)
writes_of (Life.offers r) d h = h.0
writes_of (Life.drains order) d h = (h.0, h.1, mask_long order.next h.2)
writes_of (Life.writes succeed next) d h = (h.0, mask_long next h.1)
writes_of Life.powers d h = tt

each_writes : (life : List (Call real)) (d : Device real) → AllFit life d → EachWrites (operations_of life)
each_writes [] d h = tt
each_writes (x ∷ life) d h = (writes_of x d h.0, each_writes life (Life.call real x d) h.1)

of_life : (x : Call real) → OfLife (operation_of x)
of_life (Life.offers r) = tt
of_life (Life.drains order) = tt
of_life (Life.writes succeed next) = tt
of_life Life.powers = tt

-- an operation of a call is that call, where the queue takes what is offered
call_back : (c : ℕ) (b : Bench) (image : List ℕ) (past : List (List (ℕ × FlightRecord))) (now : List (ℕ × FlightRecord)) (x : Call real)
    → Fine c b image → Fits x (device_of (pages_in c) b image past now) → calls_of (operation_of x) b ≡ x ∷ []
call_back c b image past now (Life.offers r) f h =
    ap (λ (z : Bool). cond z (Life.offers r ∷ []) []) {x = takes b} {y = true}
    (omega (arith, h.1, (holds_at_most_31 b.queue f.sound.queue).0, lt-ltb))
call_back c b image past now (Life.drains order) f h =
    ap (λ (n : Next (List ℕ)). Life.drains (order_of order.limit order.while_disarmed order.armed order.succeed n) ∷ []) (next_back order.next)
call_back c b image past now (Life.writes succeed next) f h = ap (λ (n : Next (List ℕ)). Life.writes succeed n ∷ []) (next_back next)
call_back c b image past now Life.powers f h = refl

life_back : (c : ℕ) (life : List (Call real)) (b : Bench) (image : List ℕ) (past : List (List (ℕ × FlightRecord))) (now : List (ℕ × FlightRecord))
    → Fine c b image → AllFit life (device_of (pages_in c) b image past now) → life_from c (operations_of life) b image ≡ life
life_back c [] b image past now f h = refl
life_back c (x ∷ life) b image past now f h =
    let o = operation_of x in
    let e = call_back c b image past now x f h.0 in
    let t = goes c b image f past now o (of_life x) (writes_of x (device_of (pages_in c) b image past now) h.0) in
    let there : Life.call real x (device_of (pages_in c) b image past now)
    ≡ device_of (pages_in c) (played c o b image).bench (image_after c o b image) t.past t.now =
    ap (λ (l : List (Call real)). Life.lives real l (device_of (pages_in c) b image past now)) (sym e) ∙ t.same in
    ap₂ (λ (l m : List (Call real)). l ++ m) e
    (life_back c life (played c o b image).bench (image_after c o b image) t.past t.now (fine_after c o b image f) (subst (AllFit life) there h.1))

-- the masks of a life are bytes
mask_bytes : (next : Next (List ℕ)) → MaskFits next → Bytes (keep_of next)
mask_bytes Next.busy h = bytes_replicate 256 0 (omega arith)
mask_bytes (Next.fault keep) h = λ i. omega (arith, h.1 i)
mask_bytes (Next.cut keep) h = λ i. omega (arith, h.1 i)

bytes_of : (x : Call real) (d : Device real) → Fits x d → BytesOf (operation_of x)
bytes_of (Life.offers r) d h = tt
bytes_of (Life.drains order) d h = mask_bytes order.next h.2
bytes_of (Life.writes succeed next) d h = mask_bytes next h.1
bytes_of Life.powers d h = tt

each_bytes : (life : List (Call real)) (d : Device real) → AllFit life d → EachBytesOf (operations_of life)
each_bytes [] d h = tt
each_bytes (x ∷ life) d h = (bytes_of x d h.0, each_bytes life (Life.call real x d) h.1)

pub every_life_has_script : EveryLifeHasScript
every_life_has_script c image v l life h =
    let made = has_script (operations_of life) (each_writes life (device_before c image) h) in
    record {
      script = script_of (operations_of life);
      bytes = script_bytes (operations_of life) (each_bytes life (device_before c image) h);
      rows = made.0;
      each = rw made.1 (each_of_life life);
      same =
          ap (λ (os : List Operation). life_from c os unpowered image) made.1
          ∙ life_back c life unpowered image [] [] (record { valid = v; whole = l; sound = unpowered_sound })
          (subst (AllFit life) (begun_is c image) h);
    }

-- ---- every life is safe, and every moment

-- as many bytes as the script tells
abbrev told : List ℕ → List ℕ
told script = replicate (rows_in script * 40) 0

pub every_life_safe : EveryLifeSafe
every_life_safe c image v l blank life fit a =
    record {
      script = s.script;
      output = told s.script;
      plays = p;
      log =
          sym (log_is c image s.script (told s.script) p)
          ∙ ap (λ (x : List (Call real)). (Life.lives real x (device_before c image)).log) s.same;
      logged = ap (λ (x : List (Call real)). Life.history real (Life.lives real x (device_before c image))) s.same;
      safe =
          demand_3 c image s.script (told s.script) p blank
          (subst (λ (x : List (Call real)). NoneDecodes x (device_before c image)) (sym s.same) (none_decodes life (device_before c image) a));
    }
  where
    s : ScriptOf c image life
    s = every_life_has_script c image v l life fit

    p : Plays c image s.script (told s.script)
    p =
        record {
          valid = v;
          whole = l;
          bytes = s.bytes;
          rows = s.rows;
          told = length-replicate {A = ℕ} (rows_in s.script * 40) 0;
          life = s.each;
        }

-- the calls of a moment's life are rows that fit
mask_of : (next : Next (List ℕ)) → MaskFits next → MaskAllowed real IsMask next
mask_of Next.busy h = tt
mask_of (Next.fault keep) h = h
mask_of (Next.cut keep) h = h

of_mask : (next : Next (List ℕ)) → MaskAllowed real IsMask next → MaskFits next
of_mask Next.busy h = tt
of_mask (Next.fault keep) h = h
of_mask (Next.cut keep) h = h

bounded : (x : Call real) (d : Device real) → Fits x d → Bounded real IsMask (2 ^ 32 - 1) x
bounded (Life.offers r) d h = tt
bounded (Life.drains order) d h = (omega (arith, h.0), omega (arith, h.1), mask_of order.next h.2)
bounded (Life.writes succeed next) d h = (omega (arith, h.0), mask_of next h.1)
bounded Life.powers d h = tt

one_fits : (x : Call real) (d : Device real) → NoLarger real IsMask (2 ^ 32 - 1) x → Fits x d
one_fits (Life.offers r) d h = absurd h
one_fits (Life.drains order) d h = (omega (arith, h.0), omega (arith, h.1), of_mask order.next h.2)
one_fits (Life.writes succeed next) d h = (omega (arith, h.0), of_mask next h.1)
one_fits Life.powers d h = absurd h

each_fits : (life : List (Call real)) (d : Device real) → Each (NoLarger real IsMask (2 ^ 32 - 1)) life → AllFit life d
each_fits [] d h = tt
each_fits (x ∷ life) d h = (one_fits x d h.0, each_fits life (Life.call real x d) h.1)

moment_fits : (x : Call real) (d : Device real) (life : List (Call real)) → Fits x d
    → (life ≡ x ∷ []) ⊎ Each (NoLarger real IsMask (2 ^ 32 - 1)) life → AllFit life d
moment_fits x d life h (inl e) = subst (λ (l : List (Call real)). AllFit l d) (sym e) (h, tt)
moment_fits x d life h (inr k) = each_fits life d k

fits_append : (life more : List (Call real)) (d : Device real) → AllFit life d → AllFit more (Life.lives real life d) → AllFit (life ++ more) d
fits_append [] more d h k = k
fits_append (x ∷ life) more d h k = (h.0, fits_append life more (Life.call real x d) h.1 k)

pub every_moment_safe : EveryMomentSafe
every_moment_safe c image v l blank life fit a x fx d m =
    record {
      script = r.script;
      output = r.output;
      plays = r.plays;
      log = r.log ∙ ap (λ (e : Device real). e.log) (lives_append real real_lawful life k.life (device_before c image)) ∙ ap (λ (e : Device real). e.log) k.same;
      logged =
          r.logged ∙ ap (λ (e : Device real). Life.history real e) (lives_append real real_lawful life k.life (device_before c image))
          ∙ ap (λ (e : Device real). e.past) k.same;
      safe = r.safe;
    }
  where
    k : LifeTo real IsMask (2 ^ 32 - 1) x (Life.lives real life (device_before c image)) d
    k = every_moment real real_lawful IsMask (2 ^ 32 - 1) x (Life.lives real life (device_before c image)) d (bounded x (Life.lives real life (device_before c image)) fx) m

    r : EndsSafe c image (Life.lives real (life ++ k.life) (device_before c image))
    r =
        every_life_safe c image v l blank (life ++ k.life)
        (fits_append life k.life (device_before c image) fit (moment_fits x (Life.lives real life (device_before c image)) k.life fx k.no_larger))
        (assumed_append real real_lawful life k.life (device_before c image) a k.assumed)

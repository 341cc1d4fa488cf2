-- A script whose masks leave one 0 bit of "FB" unprogrammed meets the assumption, by the theory's law of scars; and the bench day does. Assumes nothing.
use Prim.Native.Nat.{ℕ}
use mathlib.Core.Path.{refl, sym, subst}
use mathlib.Core.Bool.{Bool, true, false, cond}
use mathlib.Core.List.{List, [], ◌∷◌, ◌++◌}
use Rattle.laws.specs.Bits.{bit}
use Rattle.power.specs.Pages.{Each}
use Rattle.power.specs.Life as Life
use Rattle.power.specs.Spared.{NextSpares, CallSpares}
use Rattle.power.proofs.Spared.{spared_meets_assumption}
use Rattle.layout.specs.Layout.{pages_in}
use Rattle.power_pages.specs.Store.{real}
use Rattle.power_pages.specs.Spared.{MagicBit, Unprogrammed}
use Rattle.power_pages.proofs.Real.{real_lawful}
use Rattle.power_pages.proofs.Spared.{magic_scars, lowest}
use Rattle.power_views.specs.Views.{as_next}
use Rattle.log_writer.specs.declared.NextProgram.{NextProgram}
use Rattle.log_writer.specs.declared.NextProgram.TheVariants.{Busy, Fault, Cut}
use Rattle.script.specs.Script.{Operation, offers, drains, writes, powers, recovers, resets, flushes, operations}
use Rattle.script.specs.Laws.{EachWrites}
use Rattle.script.proofs.Laws.{rows_fit}
use Rattle.rig.specs.Rig.{unpowered, played, image_after}
use Rattle.rig.specs.declared.Bench.{Bench}
use Rattle.power_lives.specs.Lives.{takes, life_from, life_of}
use Rattle.power_lives.specs.Spared.{MaskSpares, Spares, SparedScripts, bench_day, BenchDaySafe}
use Rattle.power_lives.proofs.Theorem.{demand_3, none_decodes, some_pages, few_pages}

module _ (b : MagicBit) where
  next_spares : (next : NextProgram) (keep : List ℕ) → MaskSpares b next keep → NextSpares real (Unprogrammed b) (as_next next keep)
  next_spares Busy keep h = tt
  next_spares Fault keep h = h
  next_spares Cut keep h = h

  life_spares : (c : ℕ) (os : List Operation) (x : Bench) (image : List ℕ) → EachWrites os → Each (Spares b) os
      → Each (CallSpares real (Unprogrammed b)) (life_from c os x image)
  life_spares c [] x image w h = tt
  life_spares c (offers r ∷ os) x image w h =
      go (takes x) (life_spares c os (played c (offers r) x image).bench (image_after c (offers r) x image) w.1 h.1)
    where
      go : (z : Bool) → Each (CallSpares real (Unprogrammed b)) (life_from c os (played c (offers r) x image).bench (image_after c (offers r) x image))
          → Each (CallSpares real (Unprogrammed b))
          (cond z (Life.offers r ∷ []) [] ++ life_from c os (played c (offers r) x image).bench (image_after c (offers r) x image))
      go true k = (w.0, k)
      go false k = k
  life_spares c (drains order keep ∷ os) x image w h =
      (next_spares order.next keep h.0, life_spares c os _ _ w.1 h.1)
  life_spares c (writes succeed next keep ∷ os) x image w h = (next_spares next keep h.0, life_spares c os _ _ w.1 h.1)
  life_spares c (powers ∷ os) x image w h = (tt, life_spares c os _ _ w.1 h.1)
  life_spares c (recovers page flight writable ∷ os) x image w h = life_spares c os _ _ w.1 h.1
  life_spares c (resets ∷ os) x image w h = life_spares c os _ _ w.1 h.1
  life_spares c (flushes buffered clock ∷ os) x image w h = life_spares c os _ _ w.1 h.1

pub spared_scripts : SparedScripts
spared_scripts c image script output p blank b h =
    none_decodes (life_of c image script) _
    (subst (λ (log : List (List ℕ)). Life.AllAssumed real (life_of c image script) (Life.unpowered real log)) (sym blank)
    (spared_meets_assumption real real_lawful (Unprogrammed b) (Unprogrammed b) (magic_scars b) (pages_in c) (some_pages c p.valid) (few_pages c p.valid)
    (life_of c image script) (life_spares b c (operations script) unpowered image (rows_fit script p.bytes p.rows) h)))

day_spares : Each (Spares lowest) bench_day
unfolding lowest bit
day_spares = (tt, (tt, (tt, (tt, (tt, (tt, (tt, (tt, (tt, (tt, (tt, (tt, (tt, (tt, (tt, (refl, (tt, (tt, (tt, (tt, (tt, (tt, (tt, (tt, (tt, (tt, (tt, (tt, (tt, (tt, (tt, (refl, (tt, (tt, (tt, (tt, (tt, (tt, (tt, (tt, (tt, (tt, (tt, (tt, (tt, tt)))))))))))))))))))))))))))))))))))))))))))))

pub bench_day_safe : BenchDaySafe
bench_day_safe image script output p e blank =
    demand_3 20480 image script output p blank
    (spared_scripts 20480 image script output p blank lowest (subst (Each (Spares lowest)) (sym e) day_spares))

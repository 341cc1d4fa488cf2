-- Torn pages, call by call through a power-on. Assumes nothing.
use Prim.Native.Nat.{ℕ, ◌+◌, ◌≤◌, ◌<◌}
use Rattle.std.specs.Prelude.{Some}
use mathlib.Core.Path.{◌≡◌, refl, sym, ap, ◌∙◌}
use mathlib.Core.Logic.{inr, ◌⊎◌, inl}
use mathlib.Core.List.{List, [], ◌∷◌, append-nil}
use native.Mathlib.Omega.{arith}
use lib.ListN.{take, drop, take-append-drop}
use Rattle.power.specs.Reading.{Torn, page_at}
use Rattle.power.specs.Pages.{PageStore}
use Rattle.power.specs.Lawful.{Lawful}
use Rattle.power.specs.Calls.{drain}
use Rattle.power.specs.Life.{ordered, Device, Call, offers, drains, writes, powers, begin, power_on, call, lives, unpowered, Assumed, AllAssumed}
use Rattle.power.specs.Theorem.{erased}
use Rattle.power.specs.Torn.{torn_in, NoPowerOn, Finished, AllFinished, TornOnce, AtMostOneTorn, NoneTornIfFinished, unfinished_in, TornIsLeft}
use Rattle.power.proofs.Invariant.{Ground}
use Rattle.power.proofs.TornCount.{torn_append, Few, Under}
use Rattle.power.proofs.Turns.{drain_keeps, write_keeps}
use Rattle.power.proofs.Theorem.{Stands, begins, Because, why, call_keeps, because_before, lives_keep, strictly, erased_stands}

module _ {Page Record Mask : Type 0} (S : PageStore Page Record Mask) (L : Lawful S) where
  torn_front : (n : ℕ) (l : List Page) → torn_in S (take n l) ≤ torn_in S l
  torn_front n l = omega (arith, ap (torn_in S) (take-append-drop n l), torn_append S L (take n l) (drop n l))

  pub few_power_on : (d : Device S) → Few S L (torn_in S d.log) d.log (power_on S d).writer
  few_power_on d =
      record {
        at_most = omega arith;
        below = λ a. torn_front (power_on S d).writer.next_page d.log;
        clear = λ a b. omega arith;
        ends = record { base = d.log; rest = []; split = sym (append-nil d.log); few = omega arith; front = tt };
      }

  module _ (G : Ground S L) where
    pub call_tears : (c : Call S) (d : Device S) → Assumed S c d → Because S L G (call S c d) → Stands S L G d → NoPowerOn S (c ∷ []) → (n : ℕ)
        → Few S L n d.log d.writer → Few S L n (call S c d).log (call S c d).writer
    call_tears (offers r) d a b h o n f = f
    call_tears (drains order) d a b h o n f =
        (drain_keeps S L G d.past d.now order (ordered S d order) (begins S L G d order.succeed order.next h) a (why S L G d (drain S order (ordered S d order)) b)).tears.few n f
    call_tears (writes g z) d a b h o n f = (write_keeps S L G d.past d.now (begin S d g z) (begins S L G d g z h) a).tears.few n f
    call_tears powers d a b h o n f = absurd o

    call_calm : (c : Call S) (d : Device S) → Assumed S c d → Because S L G (call S c d) → Stands S L G d → Finished S c d
        → torn_in S (call S c d).log ≤ torn_in S d.log
    call_calm (offers r) d a b h u = omega arith
    call_calm (drains order) d a b h u =
        ((drain_keeps S L G d.past d.now order (ordered S d order) (begins S L G d order.succeed order.next h) a (why S L G d (drain S order (ordered S d order)) b)).tears.calm u).1
    call_calm (writes g z) d a b h u = ((write_keeps S L G d.past d.now (begin S d g z) (begins S L G d g z h) a).tears.calm u).1
    call_calm powers d a b h u = omega arith

    -- each torn page was torn before, or is what the unfinished program left
    pub call_left : (c : Call S) (d : Device S) → Assumed S c d → Because S L G (call S c d) → Stands S L G d → (i : ℕ) → Torn S (page_at S (call S c d).log i)
        → Torn S (page_at S d.log i) ⊎ ((page : Page) × (unfinished_in S c d ≡ Some (page, page_at S (call S c d).log i)))
    call_left (offers r) d a b h i t = inl t
    call_left (drains order) d a b h i t =
        (drain_keeps S L G d.past d.now order (ordered S d order) (begins S L G d order.succeed order.next h) a (why S L G d (drain S order (ordered S d order)) b)).tears.left refl i t
    call_left (writes g z) d a b h i t = (write_keeps S L G d.past d.now (begin S d g z) (begins S L G d g z h) a).tears.left refl i t
    call_left powers d a b h i t = inl t

    -- the pages below the next one stay
    pub call_front : (c : Call S) (d : Device S) → Assumed S c d → Because S L G (call S c d) → Stands S L G d → NoPowerOn S (c ∷ []) → (k : ℕ)
        → Under S L k d.writer → (take k (call S c d).log ≡ take k d.log) × Under S L k (call S c d).writer
    call_front (offers r) d a b h o k u = (refl, u)
    call_front (drains order) d a b h o k u =
        (drain_keeps S L G d.past d.now order (ordered S d order) (begins S L G d order.succeed order.next h) a (why S L G d (drain S order (ordered S d order)) b)).tears.front k u
    call_front (writes g z) d a b h o k u = (write_keeps S L G d.past d.now (begin S d g z) (begins S L G d g z h) a).tears.front k u
    call_front powers d a b h o k u = absurd o

    pub split_power : (c : Call S) (calls : List (Call S)) → NoPowerOn S (c ∷ calls) → NoPowerOn S (c ∷ []) × NoPowerOn S calls
    split_power (offers r) calls h = (tt, h)
    split_power (drains order) calls h = (tt, h)
    split_power (writes g z) calls h = (tt, h)
    split_power powers calls h = absurd h

    pub lives_tear : (calls : List (Call S)) (d : Device S) → AllAssumed S calls d → Because S L G (lives S calls d) → Stands S L G d → NoPowerOn S calls → (n : ℕ)
        → Few S L n d.log d.writer → Few S L n (lives S calls d).log (lives S calls d).writer
    lives_tear [] d a b h o n f = f
    lives_tear (c ∷ calls) d a b h o n f =
        let first = because_before S L G calls (call S c d) b in
        let p = split_power c calls o in
        lives_tear calls (call S c d) a.1 b (call_keeps S L G c d a.0 first h).stands p.1 n (call_tears c d a.0 first h p.0 n f)

    pub lives_front : (calls : List (Call S)) (d : Device S) → AllAssumed S calls d → Because S L G (lives S calls d) → Stands S L G d → NoPowerOn S calls → (k : ℕ)
        → Under S L k d.writer → take k (lives S calls d).log ≡ take k d.log
    lives_front [] d a b h o k u = refl
    lives_front (c ∷ calls) d a b h o k u =
        let first = because_before S L G calls (call S c d) b in
        let p = split_power c calls o in
        let f = call_front c d a.0 first h p.0 k u in
        lives_front calls (call S c d) a.1 b (call_keeps S L G c d a.0 first h).stands p.1 k f.1 ∙ f.0

    lives_calm : (calls : List (Call S)) (d : Device S) → AllAssumed S calls d → Because S L G (lives S calls d) → Stands S L G d → AllFinished S calls d
        → torn_in S (lives S calls d).log ≤ torn_in S d.log
    lives_calm [] d a b h u = omega arith
    lives_calm (c ∷ calls) d a b h u =
        let first = because_before S L G calls (call S c d) b in
        omega (
          arith,
          call_calm c d a.0 first h u.0,
          lives_calm calls (call S c d) a.1 b (call_keeps S L G c d a.0 first h).stands u.1,
        )

  module _ (pages : ℕ) (z : 0 < pages) (h : pages + 2 ≤ S.limit) (life : List (Call S)) (a : AllAssumed S life (unpowered S (erased S pages))) where
    abbrev lived : Device S
    lived = lives S life (unpowered S (erased S pages))

    stood : Stands S L (strictly S L pages) lived
    stood = (lives_keep S L (strictly S L pages) life (unpowered S (erased S pages)) a (inr (omega arith)) (erased_stands S L pages h)).stands

    one_torn_lem : (calls : List (Call S)) → AllAssumed S calls (power_on S lived) → NoPowerOn S calls → TornOnce S (torn_in S lived.log) (lives S calls (power_on S lived))
    one_torn_lem calls a' o =
        let on = (call_keeps S L (strictly S L pages) powers lived tt (inr (omega arith)) stood).stands in
        let f = lives_tear (strictly S L pages) calls (power_on S lived) a' (inr (omega arith)) on o (torn_in S lived.log) (few_power_on lived) in
        record { at_most_one = omega (arith, f.at_most); only_waiting = λ on none_waits. omega (arith, f.clear on none_waits) }

    none_torn : (calls : List (Call S)) → AllAssumed S calls lived → AllFinished S calls lived → torn_in S (lives S calls lived).log ≤ torn_in S lived.log
    none_torn calls a' u = lives_calm (strictly S L pages) calls lived a' (inr (omega arith)) stood u

  pub torn_is_left : TornIsLeft S
  torn_is_left pages z h life c a a' = call_left (strictly S L pages) c (lived pages z h life a) a' (inr (omega arith)) (stood pages z h life a)

  pub at_most_one_torn : AtMostOneTorn S
  at_most_one_torn pages z h life calls a a' o = one_torn_lem pages z h life a calls a' o

  pub none_torn_if_finished : NoneTornIfFinished S
  none_torn_if_finished pages z h life calls a a' u = none_torn pages z h life a calls a' u

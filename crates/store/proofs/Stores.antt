-- The ends of a call on lent bytes: what it answers and what it leaves there, by what it stores. Assumes nothing.
use Prim.Native.Nat.{ℕ, ◌+◌, ◌≤◌}
use mathlib.Core.Path.{◌≡◌, refl, sym, ap, ◌∙◌}
use mathlib.Core.Bool.{Bool, true, false, cond}
use mathlib.Core.List.{List}
use native.Mathlib.Omega.{arith}
use borrow.Author.Tests.{eq-eqb, ne_eqb}
use borrow.Rule.Slice.PartMut.{put_mid}
use lib.ListN.{length, take, drop, replicate, length-replicate, length-drop}
use lib.Seq.{length-take-le}
use lib.Dec.{eqb}
use Rattle.std.proofs.lemmas.Slice.{put_mid-paste}
use Rattle.laws.specs.Refusals.{device}
use Rattle.laws.specs.Answers.{Answer, gives, refuses, must}
use Rattle.laws.proofs.Choice.{cond_true}
use Rattle.layout.proofs.Capacity.{valid}
use Rattle.words.proofs.Numbers.{placed_fits}
use Rattle.store.specs.Store.{on_image, on_lengths, done, leaves, replied, in_one_page, is_sector, blank_sector, erased}
use Rattle.store.proofs.Checks.{held_image, held_lengths, one_page, sector, tested}

-- ---- a test that the code holds as a bool

module _ {A : Type 0} (b test : Bool) (n : ℕ) (rest : Answer A) (e : b ≡ test) where
  pub test_failed : b ≡ false → refuses n 0 ≡ must test n rest
  test_failed h = rw (← e, h) refl

  pub test_held : (given : Answer A) → b ≡ true → given ≡ rest → given ≡ must test n rest
  test_held given h g = g ∙ rw (← e, h) refl

-- ---- what a call answers

module _ {A : Type 0} where
  pub done_refused : (a : Answer A) (n x : ℕ) → refuses n x ≡ a → refuses n x ≡ done a
  done_refused a n x e = rw (← e) refl

  pub done_given : (a : Answer A) (v : A) → gives v ≡ a → gives tt ≡ done a
  done_given a v e = rw (← e) refl

-- a device's reply
pub reply_fault : (reply : ℕ) → (reply ≡ 0 → ⊥) → refuses device reply ≡ replied reply
unfolding replied
reply_fault reply h = rw (ne_eqb reply 0 h) refl

pub reply_well : (reply : ℕ) → reply ≡ 0 → gives tt ≡ replied reply
unfolding replied
reply_well reply h = rw (eq-eqb reply 0 h) refl

-- ---- what it leaves in the lent bytes

module _ {A : Type 0} (old : A) (a : Answer A) where
  pub leaves_old : (n x : ℕ) → refuses n x ≡ a → old ≡ leaves old a
  leaves_old n x e = rw (← e) refl

  pub leaves_new : (v new : A) → gives v ≡ a → new ≡ v → new ≡ leaves old a
  leaves_new v new e h = h ∙ rw (← e) refl

-- ---- where it reads and writes

pub part_fits : {A : Type 0} (c n l w : ℕ) (one x : A) (a k : ℕ) (b : Bool) → gives x ≡ on_lengths c n l w (gives one) → b ≡ in_one_page c a k → b ≡ true
    → a + k ≤ n
part_fits c n l w one x a k b e p h = omega (arith, one_page c a k (sym p ∙ h), (held_lengths c n l w (gives one) x (sym e)).1)

pub sector_fits : {A : Type 0} (c n : ℕ) (one x : A) (a : ℕ) (b : Bool) → gives x ≡ on_image c n (gives one) → b ≡ is_sector c a → b ≡ true
    → a + 4096 ≤ n
sector_fits c n one x a b e p h =
    let k = held_image c n (gives one) x (sym e) in
    let v = valid c k.0 in
    omega (arith, sector c a (sym p ∙ h), k.1)

-- a sector that was filled
module _ (m : List ℕ) (a reply k : ℕ) (s : List ℕ) where
  filled : a + 4096 ≤ length m → k ≡ 4096 → s ≡ replicate (length (take k (drop a m))) 255 → put_mid a k m s ≡ erased m a
  unfolding erased blank_sector
  filled h e w =
      let blank : List ℕ = replicate 4096 255 in
      let long : length blank ≡ 4096 = length-replicate {A = ℕ} 4096 255 in
      let part : length (take k (drop a m)) ≡ 4096 = length-take-le k (drop a m) (omega (arith, length-drop a m)) ∙ e in
      put_mid-paste a k m s blank (length blank) (w ∙ ap (λ (j : ℕ). replicate j 255) part) (long ∙ sym e) refl
      ∙ sym (placed_fits m a blank (omega (arith, long)))

  pub sector_put : reply ≡ 0 → a + 4096 ≤ length m → k ≡ 4096 → s ≡ replicate (length (take k (drop a m))) 255
      → put_mid a k m s ≡ cond (eqb reply 0) (erased m a) m
  sector_put r h e w = filled h e w ∙ sym (cond_true (eqb reply 0) (erased m a) m (eq-eqb reply 0 r))

-- what `search` is given at a call on lent bytes
pub ruleset ends =
    (tested, test_failed, test_held, done_refused, done_given, reply_fault, reply_well, leaves_old, leaves_new, part_fits, sector_fits)

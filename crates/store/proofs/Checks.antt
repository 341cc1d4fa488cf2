-- The tests that come first in every call of an image, 5 and 17: what each way out shows. Assumes nothing.
use Prim.Native.Nat.{ℕ, ◌+◌, ◌%◌, ◌≤◌, ◌<◌}
use mathlib.Core.Path.{◌≡◌, refl, sym, ◌∙◌}
use mathlib.Core.Bool.{Bool, true, false, cond}
use native.Mathlib.Omega.{arith}
use borrow.Author.Tests.{eq-eqb, le-leb, lt-ltb, eqb-true, leb-true, ltb-true}
use lib.Dec.{eqb, leb, ltb}
use Rattle.laws.specs.Refusals.{invalid_layout, bad_length}
use Rattle.laws.specs.Answers.{Answer, gives, refuses, must}
use Rattle.laws.proofs.Chain.{passed, must_refused, chain}
use Rattle.layout.specs.Layout.{valid_capacity}
use Rattle.store.specs.Store.{on_image, on_lengths, in_one_page, is_sector}

-- ---- the chain itself

pub on_image_lem : {A : Type 0} (c n : ℕ) (rest : Answer A) → valid_capacity c ≡ true → n ≡ c → on_image c n rest ≡ rest
unfolding on_image
on_image_lem c n rest v h = rw (v, eq-eqb n c h) refl

pub on_lengths_lem : {A : Type 0} (c n l w : ℕ) (rest : Answer A) → valid_capacity c ≡ true → n ≡ c → l ≡ w → on_lengths c n l w rest ≡ rest
unfolding on_lengths
on_lengths_lem c n l w rest v h k = on_image_lem c n _ v h ∙ rw (eq-eqb l w k) refl

-- a value got through the tests
pub held_image : {A : Type 0} (c n : ℕ) (rest : Answer A) (a : A) → on_image c n rest ≡ gives a
    → (valid_capacity c ≡ true) × (n ≡ c) × (rest ≡ gives a)
unfolding on_image
held_image c n rest a e =
    let p = passed (valid_capacity c) invalid_layout (must (eqb n c) bad_length rest) a e in
    let q = passed (eqb n c) bad_length rest a p.1 in
    (p.0, eqb-true n c q.0, q.1)

pub held_lengths : {A : Type 0} (c n l w : ℕ) (rest : Answer A) (a : A) → on_lengths c n l w rest ≡ gives a
    → (valid_capacity c ≡ true) × (n ≡ c) × (l ≡ w) × (rest ≡ gives a)
unfolding on_lengths
held_lengths c n l w rest a e =
    let i = held_image c n (must (eqb l w) bad_length rest) a e in
    let p = passed (eqb l w) bad_length rest a i.2 in
    (i.0, i.1, eqb-true l w p.0, p.1)

-- ---- a call that goes on with `?` after the tests: what they told is what the whole tells

module _ {A B : Type 0} (c n : ℕ) (one : A) (rest : Answer B) where
  pub image_refused : (x y : ℕ) → refuses x y ≡ on_image c n (gives one) → refuses x y ≡ on_image c n rest
  unfolding on_image
  image_refused x y e = go (valid_capacity c) (eqb n c) e
    where
      go : (p q : Bool) → refuses x y ≡ must p invalid_layout (must q bad_length (gives one))
          → refuses x y ≡ must p invalid_layout (must q bad_length rest)
      go true q h = must_refused q bad_length one rest x y h
      go false q h = must_refused false invalid_layout one (must q bad_length rest) x y h

  pub image_held : (x : A) → gives x ≡ on_image c n (gives one) → (valid_capacity c ≡ true) × (n ≡ c)
  image_held x e = let h = held_image c n (gives one) x (sym e) in (h.0, h.1)

  pub image_passed : (x : A) (given : Answer B) → gives x ≡ on_image c n (gives one) → given ≡ rest → given ≡ on_image c n rest
  image_passed x given e h = let k = image_held x e in h ∙ sym (on_image_lem c n rest k.0 k.1)

module _ {A B : Type 0} (c n l w : ℕ) (one : A) (rest : Answer B) where
  pub lengths_refused : (x y : ℕ) → refuses x y ≡ on_lengths c n l w (gives one) → refuses x y ≡ on_lengths c n l w rest
  unfolding on_image on_lengths
  lengths_refused x y e = go (valid_capacity c) (eqb n c) (eqb l w) e
    where
      go : (p q r : Bool) → refuses x y ≡ must p invalid_layout (must q bad_length (must r bad_length (gives one)))
          → refuses x y ≡ must p invalid_layout (must q bad_length (must r bad_length rest))
      go true true r h = must_refused r bad_length one rest x y h
      go true false r h = must_refused false bad_length one (must r bad_length rest) x y h
      go false q r h = must_refused false invalid_layout one (must q bad_length (must r bad_length rest)) x y h

  pub lengths_held : (x : A) → gives x ≡ on_lengths c n l w (gives one) → (valid_capacity c ≡ true) × (n ≡ c) × (l ≡ w)
  lengths_held x e = let h = held_lengths c n l w (gives one) x (sym e) in (h.0, h.1, h.2)

  pub lengths_passed : (x : A) (given : Answer B) → gives x ≡ on_lengths c n l w (gives one) → given ≡ rest → given ≡ on_lengths c n l w rest
  lengths_passed x given e h = let k = lengths_held x e in h ∙ sym (on_lengths_lem c n l w rest k.0 k.1 k.2)

-- what `search` is given at a call that tests an image first
pub ruleset tested = (chain, image_refused, image_passed, lengths_refused, lengths_passed)

-- ---- where bytes may be programmed and a sector erased

one_page_at : (c a n : ℕ) (p q : Bool) → leb (a + n) c ≡ p → leb (a % 256 + n) 256 ≡ q → cond p q false ≡ true → (a + n ≤ c) × (a % 256 + n ≤ 256)
one_page_at c a n true true e f h = (leb-true (a + n) c e, leb-true (a % 256 + n) 256 f)
one_page_at c a n true false e f h = absurd (let z : ◌≡◌ {A = ℕ} 0 1 = cc in omega arith)
one_page_at c a n false q e f h = absurd (let z : ◌≡◌ {A = ℕ} 0 1 = cc in omega arith)

pub one_page : (c a n : ℕ) → in_one_page c a n ≡ true → (a + n ≤ c) × (a % 256 + n ≤ 256)
unfolding in_one_page
one_page c a n h = one_page_at c a n (leb (a + n) c) (leb (a % 256 + n) 256) refl refl h

pub in_page : (c a n : ℕ) → a + n ≤ c → a % 256 + n ≤ 256 → in_one_page c a n ≡ true
unfolding in_one_page
in_page c a n h l = rw (le-leb (a + n) c h, le-leb (a % 256 + n) 256 l) refl

sector_at : (c a : ℕ) (p q : Bool) → ltb a c ≡ p → eqb (a % 4096) 0 ≡ q → cond p q false ≡ true → (a < c) × (a % 4096 ≡ 0)
sector_at c a true true e f h = (ltb-true a c e, eqb-true (a % 4096) 0 f)
sector_at c a true false e f h = absurd (let z : ◌≡◌ {A = ℕ} 0 1 = cc in omega arith)
sector_at c a false q e f h = absurd (let z : ◌≡◌ {A = ℕ} 0 1 = cc in omega arith)

pub sector : (c a : ℕ) → is_sector c a ≡ true → (a < c) × (a % 4096 ≡ 0)
unfolding is_sector
sector c a h = sector_at c a (ltb a c) (eqb (a % 4096) 0) refl refl h

pub is_sector_lem : (c a : ℕ) → a < c → a % 4096 ≡ 0 → is_sector c a ≡ true
unfolding is_sector
is_sector_lem c a h l = rw (lt-ltb a c h, eq-eqb (a % 4096) 0 l) refl

-- A chain of tests, taken apart: what gave a value passed every test. Assumes nothing.
use Prim.Native.Nat.{ℕ}
use mathlib.Core.Path.{◌≡◌, refl, sym}
use mathlib.Core.Bool.{Bool, true, false}
use native.Mathlib.Omega.{arith}
use Rattle.std.specs.Prelude.{Result, IsErrAnd}
use Rattle.std.proofs.lemmas.Result.{err_from_is_err_and}
use Rattle.laws.specs.declared.Refusal.{Refusal}
use Rattle.laws.specs.Answers.{Answer, gives, refuses, number_of, fault_of, must, then, told}

-- two values that are given are equal if the answers are
pub given : {A : Type 0} {a b : A} → gives a ≡ gives b → a ≡ b
given e = cc

-- a value is no refusal
pub no_refusal : {A : Type 0} {a : A} {n x : ℕ} → refuses n x ≡ gives a → ⊥
no_refusal e = let z : ◌≡◌ {A = ℕ} 0 1 = cc in omega arith

pub passed : {A : Type 0} (test : Bool) (n : ℕ) (rest : Answer A) (a : A) → must test n rest ≡ gives a → (test ≡ true) × (rest ≡ gives a)
passed true n rest a e = (refl, e)
passed false n rest a e = absurd (no_refusal e)

-- a value after another call: what that call gave
pub went_on : {A B : Type 0} (r : Answer A) (rest : A → Answer B) (b : B) → then r rest ≡ gives b
    → (a : A) × (r ≡ gives a) × (rest a ≡ gives b)
went_on (gives a) rest b e = (a, refl, e)
went_on (refuses n x) rest b e = absurd (no_refusal e)

-- a test that gave a value was passed
pub test_of : {A : Type 0} (test : Bool) (n : ℕ) (a x : A) → gives x ≡ must test n (gives a) → test ≡ true
test_of true n a x e = refl
test_of false n a x e = absurd (no_refusal (sym e))

-- ---- a call that goes on with `?`: what it tells where it ends, from what the call before told

-- the refusal of the call before goes out as it is
pub goes_out : {A : Type 0} (r : Result A Refusal) (why : Refusal) (a : Answer A) → IsErrAnd r (λ w. w ≡ why)
    → refuses (number_of why) (fault_of why) ≡ a → told r ≡ a
goes_out r why a e h = let p = err_from_is_err_and r e in rw (p.1, p.2) h

module _ {A B : Type 0} where
  -- after a test
  pub must_refused : (test : Bool) (n : ℕ) (a : A) (rest : Answer B) (number fault : ℕ) → refuses number fault ≡ must test n (gives a)
      → refuses number fault ≡ must test n rest
  must_refused true n a rest number fault e = absurd (no_refusal e)
  must_refused false n a rest number fault e =
      let x : number ≡ n = cc in
      let y : fault ≡ 0 = cc in
      rw (x, y) refl

  pub must_passed : (test : Bool) (n : ℕ) (a x : A) (rest given : Answer B) → gives x ≡ must test n (gives a) → given ≡ rest → given ≡ must test n rest
  must_passed true n a x rest given e h = h
  must_passed false n a x rest given e h = absurd (no_refusal (sym e))

  -- after another call
  pub then_refused : (a : Answer A) (rest : A → Answer B) (number fault : ℕ) → refuses number fault ≡ a → refuses number fault ≡ then a rest
  then_refused a rest number fault e = rw (← e) refl

  pub then_given : (a : Answer A) (rest : A → Answer B) (x : A) (given : Answer B) → gives x ≡ a → given ≡ rest x → given ≡ then a rest
  then_given a rest x given e h = rw (← e) h

-- what `search` is given at a call that goes on with `?`
pub ruleset chain = (goes_out, must_refused, must_passed, then_refused, then_given)

-- An answer that can be read back from what it tells is determined by that. Assumes nothing.
use Prim.Native.Nat.{ℕ}
use mathlib.Core.Bool.{cond}
use lib.Dec.{eqb}
use mathlib.Core.Path.{◌≡◌, refl, sym, ap, ◌∙◌}
use Rattle.std.specs.Prelude.{Result, Ok, Err}
use Rattle.laws.specs.Answers.{Answer, gives, refuses, number_of, fault_of, told}
use Rattle.laws.specs.OneToOne.{OneToOne, AnswersTell}
use Rattle.laws.specs.declared.Refusal.{Refusal}
use Rattle.laws.specs.declared.Refusal.TheVariants as Why

pub read_back : {E B : Type 0} (told : E → B) (back : B → E) → ((x : E) → back (told x) ≡ x) → OneToOne told
read_back told back h x y e = sym (h x) ∙ ap back e ∙ h y

-- the refusal of a number and a fault byte
abbrev pub refusal_of : ℕ → ℕ → Refusal
refusal_of n fault =
    cond (eqb n 1) Why.InvalidRecordCount (
    cond (eqb n 2) Why.InvalidMagic (
    cond (eqb n 3) Why.UnsupportedVersion (
    cond (eqb n 4) Why.CrcMismatch (
    cond (eqb n 5) Why.InvalidLayout (
    cond (eqb n 6) (Why.Device fault) (
    cond (eqb n 7) Why.Corrupt (
    cond (eqb n 8) Why.OutOfRange (
    cond (eqb n 9) Why.NotRecording (
    cond (eqb n 10) Why.PageNotConsumed (
    cond (eqb n 11) Why.Format (
    cond (eqb n 12) Why.NoSuchFlight (
    cond (eqb n 13) Why.Recording (
    cond (eqb n 14) Why.LengthChanged (
    cond (eqb n 15) Why.LedgerFull (
    cond (eqb n 16) Why.QueueFull (Why.BadLength))))))))))))))))

pub same_refusal : (r : Refusal) → refusal_of (number_of r) (fault_of r) ≡ r
same_refusal Why.InvalidRecordCount = refl
same_refusal Why.InvalidMagic = refl
same_refusal Why.UnsupportedVersion = refl
same_refusal Why.CrcMismatch = refl
same_refusal Why.InvalidLayout = refl
same_refusal (Why.Device fault) = refl
same_refusal Why.Corrupt = refl
same_refusal Why.OutOfRange = refl
same_refusal Why.NotRecording = refl
same_refusal Why.PageNotConsumed = refl
same_refusal Why.Format = refl
same_refusal Why.NoSuchFlight = refl
same_refusal Why.Recording = refl
same_refusal Why.LengthChanged = refl
same_refusal Why.LedgerFull = refl
same_refusal Why.QueueFull = refl
same_refusal Why.BadLength = refl

module _ {A : Type 0} where
  abbrev answer : Answer A → Result A Refusal
  answer (gives a) = Ok a
  answer (refuses number fault) = Err (refusal_of number fault)

  same_answer : (a : Result A Refusal) → answer (told a) ≡ a
  same_answer (Ok a) = refl
  same_answer (Err r) = ap {B = Result A Refusal} Err (same_refusal r)

  pub answers_tell : AnswersTell A
  answers_tell = read_back told answer same_answer

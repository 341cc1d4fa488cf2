-- What a reader may conclude from a contract on what an answer tells. Document 01: "Any two results it permits for one
-- input are shown equal".
use Rattle.std.specs.Prelude.{◌≡◌}
use Rattle.laws.specs.Answers.{told}

-- answers that tell the same are the same
abbrev pub OneToOne : {E B : Type 0} → (E → B) → Type 0
OneToOne {E} told = (x y : E) → told x ≡ told y → x ≡ y

-- whatever values an answer gives
abbrev pub AnswersTell : Type 0 → Type 0
AnswersTell A = OneToOne (told {A = A})

-- `digits::decimal` meets its contract. Assumes nothing.
use mathlib.Core.Path.{ap, ◌∙◌}
use mathlib.Core.List.{List, ◌++◌}
use Prim.Native.Nat.{ℕ}
use native.Mathlib.Omega.{arith}
use lib.ListN.{take}
use lib.Seq.{take_all}
use Rattle.digits.specs.Decimal.{decimal_of}
use Rattle.digits.proofs.Notation.{decimal_ten}
use Rattle.digits.proofs.decimal.Goals as goal

pub returns : goal.returns
returns c =
    c.push_number.ensures ∙ ap (λ (l : List ℕ). take 10 (l ++ decimal_of c.args.n)) c.new-digits.ensures
    ∙ take_all 10 (decimal_of c.args.n) (decimal_ten c.args.n (omega arith))

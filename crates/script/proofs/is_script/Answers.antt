-- `script::is_script` meets its contract. Assumes nothing.
use mathlib.Core.Path.{◌∙◌}
use native.Mathlib.Omega.{arith}
use borrow.Author.Rules.{rules}
use Rattle.std.proofs.lemmas.List.{length_push}
use Rattle.script.proofs.Rows.{no_script, untested, tested_more, other_row, every_row}
use Rattle.script.proofs.is_script.Goals as goal

pub returns-then-script-ne0 : goal.returns-then-script-ne0
returns-then-script-ne0 c = search (no_script, rules)

pub loop-row-init : goal.loop-row-init
loop-row-init c = record { tested = search (untested, rules); size = search rules }

pub loop-row-preserved : goal.loop-row-preserved
loop-row-preserved c =
    let i = c.loop-row.invariant in
    let s = c.in-Some.ensures.steps in
    record {
      tested =
          tested_more _ _ _ i.tested _ _ s.1.0 (s.1.1 ∙ i.size) _ c.is_row.ensures _ (length_push c.loop-row.yielded c.in-Some.row) c.if-not-is_row.false;
      size = s.0 ∙ i.size;
    }

pub returns-then-not-is_row : goal.returns-then-not-is_row
returns-then-not-is_row c =
    let i = c.loop-row.invariant in
    let s = c.in-Some.ensures.steps in
    other_row _ _ _ i.tested _ _ s.1.0 (s.1.1 ∙ i.size) _ c.is_row.ensures c.if-not-is_row.true

pub returns : goal.returns
returns c = every_row _ _ _ c.loop-row.invariant.tested (omega (arith, c.in-None.ensures.steps.1.0))

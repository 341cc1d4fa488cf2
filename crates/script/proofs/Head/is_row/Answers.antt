-- `script::Head::is_row` meets its contract. Assumes nothing.
use borrow.Author.Rules.{rules}
use Rattle.script.proofs.Rows.{head_laid}
use Rattle.script.proofs.Head.is_row.Goals as goal

pub returns : goal.returns
returns c = search (head_laid, rules)

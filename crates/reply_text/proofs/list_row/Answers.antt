-- `reply_text::list_row` meets its contract. Assumes nothing.
use Rattle.std.proofs.Common.{◌∙◌, ap, append-nil, rules}
use Rattle.blackbox.specs.Page.{joined}
use Rattle.reply_text.specs.TextRows.{list_row}
use Rattle.reply_text.proofs.Rows.{flattened}
use Rattle.reply_text.proofs.list_row.Goals as goal

pub returns : goal.returns
unfolding list_row
returns c =
    let rows = c.copy_from_slice.ensures.after ∙ c.as_flattened.ensures.value ∙ flattened c.stored_rows.result ∙ ap joined c.stored_rows.ensures in
    rw (append-nil, rows) (search rules)

-- `reply_text::stored_rows` meets its contract. Assumes nothing.
use Rattle.std.proofs.Common.{rules, arith}
use Rattle.reply_log.specs.LogRows.{stored_row}
use Rattle.reply_text.proofs.Rows.{mapped}
use Rattle.reply_text.proofs.stored_rows.Goals as goal

pub returns : goal.returns
returns c = mapped stored_row c.args.flights c.map.result (search rules) (λ i d e h. let w = c.map.ensures.items.at i d e (omega arith) in search rules)

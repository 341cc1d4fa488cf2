-- `words::u32_bytes` meets its contract. Assumes nothing.
use mathlib.Core.Path.{◌∙◌}
use Rattle.words.proofs.Numbers.{bytes_written}
use Rattle.words.proofs.u32_bytes.Goals as goal

pub returns : goal.returns
returns c = c.to_le_bytes.ensures ∙ bytes_written 4 c.args.v

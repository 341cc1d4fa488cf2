-- `u16::put` meets its contract. Assumes nothing.
use Rattle.words.proofs.Numbers.{bytes_laid}
use Rattle.words.proofs.U16Number.put.Goals as goal

pub returns : goal.returns
returns c = bytes_laid _ _ _ _ 2 _ c.put_bytes.ensures c.to_le_bytes.ensures

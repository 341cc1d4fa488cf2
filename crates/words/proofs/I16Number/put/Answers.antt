-- `i16::put` meets its contract. Assumes nothing.
use Rattle.words.proofs.Signed.{signed_bits}
use Rattle.words.proofs.I16Number.put.Goals as goal

pub returns : goal.returns
returns c = rw (c.to_u16.ensures, signed_bits c.args.self c.ranges.self) at c.put.ensures

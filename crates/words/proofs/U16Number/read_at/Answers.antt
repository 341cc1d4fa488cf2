-- `u16::read_at` meets its contract, byte by byte. Assumes nothing.
use mathlib.Core.Path.{sym}
use Rattle.words.proofs.Numbers.{u16_bytes, past_end}
use native.Mathlib.Omega.{arith}
use Rattle.words.proofs.U16Number.read_at.Goals as goal

pub returns-then-s-at : goal.returns-then-s-at
returns-then-s-at c = sym (past_end 2 c.args.s.now c.args.at c.if-s-at.true)

pub returns : goal.returns
returns c =
    omega (arith, u16_bytes c.args.s.now c.args.at, c.byte_at.ensures, c.byte_at-2.ensures, c.from_le_bytes.ensures)

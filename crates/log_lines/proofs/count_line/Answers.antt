-- `log_lines::count_line` meets its contract: its pieces are the line's. Assumes nothing.
use native.Mathlib.Omega.{arith}
use Rattle.log_lines.proofs.Fits.{flag_is, count_made}
use Rattle.log_lines.proofs.count_line.Goals as goal

pub returns : goal.returns
returns c =
    rw (c.push-3.ensures, c.push_number-2.ensures, c.from.ensures, c.push-2.ensures, c.push_number.ensures)
    (rw (c.push.ensures, c.new-line.ensures, flag_is c.args.more) (count_made c.args.count c.args.more (omega arith)))

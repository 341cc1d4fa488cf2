-- `log_lines::flight_line` meets its contract: its pieces are the line's. Assumes nothing.
use Prim.Native.Nat.{◌≤◌}
use native.Mathlib.Omega.{arith}
use lib.ListN.{length}
use Rattle.log_lines.specs.Lines.{flight_line}
use Rattle.log_lines.proofs.Fits.{flight_line_fits, flight_made}
use Rattle.log_lines.proofs.flight_line.Goals as goal

pub returns : goal.returns
returns c =
    let fits : length (flight_line c.args.flight) ≤ 56 =
    flight_line_fits c.args.flight (record { id = omega arith; start = omega arith; count = omega arith })
    in (
      rw (c.push-4.ensures, c.push_number-3.ensures, c.push-3.ensures, c.push_number-2.ensures)
          (rw (c.push-2.ensures, c.push_number.ensures, c.push.ensures, c.new-line.ensures)
          (flight_made c.args.flight fits)),
      fits,
    )

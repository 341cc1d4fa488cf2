-- `script::Operation::read` meets its contract. Assumes nothing.
use native.Mathlib.Omega.{arith}
use Rattle.script.proofs.Rows.{reads_flush}
use Rattle.script.proofs.Operation.read.Goals as goal

pub returns-in_default-clause-says : goal.returns-in_default-clause-says
returns-in_default-clause-says c = reads_flush _ _ c.byte_at.ensures _ _ (omega arith) c.flag_at-in_default.ensures (omega arith)

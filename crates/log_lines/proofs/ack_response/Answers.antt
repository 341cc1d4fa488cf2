-- `log_lines::ack_response` meets its contract: every text fits. Assumes nothing.
use lib.Seq.{take_all}
use Rattle.log_lines.specs.Lines.{ack_text}
use Rattle.log_lines.proofs.Fits.{ack_text_fits}
use Rattle.log_lines.proofs.ack_response.Goals as goal

pub returns : goal.returns
returns c = let whole = take_all 56 (ack_text c.args.number) (ack_text_fits c.args.number) in cc

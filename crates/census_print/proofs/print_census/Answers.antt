-- `census_print::print_census` meets its contract. Assumes nothing.
use Rattle.census_print.proofs.print_census.Goals as goal

pub returns : goal.returns
returns c = record { image = _; is = c.census_text-text.ensures }

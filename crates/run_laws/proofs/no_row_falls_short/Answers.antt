use Rattle.run_laws.proofs.Rows.{none_short_law}
use Rattle.run_laws.proofs.no_row_falls_short.Goals as goal

pub returns : goal.returns
returns c = none_short_law

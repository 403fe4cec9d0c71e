use Rattle.run_laws.proofs.Rows.{none_lost_law}
use Rattle.run_laws.proofs.reads_are_not_lost_without_cuts.Goals as goal

pub returns : goal.returns
returns c = none_lost_law

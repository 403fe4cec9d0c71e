use Rattle.clock_laws.proofs.Others.{other_rows_law}
use Rattle.clock_laws.proofs.outcomes.other_outcomes_stay.Goals as goal

pub returns : goal.returns
returns c = other_rows_law

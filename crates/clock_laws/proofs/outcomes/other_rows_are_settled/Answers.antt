use Rattle.clock_laws.proofs.Settled.{settled_law}
use Rattle.clock_laws.proofs.outcomes.other_rows_are_settled.Goals as goal

pub returns : goal.returns
returns c = settled_law

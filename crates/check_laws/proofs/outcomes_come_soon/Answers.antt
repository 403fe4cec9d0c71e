use Rattle.check_laws.proofs.Soon.{soon_law}
use Rattle.check_laws.proofs.outcomes_come_soon.Goals as goal

pub returns : goal.returns
returns c = soon_law

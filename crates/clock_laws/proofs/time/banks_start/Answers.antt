use Rattle.clock_laws.proofs.Passing.{start_law}
use Rattle.clock_laws.proofs.time.banks_start.Goals as goal

pub returns : goal.returns
returns c = start_law

use Rattle.clock_laws.proofs.Fitting.{rest_law}
use Rattle.clock_laws.proofs.time.banks_rest.Goals as goal

pub returns : goal.returns
returns c = rest_law

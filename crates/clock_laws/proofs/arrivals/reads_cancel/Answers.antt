use Rattle.clock_laws.proofs.Cutting.{cancel_law}
use Rattle.clock_laws.proofs.arrivals.reads_cancel.Goals as goal

pub returns : goal.returns
returns c = cancel_law

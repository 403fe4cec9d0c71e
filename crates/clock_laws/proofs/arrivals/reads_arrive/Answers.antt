use Rattle.clock_laws.proofs.Arriving.{read_law}
use Rattle.clock_laws.proofs.arrivals.reads_arrive.Goals as goal

pub returns : goal.returns
returns c = read_law

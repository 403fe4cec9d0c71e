use Rattle.clock_laws.proofs.Arriving.{write_law}
use Rattle.clock_laws.proofs.arrivals.writes_arrive.Goals as goal

pub returns : goal.returns
returns c = write_law

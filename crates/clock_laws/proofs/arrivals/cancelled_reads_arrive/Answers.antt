use Rattle.clock_laws.proofs.Cutting.{cancelled_read_law}
use Rattle.clock_laws.proofs.arrivals.cancelled_reads_arrive.Goals as goal

pub returns : goal.returns
returns c = cancelled_read_law

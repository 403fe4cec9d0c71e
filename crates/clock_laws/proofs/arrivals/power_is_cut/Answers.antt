use Rattle.clock_laws.proofs.Cutting.{power_cut_law}
use Rattle.clock_laws.proofs.arrivals.power_is_cut.Goals as goal

pub returns : goal.returns
returns c = power_cut_law

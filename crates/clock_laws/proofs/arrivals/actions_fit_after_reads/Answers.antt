use Rattle.clock_laws.proofs.Fitting.{fit_read_law}
use Rattle.clock_laws.proofs.arrivals.actions_fit_after_reads.Goals as goal

pub returns : goal.returns
returns c = fit_read_law

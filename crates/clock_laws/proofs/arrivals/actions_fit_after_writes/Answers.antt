use Rattle.clock_laws.proofs.Fitting.{fit_write_law}
use Rattle.clock_laws.proofs.arrivals.actions_fit_after_writes.Goals as goal

pub returns : goal.returns
returns c = fit_write_law

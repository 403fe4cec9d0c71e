use Rattle.clock_laws.proofs.Fitting.{chosen_law}
use Rattle.clock_laws.proofs.time.chosen_actions_fit.Goals as goal

pub returns : goal.returns
returns c = chosen_law

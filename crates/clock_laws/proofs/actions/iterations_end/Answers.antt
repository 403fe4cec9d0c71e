use Rattle.clock_laws.proofs.Ending.{iterate_ends_law}
use Rattle.clock_laws.proofs.actions.iterations_end.Goals as goal

pub returns : goal.returns
returns c = iterate_ends_law

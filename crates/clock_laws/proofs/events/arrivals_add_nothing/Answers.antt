use Rattle.clock_laws.proofs.Extending.{arrival_added_law}
use Rattle.clock_laws.proofs.events.arrivals_add_nothing.Goals as goal

pub returns : goal.returns
returns c = arrival_added_law

use Rattle.clock_laws.proofs.Extending.{both_added_law}
use Rattle.clock_laws.proofs.events.events_add_up.Goals as goal

pub returns : goal.returns
returns c = both_added_law

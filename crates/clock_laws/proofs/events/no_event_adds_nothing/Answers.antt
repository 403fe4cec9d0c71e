use Rattle.clock_laws.proofs.Extending.{nothing_added_law}
use Rattle.clock_laws.proofs.events.no_event_adds_nothing.Goals as goal

pub returns : goal.returns
returns c = nothing_added_law

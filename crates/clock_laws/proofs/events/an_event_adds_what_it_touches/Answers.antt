use Rattle.clock_laws.proofs.Extending.{one_added_law}
use Rattle.clock_laws.proofs.events.an_event_adds_what_it_touches.Goals as goal

pub returns : goal.returns
returns c = one_added_law

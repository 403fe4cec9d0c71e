use Rattle.clock_laws.proofs.Leaving.{leaving_law}
use Rattle.clock_laws.proofs.events.histories_leave_the_array.Goals as goal

pub returns : goal.returns
returns c = leaving_law

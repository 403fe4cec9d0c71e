use Rattle.clock_laws.proofs.Unused.{untouched_law}
use Rattle.clock_laws.proofs.events.unused_cells_stay_untouched.Goals as goal

pub returns : goal.returns
returns c = untouched_law

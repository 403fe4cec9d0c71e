use Rattle.clock_laws.proofs.Remaining.{falling_law}
use Rattle.clock_laws.proofs.time.actions_grow_fewer.Goals as goal

pub returns : goal.returns
returns c = falling_law

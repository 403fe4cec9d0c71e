use Rattle.clock_laws.proofs.Ending.{begin_ends_law}
use Rattle.clock_laws.proofs.actions.begins_end.Goals as goal

pub returns : goal.returns
returns c = begin_ends_law

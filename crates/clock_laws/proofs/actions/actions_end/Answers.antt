use Rattle.clock_laws.proofs.Completing.{completion_law}
use Rattle.clock_laws.proofs.actions.actions_end.Goals as goal

pub returns : goal.returns
returns c = completion_law

use Rattle.clock_laws.proofs.Passing.{ending_later_law}
use Rattle.clock_laws.proofs.time.actions_end_later.Goals as goal

pub returns : goal.returns
returns c = ending_later_law

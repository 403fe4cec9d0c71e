use Rattle.check_judging.proofs.Losing.{waiting_law}
use Rattle.check_judging.proofs.waits_are_counted.Goals as goal

pub returns : goal.returns
returns c = waiting_law

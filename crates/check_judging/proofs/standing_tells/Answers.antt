use Rattle.check_judging.proofs.Stands.{stand_law}
use Rattle.check_judging.proofs.standing_tells.Goals as goal

pub returns : goal.returns
returns c = stand_law

use Rattle.check_judging.proofs.Fourth.{fourth_law}
use Rattle.check_judging.proofs.fourth_last_tells.Goals as goal

pub returns : goal.returns
returns c = fourth_law

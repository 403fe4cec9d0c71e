use Rattle.check_judging.proofs.FirstWorn.{worn_law}
use Rattle.check_judging.proofs.first_worn_tells.Goals as goal

pub returns : goal.returns
returns c = worn_law

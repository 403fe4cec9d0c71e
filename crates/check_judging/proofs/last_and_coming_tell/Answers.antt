use Rattle.check_judging.proofs.Apart.{apart_law}
use Rattle.check_judging.proofs.last_and_coming_tell.Goals as goal

pub returns : goal.returns
returns c = apart_law

use Rattle.check_verdict.proofs.Apart.{apart_kept_law}
use Rattle.check_verdict.proofs.judging.kept_tells_distances.Goals as goal

pub returns : goal.returns
returns c = apart_kept_law

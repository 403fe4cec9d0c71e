use Rattle.check_verdict.proofs.Settles.{settle_kept_law}
use Rattle.check_verdict.proofs.judging.kept_settles.Goals as goal

pub returns : goal.returns
returns c = settle_kept_law

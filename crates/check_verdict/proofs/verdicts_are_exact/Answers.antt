use Rattle.check_verdict.proofs.Lowest.{verdict_law}
use Rattle.check_verdict.proofs.verdicts_are_exact.Goals as goal

pub returns : goal.returns
returns c = verdict_law

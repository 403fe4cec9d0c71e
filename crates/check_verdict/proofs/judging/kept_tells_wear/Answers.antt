use Rattle.check_verdict.proofs.Wears.{worn_kept_law}
use Rattle.check_verdict.proofs.judging.kept_tells_wear.Goals as goal

pub returns : goal.returns
returns c = worn_kept_law

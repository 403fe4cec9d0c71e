use Rattle.settle_laws.proofs.Law.{settled_law}
use Rattle.settle_laws.proofs.what_is_told_by_a_settle_stays.Goals as goal

pub returns : goal.returns
returns c = settled_law

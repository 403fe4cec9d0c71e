use Rattle.settle_laws.proofs.Law.{so_far_law}
use Rattle.settle_laws.proofs.what_is_told_by_a_settle_stays_so_far.Goals as goal

pub returns : goal.returns
returns c = so_far_law

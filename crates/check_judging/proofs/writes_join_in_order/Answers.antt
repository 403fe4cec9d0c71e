use Rattle.check_judging.proofs.Joins.{join_law}
use Rattle.check_judging.proofs.writes_join_in_order.Goals as goal

pub returns : goal.returns
returns c = join_law

use Rattle.start_gap.proofs.FullTurn.{has_each_pair_once}
use Rattle.start_gap.proofs.turn.each_pair_once.Goals as goal

pub returns : goal.returns
returns c = has_each_pair_once

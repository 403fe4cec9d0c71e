use Rattle.settle_laws.proofs.Turning.{turn_law}
use Rattle.settle_laws.proofs.outcomes_are_told_in_turn_so_far.Goals as goal

pub returns : goal.returns
returns c = turn_law

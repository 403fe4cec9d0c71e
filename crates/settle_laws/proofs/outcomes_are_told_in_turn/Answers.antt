use Rattle.settle_laws.proofs.Turning.{ended_turn_law}
use Rattle.settle_laws.proofs.outcomes_are_told_in_turn.Goals as goal

pub returns : goal.returns
returns c = ended_turn_law

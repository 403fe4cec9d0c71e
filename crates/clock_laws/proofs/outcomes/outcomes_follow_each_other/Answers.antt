use Rattle.clock_laws.proofs.Recording.{both_recorded_law}
use Rattle.clock_laws.proofs.outcomes.outcomes_follow_each_other.Goals as goal

pub returns : goal.returns
returns c = both_recorded_law

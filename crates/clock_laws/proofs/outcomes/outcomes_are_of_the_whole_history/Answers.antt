use Rattle.clock_laws.proofs.Recording.{whole_outcome_law}
use Rattle.clock_laws.proofs.outcomes.outcomes_are_of_the_whole_history.Goals as goal

pub returns : goal.returns
returns c = whole_outcome_law

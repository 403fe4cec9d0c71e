use Rattle.clock_laws.proofs.Draining.{no_gap_law}
use Rattle.clock_laws.proofs.time.actions_follow_without_a_gap.Goals as goal

pub returns : goal.returns
returns c = no_gap_law

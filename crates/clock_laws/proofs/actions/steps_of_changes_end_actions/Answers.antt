use Rattle.clock_laws.proofs.Completing.{keeping_law}
use Rattle.clock_laws.proofs.actions.steps_of_changes_end_actions.Goals as goal

pub returns : goal.returns
returns c = keeping_law

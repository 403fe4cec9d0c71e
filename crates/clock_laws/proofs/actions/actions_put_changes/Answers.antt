use Rattle.clock_laws.proofs.Putting.{put_law}
use Rattle.clock_laws.proofs.actions.actions_put_changes.Goals as goal

pub returns : goal.returns
returns c = put_law

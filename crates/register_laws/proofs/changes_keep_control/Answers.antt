use Rattle.register_laws.proofs.Putting.{put_law}
use Rattle.register_laws.proofs.changes_keep_control.Goals as goal

pub returns : goal.returns
returns c = put_law

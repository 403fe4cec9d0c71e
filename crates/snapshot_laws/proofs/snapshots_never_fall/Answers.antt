use Rattle.snapshot_laws.proofs.Falling.{ended_law}
use Rattle.snapshot_laws.proofs.snapshots_never_fall.Goals as goal

pub returns : goal.returns
returns c = ended_law

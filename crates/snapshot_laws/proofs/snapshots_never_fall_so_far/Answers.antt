use Rattle.snapshot_laws.proofs.Falling.{so_far_law}
use Rattle.snapshot_laws.proofs.snapshots_never_fall_so_far.Goals as goal

pub returns : goal.returns
returns c = so_far_law

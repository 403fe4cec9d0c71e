use Rattle.std.proofs.Common.{refl}
use Rattle.worked_tables.proofs.SmallRun.{lost_is_wrong, lost_are_queued}
use Rattle.worked_tables.proofs.runs.lost_bytes_are_refused.Goals as goal

pub returns : goal.returns
returns c = record { newest = refl; lost = lost_is_wrong; queued = lost_are_queued }

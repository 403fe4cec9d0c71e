use Rattle.std.proofs.Common.{refl}
use Rattle.worked_tables.proofs.SmallRun.{unpulsed_is_wrong}
use Rattle.worked_tables.proofs.runs.lost_bytes_are_refused_meanwhile.Goals as goal

pub returns : goal.returns
returns c = record { newest = refl; lost = unpulsed_is_wrong }

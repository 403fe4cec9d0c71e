use Rattle.std.proofs.Common.{arith}
use Rattle.check_verdict.proofs.keys.key_at.Goals as goal

pub get-requires : goal.get-requires
get-requires c κs = grind arith

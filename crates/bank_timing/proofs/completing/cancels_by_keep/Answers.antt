use Rattle.std.proofs.Common.{arith}
use Rattle.bank_timing.proofs.completing.cancels_by_keep.Goals as goal

pub returns-in-More : goal.returns-in-More
returns-in-More c = grind arith

pub returns-in_default : goal.returns-in_default
returns-in_default c = grind arith

use Rattle.std.proofs.Common.{arith}
use Rattle.bank_timing.proofs.arriving.unless.Goals as goal

pub returns-then-drops : goal.returns-then-drops
returns-then-drops c = grind arith

pub returns-else-drops : goal.returns-else-drops
returns-else-drops c = grind arith

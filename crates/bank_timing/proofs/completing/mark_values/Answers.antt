use Rattle.std.proofs.Common.{arith}
use Rattle.bank_timing.proofs.completing.mark_values.Goals as goal

pub returns-then-exhausted : goal.returns-then-exhausted
returns-then-exhausted c = grind arith

pub returns-else-exhausted : goal.returns-else-exhausted
returns-else-exhausted c = grind arith

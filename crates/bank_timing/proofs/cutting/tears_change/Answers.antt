use Rattle.std.proofs.Common.{arith}
use Rattle.bank_timing.proofs.cutting.tears_change.Goals as goal

pub is_iterating-requires : goal.is_iterating-requires
is_iterating-requires c = grind arith

pub returns-then-stands : goal.returns-then-stands
returns-then-stands c = grind arith

pub returns-else-stands : goal.returns-else-stands
returns-else-stands c = grind arith

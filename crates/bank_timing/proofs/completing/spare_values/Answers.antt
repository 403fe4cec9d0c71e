use Rattle.std.proofs.Common.{arith}
use Rattle.bank_timing.proofs.completing.spare_values.Goals as goal

pub used-requires : goal.used-requires
used-requires c = grind arith

pub replaced-requires : goal.replaced-requires
replaced-requires c = grind arith

pub overflow_add-result : goal.overflow_add-result
overflow_add-result c = grind arith

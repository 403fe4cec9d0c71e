use Rattle.std.proofs.Common.{arith}
use Rattle.bank_timing.proofs.completing.region_values.Goals as goal

pub registers-registers-requires : goal.registers-registers-requires
registers-registers-requires c = grind arith

pub start-requires : goal.start-requires
start-requires c = grind arith

pub gap-requires : goal.gap-requires
gap-requires c = grind arith

pub overflow_sub-result : goal.overflow_sub-result
overflow_sub-result c = grind arith

pub counter-requires : goal.counter-requires
counter-requires c = grind arith

pub returns : goal.returns
returns c = grind arith

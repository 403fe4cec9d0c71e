use Rattle.std.proofs.Common.{arith}
use Rattle.bank_timing.proofs.completing.item_from.Goals as goal

pub returns-in-Guarded : goal.returns-in-Guarded
returns-in-Guarded c = grind arith

pub overflow_add-result : goal.overflow_add-result
overflow_add-result c = grind arith

pub overflow_add-result-in-Exhausted : goal.overflow_add-result-in-Exhausted
overflow_add-result-in-Exhausted c = grind arith

pub returns-in-More : goal.returns-in-More
returns-in-More c = grind arith

pub returns-in-Stored : goal.returns-in-Stored
returns-in-Stored c = grind arith

pub returns-in-Moved : goal.returns-in-Moved
returns-in-Moved c = grind arith

pub returns-in-Retired : goal.returns-in-Retired
returns-in-Retired c = grind arith

pub returns-in-Exhausted : goal.returns-in-Exhausted
returns-in-Exhausted c = grind arith

use Rattle.std.proofs.Common.{arith}
use Rattle.reg_lines.proofs.regs.RegLines.read_item.Goals as goal

pub overflow_add-self-inside : goal.overflow_add-self-inside
overflow_add-self-inside g c = grind arith

pub sense-cells-requires : goal.sense-cells-requires
sense-cells-requires g c = grind arith

pub decode-requires : goal.decode-requires
decode-requires g c = grind arith

pub values_of-requires : goal.values_of-requires
values_of-requires g c = grind arith

pub returns-in-Some-clause-values : goal.returns-in-Some-clause-values
returns-in-Some-clause-values g c = grind arith

pub returns-in-Some-clause-touches : goal.returns-in-Some-clause-touches
returns-in-Some-clause-touches g c = grind arith

pub returns-in_default-clause-values : goal.returns-in_default-clause-values
returns-in_default-clause-values g c = grind arith

pub returns-in_default-clause-touches : goal.returns-in_default-clause-touches
returns-in_default-clause-touches g c = grind arith

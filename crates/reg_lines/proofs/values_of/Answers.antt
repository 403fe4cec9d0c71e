use Rattle.std.proofs.Common.{arith}
use Rattle.reg_lines.proofs.values_of.Goals as goal

pub value_at-requires : goal.value_at-requires
value_at-requires g c = grind arith

pub value_at-requires-2 : goal.value_at-requires-2
value_at-requires-2 g c = grind arith

pub value_at-requires-3 : goal.value_at-requires-3
value_at-requires-3 g c = grind arith

pub returns : goal.returns
returns g c = grind arith

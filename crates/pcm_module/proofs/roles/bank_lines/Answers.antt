use Rattle.std.proofs.Common.{arith}
use Rattle.pcm_module.proofs.roles.bank_lines.Goals as goal

pub array_lines-requires : goal.array_lines-requires
array_lines-requires c = grind arith

pub banks-requires : goal.banks-requires
banks-requires c = grind arith

pub nonzero_div-result : goal.nonzero_div-result
nonzero_div-result c = grind arith

pub returns-clause-some : goal.returns-clause-some
returns-clause-some c = grind arith

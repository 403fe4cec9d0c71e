use Rattle.std.proofs.Common.{arith}
use Rattle.pcm_module.proofs.roles.bank_of.Goals as goal

pub bank_lines-requires : goal.bank_lines-requires
bank_lines-requires c = grind arith

pub nonzero_div-result : goal.nonzero_div-result
nonzero_div-result c = grind arith

pub returns-clause-number : goal.returns-clause-number
returns-clause-number c = grind arith

pub returns-clause-begins : goal.returns-clause-begins
returns-clause-begins c = grind arith

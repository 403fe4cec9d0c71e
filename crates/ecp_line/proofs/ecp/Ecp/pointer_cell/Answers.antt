use Rattle.std.proofs.Common.{arith}
use Rattle.ecp_line.proofs.ecp.Ecp.pointer_cell.Goals as goal

pub overflow_cast-result : goal.overflow_cast-result
overflow_cast-result g c = grind arith

pub overflow_mul-result : goal.overflow_mul-result
overflow_mul-result g c = grind arith

pub width-requires : goal.width-requires
width-requires g c = grind arith

pub overflow_add-result : goal.overflow_add-result
overflow_add-result g c = grind arith

pub overflow_mul-result-2 : goal.overflow_mul-result-2
overflow_mul-result-2 g c = grind arith

pub overflow_add-result-2 : goal.overflow_add-result-2
overflow_add-result-2 g c = grind arith

pub returns : goal.returns
returns g c = grind arith

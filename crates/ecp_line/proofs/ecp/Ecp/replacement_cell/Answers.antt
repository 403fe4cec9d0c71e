use Rattle.std.proofs.Common.{arith}
use Rattle.ecp_line.proofs.ecp.Ecp.replacement_cell.Goals as goal

pub pointer_cell-requires-clause-layout : goal.pointer_cell-requires-clause-layout
pointer_cell-requires-clause-layout g c = grind arith

pub pointer_cell-requires-clause-exists : goal.pointer_cell-requires-clause-exists
pointer_cell-requires-clause-exists g c = grind arith

pub width-requires : goal.width-requires
width-requires g c = grind arith

pub overflow_add-result : goal.overflow_add-result
overflow_add-result g c = grind arith

pub returns : goal.returns
returns g c = grind arith

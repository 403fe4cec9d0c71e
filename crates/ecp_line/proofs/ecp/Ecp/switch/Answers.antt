use Rattle.std.proofs.Common.{arith}
use Rattle.ecp_line.proofs.ecp.Ecp.switch.Goals as goal

pub overflow_sub-t-3 : goal.overflow_sub-t-3
overflow_sub-t-3 g c = grind arith

pub overflow_cast-pointer_cell : goal.overflow_cast-pointer_cell
overflow_cast-pointer_cell g c = grind arith

pub pointer_cell-requires-clause-layout : goal.pointer_cell-requires-clause-layout
pointer_cell-requires-clause-layout g c = grind arith

pub pointer_cell-requires-clause-exists : goal.pointer_cell-requires-clause-exists
pointer_cell-requires-clause-exists g c = grind arith

pub overflow_cast-pointer_cell-else-entry : goal.overflow_cast-pointer_cell-else-entry
overflow_cast-pointer_cell-else-entry g c = grind arith

pub overflow_sub-pointer_cell : goal.overflow_sub-pointer_cell
overflow_sub-pointer_cell g c = grind arith

pub pointer_cell-requires-else-entry-clause-layout : goal.pointer_cell-requires-else-entry-clause-layout
pointer_cell-requires-else-entry-clause-layout g c = grind arith

pub pointer_cell-requires-else-entry-clause-exists : goal.pointer_cell-requires-else-entry-clause-exists
pointer_cell-requires-else-entry-clause-exists g c = grind arith

pub overflow_add-result : goal.overflow_add-result
overflow_add-result g c = grind arith

pub returns-then-entry : goal.returns-then-entry
returns-then-entry g c = grind arith

pub returns-else-entry : goal.returns-else-entry
returns-else-entry g c = grind arith

use Rattle.std.proofs.Common.{arith}
use Rattle.ecp_line.proofs.ecp.Ecp.later.Goals as goal

pub zero-mask-requires : goal.zero-mask-requires
zero-mask-requires g c = grind arith

pub overflow_cast-pointer_cell : goal.overflow_cast-pointer_cell
overflow_cast-pointer_cell g c = grind arith

pub overflow_sub-pointer_cell : goal.overflow_sub-pointer_cell
overflow_sub-pointer_cell g c = grind arith

pub pointer_cell-first-requires-clause-layout : goal.pointer_cell-first-requires-clause-layout
pointer_cell-first-requires-clause-layout g c = grind arith

pub pointer_cell-first-requires-clause-exists : goal.pointer_cell-first-requires-clause-exists
pointer_cell-first-requires-clause-exists g c = grind arith

pub active-number-requires : goal.active-number-requires
active-number-requires g c = grind arith

pub overflow_step-number : goal.overflow_step-number
overflow_step-number g c = grind arith

pub overflow_cast-number-end : goal.overflow_cast-number-end
overflow_cast-number-end g c = grind arith

pub overflow_sub-number-end : goal.overflow_sub-number-end
overflow_sub-number-end g c = grind arith

pub loop-number-init : goal.loop-number-init
loop-number-init g c = grind arith

pub overflow_cast-number : goal.overflow_cast-number
overflow_cast-number g c = grind arith

pub overflow_add-first : goal.overflow_add-first
overflow_add-first g c = grind arith

pub set-requires : goal.set-requires
set-requires g c = grind arith

pub overflow_cast-number-in-loop-number : goal.overflow_cast-number-in-loop-number
overflow_cast-number-in-loop-number g c = grind arith

pub overflow_add-first-in-loop-number : goal.overflow_add-first-in-loop-number
overflow_add-first-in-loop-number g c = grind arith

pub set-requires-in-loop-number : goal.set-requires-in-loop-number
set-requires-in-loop-number g c = grind arith

pub loop-number-smaller : goal.loop-number-smaller
loop-number-smaller g c = grind arith

pub returns : goal.returns
returns g c = grind arith

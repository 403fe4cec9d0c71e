use Rattle.std.proofs.Common.{arith}
use Rattle.line_writer.proofs.writer.LineWriter.switched.Goals as goal

pub switch-cell-requires-clause-layout : goal.switch-cell-requires-clause-layout
switch-cell-requires-clause-layout g c = grind arith

pub switch-cell-requires-clause-exists : goal.switch-cell-requires-clause-exists
switch-cell-requires-clause-exists g c = grind arith

pub seen-requires : goal.seen-requires
seen-requires g c = grind arith

pub get-requires : goal.get-requires
get-requires g c = grind arith

pub overflow_add-self : goal.overflow_add-self
overflow_add-self g c = grind arith

pub fill-requires : goal.fill-requires
fill-requires g c = grind arith

pub returns-then-get-clause-line : goal.returns-then-get-clause-line
returns-then-get-clause-line g c = grind arith

pub returns-then-get-clause-bytes : goal.returns-then-get-clause-bytes
returns-then-get-clause-bytes g c = grind arith

pub returns-then-get-clause-steps : goal.returns-then-get-clause-steps
returns-then-get-clause-steps g c = grind arith

pub returns-else-get-clause-line : goal.returns-else-get-clause-line
returns-else-get-clause-line g c = grind arith

pub returns-else-get-clause-bytes : goal.returns-else-get-clause-bytes
returns-else-get-clause-bytes g c = grind arith

pub returns-else-get-clause-steps : goal.returns-else-get-clause-steps
returns-else-get-clause-steps g c = grind arith

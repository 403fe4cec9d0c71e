use Rattle.std.proofs.Common.{◌-◌, ◌∙◌, sym, arith}
use Rattle.cell_rows.specs.Rows.{cell}
use Rattle.ecp_line.proofs.Activity.{active-all, active-found}
use Rattle.ecp_line.proofs.ecp.Ecp.active.Goals as goal

pub returns-then-get-clause-count : goal.returns-then-get-clause-count
returns-then-get-clause-count g c =
    active-all g.row.B g.row.E (cell c.args.cells.now) c.pointer_cell.result c.pointer_cell.ensures (sym c.get.ensures ∙ c.if-get.true)

pub returns-then-not-get-clause-count : goal.returns-then-not-get-clause-count
returns-then-not-get-clause-count g c =
    active-found g.row.B g.row.E (cell c.args.cells.now) c.pointer_cell.result c.pointer_cell-first.result c.loop-entry.entry
    c.pointer_cell.ensures (sym c.get.ensures ∙ c.if-get.false) c.pointer_cell-first.ensures (omega arith) c.loop-entry.invariant
    (λ l. sym c.get-in-loop-entry.ensures ∙ c.if-not-get.true)

pub returns-clause-count : goal.returns-clause-count
returns-clause-count g c =
    active-found g.row.B g.row.E (cell c.args.cells.now) c.pointer_cell.result c.pointer_cell-first.result (g.row.E - 1)
    c.pointer_cell.ensures (sym c.get.ensures ∙ c.if-get.false) c.pointer_cell-first.ensures (omega arith) (λ i l. c.loop-entry.invariant i (omega arith))
    (λ l. absurd (omega arith))

pub overflow_cast-pointer_cell : goal.overflow_cast-pointer_cell
overflow_cast-pointer_cell g c = grind arith

pub pointer_cell-requires-clause-layout : goal.pointer_cell-requires-clause-layout
pointer_cell-requires-clause-layout g c = grind arith

pub pointer_cell-requires-clause-exists : goal.pointer_cell-requires-clause-exists
pointer_cell-requires-clause-exists g c = grind arith

pub get-requires : goal.get-requires
get-requires g c = grind arith

pub overflow_cast-result : goal.overflow_cast-result
overflow_cast-result g c = grind arith

pub returns-then-get-clause-within : goal.returns-then-get-clause-within
returns-then-get-clause-within g c = grind arith

pub overflow_cast-pointer_cell-2 : goal.overflow_cast-pointer_cell-2
overflow_cast-pointer_cell-2 g c = grind arith

pub overflow_sub-pointer_cell : goal.overflow_sub-pointer_cell
overflow_sub-pointer_cell g c = grind arith

pub pointer_cell-first-requires-clause-layout : goal.pointer_cell-first-requires-clause-layout
pointer_cell-first-requires-clause-layout g c = grind arith

pub pointer_cell-first-requires-clause-exists : goal.pointer_cell-first-requires-clause-exists
pointer_cell-first-requires-clause-exists g c = grind arith

pub overflow_cast-entry-end : goal.overflow_cast-entry-end
overflow_cast-entry-end g c = grind arith

pub overflow_sub-entry-end : goal.overflow_sub-entry-end
overflow_sub-entry-end g c = grind arith

pub loop-entry-init : goal.loop-entry-init
loop-entry-init g c = grind arith

pub overflow_cast-entry : goal.overflow_cast-entry
overflow_cast-entry g c = grind arith

pub overflow_add-first : goal.overflow_add-first
overflow_add-first g c = grind arith

pub get-requires-in-loop-entry : goal.get-requires-in-loop-entry
get-requires-in-loop-entry g c = grind arith

pub returns-then-not-get-clause-within : goal.returns-then-not-get-clause-within
returns-then-not-get-clause-within g c = grind arith

pub loop-entry-smaller : goal.loop-entry-smaller
loop-entry-smaller g c = grind arith

pub loop-entry-preserved : goal.loop-entry-preserved
loop-entry-preserved g c = grind arith

pub overflow_cast-result-2 : goal.overflow_cast-result-2
overflow_cast-result-2 g c = grind arith

pub overflow_sub-result : goal.overflow_sub-result
overflow_sub-result g c = grind arith

pub returns-clause-within : goal.returns-clause-within
returns-clause-within g c = grind arith

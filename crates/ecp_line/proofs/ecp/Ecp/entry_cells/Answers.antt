use Rattle.std.proofs.Common.{◌≡◌, ◌+◌, sym, ◌∙◌, refl, arith}
use Rattle.cell_rows.specs.Rows.{cell}
use Rattle.ecp_line.{specs.Layout.{pointer_cell, width}, proofs.Wanting.{run-none, run-more, run-moved, run-closed}}
use Rattle.ecp_line.proofs.ecp.Ecp.entry_cells.Goals as goal

pub loop-digit-init : goal.loop-digit-init
loop-digit-init g c n = c.zero-mask.ensures.cells n ∙ sym (run-none c.pointer_cell-first.result n)

pub loop-digit-preserved : goal.loop-digit-preserved
loop-digit-preserved g c =
    run-more (cell c.set.new.self) (cell c.loop-digit.mask) c.pointer_cell-first.result c.loop-digit.digit (c.pointer_cell-first.result + c.loop-digit.digit) refl c.set.ensures c.loop-digit.invariant

pub returns : goal.returns
returns g c n =
    let size : c.loop-digit.digit ≡ width g.row.B + 1 = (let w = c.width-digit-end.ensures in let top = c.loop-digit-test.false in let auto = c.loop-digit.auto.digit-end in omega arith) in
    run-moved (cell c.loop-digit.mask) c.pointer_cell-first.result c.loop-digit.digit (pointer_cell g.row.B c.args.entry) (width g.row.B + 1) c.pointer_cell-first.ensures size c.loop-digit.invariant n
    ∙ run-closed (pointer_cell g.row.B c.args.entry) (width g.row.B) n

pub zero-mask-requires : goal.zero-mask-requires
zero-mask-requires g c = grind arith

pub pointer_cell-first-requires-clause-layout : goal.pointer_cell-first-requires-clause-layout
pointer_cell-first-requires-clause-layout g c = grind arith

pub pointer_cell-first-requires-clause-exists : goal.pointer_cell-first-requires-clause-exists
pointer_cell-first-requires-clause-exists g c = grind arith

pub width-digit-end-requires : goal.width-digit-end-requires
width-digit-end-requires g c = grind arith

pub overflow_add-digit-end : goal.overflow_add-digit-end
overflow_add-digit-end g c = grind arith

pub overflow_add-first : goal.overflow_add-first
overflow_add-first g c = grind arith

pub set-requires : goal.set-requires
set-requires g c = grind arith

pub loop-digit-smaller : goal.loop-digit-smaller
loop-digit-smaller g c = grind arith

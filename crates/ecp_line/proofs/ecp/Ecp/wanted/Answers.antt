use Rattle.std.proofs.Common.{arith, ◌∙◌}
use Rattle.cell_rows.specs.Rows.{cell}
use Rattle.ecp_line.proofs.{Correcting.wanted-more, ReadRows.wanted-start}
use Rattle.ecp_line.proofs.ecp.Ecp.wanted.Goals as goal

pub loop-entry-init : goal.loop-entry-init
loop-entry-init g c = wanted-start g.row.B g.row.M (cell c.args.cells.now) (cell c.with_data-given.result) c.args.bytes.now c.with_data-given.ensures.«data» c.with_data-given.ensures.check

pub loop-entry-preserved : goal.loop-entry-preserved
loop-entry-preserved g c =
    let f = cell c.args.cells.now in
    wanted-more g.row.B f c.args.bytes.now (cell c.loop-entry.want) (cell c.loop-entry.mask) (cell c.set.new.self) (cell c.set-in-loop-entry.new.self)
    (cell c.set-in-loop-entry-2.new.self) (cell c.set-in-loop-entry-3.new.self) c.loop-entry.entry c.pointer_of-bit.result c.source_below-passed.result c.replacement_cell-source.result
    c.get.result c.get-in-loop-entry.result
    c.pointer_of-bit.ensures.points c.pointer_of-bit.ensures.within c.source_below-passed.ensures.is c.replacement_cell-source.ensures c.get.ensures
    (c.get-in-loop-entry.ensures ∙ c.with_data-given.ensures.«data» c.pointer_of-bit.result c.pointer_of-bit.ensures.within)
    c.set.ensures c.set-in-loop-entry.ensures c.set-in-loop-entry-2.ensures c.set-in-loop-entry-3.ensures c.loop-entry.invariant

pub with_data-given-requires : goal.with_data-given-requires
with_data-given-requires g c = grind arith

pub active-entry-end-requires : goal.active-entry-end-requires
active-entry-end-requires g c = grind arith

pub pointer_of-bit-requires : goal.pointer_of-bit-requires
pointer_of-bit-requires g c = grind arith

pub source_below-passed-requires : goal.source_below-passed-requires
source_below-passed-requires g c = grind arith

pub replacement_cell-source-requires-clause-layout : goal.replacement_cell-source-requires-clause-layout
replacement_cell-source-requires-clause-layout g c = grind arith

pub replacement_cell-source-requires-clause-exists : goal.replacement_cell-source-requires-clause-exists
replacement_cell-source-requires-clause-exists g c = grind arith

pub get-requires : goal.get-requires
get-requires g c = grind arith

pub set-requires : goal.set-requires
set-requires g c = grind arith

pub set-requires-in-loop-entry : goal.set-requires-in-loop-entry
set-requires-in-loop-entry g c = grind arith

pub get-requires-in-loop-entry : goal.get-requires-in-loop-entry
get-requires-in-loop-entry g c = grind arith

pub set-requires-in-loop-entry-2 : goal.set-requires-in-loop-entry-2
set-requires-in-loop-entry-2 g c = grind arith

pub set-requires-in-loop-entry-3 : goal.set-requires-in-loop-entry-3
set-requires-in-loop-entry-3 g c = grind arith

pub loop-entry-smaller : goal.loop-entry-smaller
loop-entry-smaller g c = grind arith

pub returns : goal.returns
returns g c = grind arith

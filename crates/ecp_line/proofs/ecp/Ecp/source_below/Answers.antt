use Rattle.std.proofs.Common.{◌∙◌, sym, arith}
use Rattle.cell_rows.specs.Rows.{cell}
use Rattle.ecp_line.proofs.{Places.{full-lt, entries-order}, Sources.{source-lt, source-none, source-passed, source-replaced}}
use Rattle.ecp_line.proofs.ecp.Ecp.source_below.Goals.{then-pointer_of-bit, else-pointer_of-bit}
use Rattle.ecp_line.proofs.ecp.Ecp.source_below.Goals as goal

pub loop-entry-init : goal.loop-entry-init
loop-entry-init g c = sym (source-none g.row.B (cell c.args.cells.now) c.args.bit)

pub loop-entry-preserved : goal.loop-entry-preserved
loop-entry-preserved g c =
    let f = cell c.args.cells.now in
    elim c.if-pointer_of-bit.branch [
      | then-pointer_of-bit w ↦ w.source-is ∙ w.replacement_cell-source.ensures ∙ sym (source-replaced g.row.B f c.args.bit c.loop-entry.entry (sym w.if-pointer_of-bit.true ∙ c.pointer_of.ensures.points))
      | else-pointer_of-bit w ↦ w.source-is ∙ c.loop-entry.invariant ∙ sym (source-passed g.row.B f c.args.bit c.loop-entry.entry (λ e. w.if-pointer_of-bit.false (c.pointer_of.ensures.points ∙ sym e)))
    ]

pub returns-clause-within : goal.returns-clause-within
returns-clause-within g c low =
    let t = source-lt g.row.B (cell c.args.cells.now) c.args.bit c.loop-entry.entry low in
    let room = full-lt g.row.B g.row.M g.row.E c.requires.layout in
    let order = entries-order g.row.B c.loop-entry.entry g.row.E (let e = c.requires.exist in omega arith) in
    let e = c.loop-entry.invariant in omega arith

pub pointer_of-requires : goal.pointer_of-requires
pointer_of-requires g c = grind arith

pub replacement_cell-source-requires-clause-layout : goal.replacement_cell-source-requires-clause-layout
replacement_cell-source-requires-clause-layout g c = grind arith

pub replacement_cell-source-requires-clause-exists : goal.replacement_cell-source-requires-clause-exists
replacement_cell-source-requires-clause-exists g c = grind arith

pub loop-entry-smaller : goal.loop-entry-smaller
loop-entry-smaller g c = grind arith

pub returns-clause-is : goal.returns-clause-is
returns-clause-is g c = grind arith

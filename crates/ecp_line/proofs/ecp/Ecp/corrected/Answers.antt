use Rattle.std.proofs.Common.{◌≡◌, ℕ, ap, sym, ◌∙◌, arith}
use Rattle.cell_rows.{specs.Rows.cell, proofs.RowLemmas.cell-bits}
use Rattle.ecp_line.{specs.Layout.{source_below, active}, proofs.Bytes.decode-is, proofs.Correcting.corrected-more, proofs.Sources.source-none}
use Rattle.ecp_line.proofs.ecp.Ecp.corrected.Goals as goal

pub loop-entry-init : goal.loop-entry-init
loop-entry-init g c x low = ap (cell c.args.cells.now) (sym (source-none g.row.B (cell c.args.cells.now) x))

pub loop-entry-preserved : goal.loop-entry-preserved
loop-entry-preserved g c =
    corrected-more g.row.B (cell c.args.cells.now) (cell c.loop-entry.row) (cell c.set.new.self) c.loop-entry.entry c.pointer_of-bit.result c.get.result
    c.pointer_of-bit.ensures.points (c.get.ensures ∙ ap (cell c.args.cells.now) c.replacement_cell.ensures) c.set.ensures c.loop-entry.invariant

pub returns-clause-cells : goal.returns-clause-cells
returns-clause-cells g c x low =
    let f = cell c.args.cells.now in
    let e : c.loop-entry.entry ≡ active g.row.B g.row.E f = (let count = c.active-entry-end.ensures.count in let top = c.loop-entry-test.false in let auto = c.loop-entry.auto.entry-end in omega arith) in
    c.loop-entry.invariant x low ∙ ap (λ (k : ℕ). f (source_below g.row.B f x k)) e

pub returns-clause-bits : goal.returns-clause-bits
returns-clause-bits g c x low = sym (cell-bits c.loop-entry.row x (omega arith) low) ∙ returns-clause-cells g c x low

pub returns-clause-bytes : goal.returns-clause-bytes
returns-clause-bytes g c = decode-is g.row.E c.args.cells.now c.loop-entry.row.bits (omega arith) c.are_bytes.ensures (returns-clause-bits g c)

pub active-entry-end-requires : goal.active-entry-end-requires
active-entry-end-requires g c = grind arith

pub pointer_of-bit-requires : goal.pointer_of-bit-requires
pointer_of-bit-requires g c = grind arith

pub replacement_cell-requires-clause-layout : goal.replacement_cell-requires-clause-layout
replacement_cell-requires-clause-layout g c = grind arith

pub replacement_cell-requires-clause-exists : goal.replacement_cell-requires-clause-exists
replacement_cell-requires-clause-exists g c = grind arith

pub get-requires : goal.get-requires
get-requires g c = grind arith

pub set-requires : goal.set-requires
set-requires g c = grind arith

pub loop-entry-smaller : goal.loop-entry-smaller
loop-entry-smaller g c = grind arith

pub are_bytes-requires : goal.are_bytes-requires
are_bytes-requires g c = grind arith

use Rattle.ecp_line.{specs.Layout.{number, pointer, pointer_cell}, proofs.Digits.{number-none, number-one, number-zero, number-lt, width-small, shifted, weight-small}}
use Rattle.ecp_line.proofs.{Places.pointer-lt, ecp.Ecp.pointer_of.Goals.{then-get, else-get}}
use Rattle.ecp_line.proofs.ecp.Ecp.pointer_of.Goals as goal
use Rattle.std.proofs.Common.{ℕ, ◌≡◌, ◌∙◌, sym, arith, ap}
use Rattle.cell_rows.specs.Rows.{cell}

pub loop-digit-init : goal.loop-digit-init
loop-digit-init g c = sym (number-none (cell c.args.cells.now) c.pointer_cell-first.result)

pub overflow_shl-bit : goal.overflow_shl-bit
overflow_shl-bit g c = let t = width-small g.row.B c.requires.layout.digits (c.requires.layout.shape.1) in omega arith

pub overflow_add-bit : goal.overflow_add-bit
overflow_add-bit g c =
    let small = width-small g.row.B c.requires.layout.digits (c.requires.layout.shape.1) in
    let low = number-lt (cell c.args.cells.now) c.pointer_cell-first.result c.loop-digit.digit in
    let weight = weight-small c.loop-digit.digit (omega arith) in
    let e = shifted c.loop-digit.digit (omega arith) in omega arith

pub loop-digit-preserved : goal.loop-digit-preserved
loop-digit-preserved g c =
    let f = cell c.args.cells.now in
    let small = width-small g.row.B c.requires.layout.digits (c.requires.layout.shape.1) in
    let shift = shifted c.loop-digit.digit (omega arith) in
    elim c.if-get.branch [
      | then-get w ↦ let e = number-one f c.pointer_cell-first.result c.loop-digit.digit (sym c.get.ensures ∙ w.if-get.true) in let at = w.bit-is in omega arith
      | else-get w ↦ let e = number-zero f c.pointer_cell-first.result c.loop-digit.digit (sym c.get.ensures ∙ w.if-get.false) in let at = w.bit-is in omega arith
    ]

pub returns-clause-within : goal.returns-clause-within
returns-clause-within g c =
    let t = pointer-lt g.row.B (cell c.args.cells.now) c.args.entry c.requires.layout.digits in
    let e : c.loop-digit.bit ≡ pointer g.row.B (cell c.args.cells.now) c.args.entry =
    c.loop-digit.invariant ∙ ap (λ (n : ℕ). number (cell c.args.cells.now) n c.loop-digit.digit) c.pointer_cell-first.ensures
    ∙ ap (λ (n : ℕ). number (cell c.args.cells.now) (pointer_cell g.row.B c.args.entry) n) (let w = c.width-digit-end.ensures in let top = c.loop-digit-test.false in let auto = c.loop-digit.auto.digit-end in omega arith) in
    omega arith

pub pointer_cell-first-requires-clause-layout : goal.pointer_cell-first-requires-clause-layout
pointer_cell-first-requires-clause-layout g c = grind arith

pub pointer_cell-first-requires-clause-exists : goal.pointer_cell-first-requires-clause-exists
pointer_cell-first-requires-clause-exists g c = grind arith

pub width-digit-end-requires : goal.width-digit-end-requires
width-digit-end-requires g c = grind arith

pub overflow_add-first : goal.overflow_add-first
overflow_add-first g c = grind arith

pub get-requires : goal.get-requires
get-requires g c = grind arith

pub loop-digit-smaller : goal.loop-digit-smaller
loop-digit-smaller g c = grind arith

pub returns-clause-points : goal.returns-clause-points
returns-clause-points g c = grind arith

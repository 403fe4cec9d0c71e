use Rattle.std.proofs.Common.{◌≡◌, ℕ, ◌+◌, ◌<◌, sym, ◌∙◌, refl, arith, subst}
use Rattle.cell_rows.specs.Rows.{cell}
use Rattle.ecp_line.{specs.Layout.{pointer_cell, width}, proofs.Digits.width-small}
use Rattle.ecp_line.proofs.Wanting.{run-none, run-more, run-moved, digits-none, digits-more, digits-done, others-more}
use Rattle.ecp_line.proofs.ecp.Ecp.pointer.Goals as goal

pub overflow_shr-bit : goal.overflow_shr-bit
overflow_shr-bit g c = let t = width-small g.row.B c.requires.layout.digits (c.requires.layout.shape.1) in omega arith

pub loop-digit-init : goal.loop-digit-init
loop-digit-init g c = record {
  digits = digits-none (cell c.args.cells.now) c.pointer_cell-first.result c.args.bit;
  masked = λ n. c.zero-mask.ensures.cells n ∙ sym (run-none c.pointer_cell-first.result n);
  others = λ n h. refl;
}

pub loop-digit-preserved : goal.loop-digit-preserved
loop-digit-preserved g c =
    let q = c.pointer_cell-first.result + c.loop-digit.digit in
    record {
      digits = digits-more (cell c.loop-digit.want) (cell c.set.new.self) c.pointer_cell-first.result c.loop-digit.digit q c.args.bit _ refl refl c.set.ensures c.loop-digit.invariant.digits;
      masked = run-more (cell c.set-in-loop-digit.new.self) (cell c.loop-digit.mask) c.pointer_cell-first.result c.loop-digit.digit q refl c.set-in-loop-digit.ensures c.loop-digit.invariant.masked;
      others = others-more (cell c.args.cells.now) (cell c.loop-digit.want) (cell c.loop-digit.mask) (cell c.set.new.self) (cell c.set-in-loop-digit.new.self) q _ c.set.ensures c.set-in-loop-digit.ensures c.loop-digit.invariant.others;
    }

pub returns : goal.returns
returns g c =
    let size : c.loop-digit.digit ≡ width g.row.B = (let w = c.width-digit-end.ensures in let top = c.loop-digit-test.false in let auto = c.loop-digit.auto.digit-end in omega arith) in
    record {
      points = digits-done (cell c.loop-digit.want) c.pointer_cell-first.result c.loop-digit.digit (pointer_cell g.row.B c.args.entry) (width g.row.B) c.args.bit
          c.pointer_cell-first.ensures size (subst (λ (n : ℕ). c.args.bit < n) (sym c.requires.layout.digits) c.requires.«data») c.loop-digit.invariant.digits;
      mask = run-moved (cell c.loop-digit.mask) c.pointer_cell-first.result c.loop-digit.digit (pointer_cell g.row.B c.args.entry) (width g.row.B)
          c.pointer_cell-first.ensures size c.loop-digit.invariant.masked;
      others = c.loop-digit.invariant.others;
    }

pub zero-mask-requires : goal.zero-mask-requires
zero-mask-requires g c = grind arith

pub pointer_cell-first-requires-clause-layout : goal.pointer_cell-first-requires-clause-layout
pointer_cell-first-requires-clause-layout g c = grind arith

pub pointer_cell-first-requires-clause-exists : goal.pointer_cell-first-requires-clause-exists
pointer_cell-first-requires-clause-exists g c = grind arith

pub width-digit-end-requires : goal.width-digit-end-requires
width-digit-end-requires g c = grind arith

pub overflow_add-first : goal.overflow_add-first
overflow_add-first g c = grind arith

pub set-requires : goal.set-requires
set-requires g c = grind arith

pub overflow_add-first-in-loop-digit : goal.overflow_add-first-in-loop-digit
overflow_add-first-in-loop-digit g c = grind arith

pub set-requires-in-loop-digit : goal.set-requires-in-loop-digit
set-requires-in-loop-digit g c = grind arith

pub loop-digit-smaller : goal.loop-digit-smaller
loop-digit-smaller g c = grind arith

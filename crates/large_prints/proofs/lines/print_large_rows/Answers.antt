use Rattle.std.proofs.Common.{◌≡◌, ◌∙◌, sym, arith, rules}
use Rattle.image_text.proofs.Sensing.{senses-more, senses-none}
use Rattle.text_printer.proofs.Printed.{prints-none, prints-same, prints-then}
use Rattle.large_prints.proofs.Rows.{lines-all, lines-some, rows-sensed}
use Rattle.large_prints.proofs.lines.print_large_rows.Goals as goal

pub loop-line-init : goal.loop-line-init
loop-line-init g c = (prints-none g.K.Sink.written g.K.Sink.faults _, omega arith, senses-none _)

pub loop-line-preserved : goal.loop-line-preserved
loop-line-preserved g c =
    let first = g.A.CellArray.state c.args.array.now in
    let last = g.A.CellArray.state c.loop-line.array in
    let senses = c.loop-line.invariant.2 in (
      prints-same g.K.Sink.written g.K.Sink.faults _ _ _ _ (rows-sensed first last c.loop-line.line c.sense-cells.result c.sense-cells.ensures.cells senses)
          (prints-then g.K.Sink.written g.K.Sink.faults _ _ _ _ _ c.loop-line.invariant.0 c.print_row.ensures),
      omega (arith, c.lines-line-end.ensures),
      senses-more first last (g.A.CellArray.state c.sense-cells.new.self) c.loop-line.line c.sense-cells.result c.sense-cells.ensures.cells
          (record { bits = search rules; meta = search rules }) senses c.sense-cells.ensures.step,
    )

pub returns-then-failed : goal.returns-then-failed
returns-then-failed g c =
    lines-some g.K.Sink.written g.K.Sink.faults (g.A.CellArray.state c.args.array.now) (g.A.CellArray.state c.loop-line.array) c.loop-line.line c.args.printer.now c.loop-line.printer
    c.loop-line.invariant.2 c.loop-line.invariant.0
    (omega (arith, c.lines-line-end.ensures)) (sym c.failed.ensures ∙ c.if-failed.true)

pub returns : goal.returns
returns g c =
    let first = g.A.CellArray.state c.args.array.now in
    let whole : c.loop-line.line ≡ first.lines = omega (arith, c.lines-line-end.ensures, c.loop-line.invariant.1) in
    lines-all g.K.Sink.written g.K.Sink.faults first (g.A.CellArray.state c.loop-line.array) c.loop-line.line c.args.printer.now c.loop-line.printer
    c.loop-line.invariant.2 c.loop-line.invariant.0 c.print_line.new.printer whole c.print_line.ensures

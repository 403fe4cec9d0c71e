use Rattle.std.proofs.Common.{arith, rules}
use Rattle.image_text.proofs.{Cells.cells-sensed, Sensing.{senses-more, senses-none}}
use Rattle.image_text.proofs.lines.print_rows.Goals as goal
use Rattle.text_printer.proofs.Printed.{prints-none, prints-same, prints-then}

pub loop-line-init : goal.loop-line-init
loop-line-init g c = (prints-none g.K.Sink.written g.K.Sink.faults _, omega arith, senses-none _)

pub loop-line-preserved : goal.loop-line-preserved
loop-line-preserved g c =
    let first = g.A.CellArray.state c.args.array.now in
    let last = g.A.CellArray.state c.loop-line.array in
    let senses = c.loop-line.invariant.2 in (
      prints-same g.K.Sink.written g.K.Sink.faults _ _ _ _ (cells-sensed first last c.loop-line.line c.sense-cells.result c.sense-cells.ensures.cells senses)
          (prints-then g.K.Sink.written g.K.Sink.faults _ _ _ _ _ c.loop-line.invariant.0 c.print_cells.ensures),
      omega (arith, c.lines-line-end.ensures),
      senses-more first last (g.A.CellArray.state c.sense-cells.new.self) c.loop-line.line c.sense-cells.result c.sense-cells.ensures.cells
          (record { bits = search rules; meta = search rules }) senses c.sense-cells.ensures.step,
    )

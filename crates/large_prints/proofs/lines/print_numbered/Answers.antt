use Rattle.text_printer.proofs.Printed.{prints-then}
use Rattle.large_prints.proofs.lines.print_numbered.Goals as goal

pub returns : goal.returns
returns g c = prints-then g.K.Sink.written g.K.Sink.faults _ _ _ _ _ c.print_line.ensures c.print_cells.ensures

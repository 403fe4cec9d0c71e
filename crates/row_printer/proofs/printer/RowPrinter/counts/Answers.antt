use Rattle.row_printer.proofs.printer.RowPrinter.counts.Goals as goal

pub returns : goal.returns
returns g c = rw (← c.self.view_is) c.self.invariant.counted

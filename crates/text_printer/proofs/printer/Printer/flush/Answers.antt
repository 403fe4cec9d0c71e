use Rattle.std.proofs.Common.{refl}
use Rattle.text_printer.proofs.Printed.{prints-flushed}
use Rattle.text_printer.proofs.printer.Printer.flush.Goals as goal

pub returns-clause-printed : goal.returns-clause-printed
returns-clause-printed g c = prints-flushed g.K.Sink.written g.K.Sink.faults _ _ refl refl c.clear.ensures (rw c.bytes.ensures at c.send-self.ensures)

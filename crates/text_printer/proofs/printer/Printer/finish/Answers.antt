use Rattle.text_printer.proofs.Printed.{ends-err}
use Rattle.text_printer.proofs.printer.Printer.finish.Goals as goal

pub returns-then-send : goal.returns-then-send
returns-then-send g c = ends-err g.K.Sink.written g.K.Sink.faults c.args.self c.send.new.out _ _ _ c.bytes.ensures c.if-send.true c.send.ensures

use Rattle.std.proofs.Common.{refl}
use Rattle.text_printer.proofs.Printed.{prints-put}
use Rattle.run_text.proofs.results.print_event.Goals as goal

pub returns : goal.returns
returns g c =
    prints-put g.K.Sink.written g.K.Sink.faults _ _ _ _ c.make_room.ensures.printed refl refl refl (rw (← c.asked_by-op.ensures, ← c.line_named_by-line.ensures) c.print_row.ensures.after)

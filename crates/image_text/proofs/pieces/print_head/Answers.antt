use Rattle.std.proofs.Common.{refl}
use Rattle.text_printer.proofs.Printed.{prints-put}
use Rattle.image_text.proofs.pieces.print_head.Goals as goal

pub returns : goal.returns
returns g c = prints-put g.K.Sink.written g.K.Sink.faults _ _ _ _ c.make_room.ensures.printed refl refl refl c.push_head.ensures

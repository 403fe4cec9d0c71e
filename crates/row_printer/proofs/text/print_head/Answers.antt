use Rattle.row_printer.proofs.Pieces.{pieces-head}
use Rattle.row_printer.proofs.text.print_head.Goals as goal

pub returns-in-Some : goal.returns-in-Some
returns-in-Some g c = rw (c.print_shape.ensures, c.push.ensures.after, c.stream_header.ensures, c.in-Some.is) (pieces-head c.args.text.now _ _)

use Rattle.std.specs.Prelude.{codes}
use Rattle.row_printer.proofs.Pieces.{pieces-newest}
use Rattle.row_printer.proofs.text.print_newest.Goals as goal

pub returns : goal.returns
returns g c = rw (c.push-2.ensures.after, c.push_hex.ensures.after, c.push_number_then-2.ensures.after, c.push_number_then.ensures.after, c.push.ensures.after)
    (pieces-newest c.args.text.now (codes ",bytes,") _ _ _)

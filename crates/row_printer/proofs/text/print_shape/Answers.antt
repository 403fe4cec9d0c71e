use Rattle.std.specs.Prelude.{codes}
use Rattle.row_printer.proofs.Pieces.{pieces-shape}
use Rattle.row_printer.proofs.text.print_shape.Goals as goal

pub returns : goal.returns
returns g c = rw (
  c.push-2.ensures.after,
  c.print_rest.ensures.after,
  c.push_number.ensures.after,
  c.push_number_then-7.ensures.after,
  c.push_number_then-6.ensures.after,
  c.push_number_then-5.ensures.after,
  c.push_number_then-4.ensures.after,
  c.push_number_then-3.ensures.after,
  c.push_number_then-2.ensures.after,
  c.push_number_then.ensures.after,
  c.version.ensures,
  c.push.ensures.after,
) (pieces-shape c.args.text.now (codes ",shape,0,") _ (codes ",") _ _ _ _ _ _ _ _)

use Rattle.std.specs.Prelude.{codes, decimal}
use Rattle.row_printer.{specs.Telling.driven_text, proofs.Pieces.pieces-wear}
use Rattle.row_printer.proofs.text.print_wear.Goals as goal

pub returns : goal.returns
returns c =
    let wear = c.args.wear.now in
    rw (
      c.push-2.ensures.after,
      c.push_driven.ensures.after,
      c.push_number_then-5.ensures.after,
      c.push_number_then-4.ensures.after,
      c.push_number_then-3.ensures.after,
      c.push_number_then-2.ensures.after,
      c.push_number_then.ensures.after,
      c.push.ensures.after,
    )
    (pieces-wear c.args.text.now (codes ",wear,") (decimal c.args.tick) (codes ",,") (decimal wear.pulses) (decimal wear.most) (decimal wear.mean) (decimal wear.pointers)
    (driven_text wear.energy))

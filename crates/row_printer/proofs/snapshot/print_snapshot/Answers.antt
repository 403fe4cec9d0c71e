use Rattle.row_printer.proofs.Pieces.{pieces-snapshot}
use Rattle.row_printer.proofs.snapshot.print_snapshot.Goals as goal

pub returns : goal.returns
returns c = rw (
  c.push.ensures.after,
  c.push_energy.ensures.after,
  c.push_number_then-7.ensures.after,
  c.push_number_then-6.ensures.after,
  c.push_number_then-5.ensures.after,
  c.push_number_then-4.ensures.after,
  c.push_number_then-3.ensures.after,
  c.push_counts.ensures.after,
  c.push_number_then-2.ensures.after,
  c.push_number_then.ensures.after,
) (pieces-snapshot c.args.text.now _ _ _ _ _ _ _ _ _)

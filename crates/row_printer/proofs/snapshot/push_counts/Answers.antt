use Rattle.row_printer.proofs.Pieces.{pieces-counts}
use Rattle.row_printer.proofs.snapshot.push_counts.Goals as goal

pub returns-clause-after : goal.returns-clause-after
returns-clause-after c = rw (
  c.push_number_then-10.ensures.after,
  c.push_number_then-9.ensures.after,
  c.push_number_then-8.ensures.after,
  c.push_number_then-7.ensures.after,
  c.push_number_then-6.ensures.after,
  c.push_number_then-5.ensures.after,
  c.push_number_then-4.ensures.after,
  c.push_number_then-3.ensures.after,
  c.push_number_then-2.ensures.after,
  c.push_number_then.ensures.after,
) (pieces-counts c.args.text.now _ _ _ _ _ _ _ _ _ _)

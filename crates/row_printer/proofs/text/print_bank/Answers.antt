use Rattle.row_printer.proofs.Pieces.{pieces-bank}
use Rattle.row_printer.proofs.text.print_bank.Goals as goal

pub returns : goal.returns
returns c = rw (
  c.push-3.ensures.after,
  c.push-2.ensures.after,
  c.word_of.ensures.word,
  c.push_number_then-4.ensures.after,
  c.push_number_then-3.ensures.after,
  c.push_number_then-2.ensures.after,
  c.push_number_then.ensures.after,
  c.push.ensures.after,
) (pieces-bank c.args.text.now _ _ _ _ _)

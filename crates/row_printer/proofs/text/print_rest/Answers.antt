use Rattle.row_printer.proofs.Pieces.{pieces-rest}
use Rattle.row_printer.proofs.text.print_rest.Goals as goal

pub returns-clause-after : goal.returns-clause-after
returns-clause-after c = rw (
  c.push-4.ensures.after,
  c.home_word.ensures.word,
  c.push-3.ensures.after,
  c.push-2.ensures.after,
  c.policy_word.ensures.word,
  c.push_number_then-4.ensures.after,
  c.push_number_then-3.ensures.after,
  c.push_number_then-2.ensures.after,
  c.push_number_then.ensures.after,
  c.push.ensures.after,
  c.in-Some.is,
) (pieces-rest c.args.text.now _ _ _ _ _ _)

use Rattle.result_rows.proofs.RowLemmas.{pieces-row}
use Rattle.result_rows.proofs.print.print_row.Goals as goal

pub returns-clause-after : goal.returns-clause-after
returns-clause-after g c = rw (
  c.print_outcome.ensures.after,
  c.push_number_field.ensures.after,
  c.line_if_any.ensures.line,
  c.push_field.ensures.after,
  c.letter.ensures.letter,
  c.push_number_then.ensures.after,
) (pieces-row c.args.text.now _ _ _ _ _ _ _)

use Rattle.result_rows.proofs.RowLemmas.{pieces-outcome}
use Rattle.result_rows.proofs.print.print_outcome.Goals as goal

pub returns-clause-after : goal.returns-clause-after
returns-clause-after g c = rw (
  c.push.ensures.after,
  c.push_bytes.ensures.after,
  c.push_number_field-2.ensures.after,
  c.place.ensures.place,
  c.push_number_field.ensures.after,
  c.tick.ensures.tick,
  c.push_field.ensures.after,
  c.word.ensures.word,
) (pieces-outcome c.args.text.now _ _ _ _)

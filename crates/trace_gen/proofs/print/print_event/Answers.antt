use Rattle.pcm_io.proofs.PrintLemmas.{pieces-row}
use Rattle.trace_gen.proofs.print.print_event.Goals as goal

pub returns-clause-after : goal.returns-clause-after
returns-clause-after g c = rw (
  c.push.ensures.after,
  c.push_data.ensures.after,
  c.push_line.ensures.after,
  c.push_field.ensures.after,
  c.letter.ensures.letter,
  c.push_number_then.ensures.after,
) (pieces-row c.args.text.now _ _ _ _)

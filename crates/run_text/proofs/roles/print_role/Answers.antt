use Rattle.pcm_io.proofs.PrintLemmas.{pieces-row}
use Rattle.run_text.proofs.roles.print_role.Goals as goal

pub returns-clause-after : goal.returns-clause-after
returns-clause-after c = rw (
  c.push.ensures.after,
  c.push_role.ensures.after,
  c.push_number_then-3.ensures.after,
  c.push_number_then-2.ensures.after,
  c.push_number_then.ensures.after,
) (pieces-row c.args.text.now _ _ _ _)

use Rattle.lines_report.proofs.LinesLemmas.{pieces-lines}
use Rattle.lines_report.proofs.row.push_row.Goals as goal

pub returns : goal.returns
returns c = rw (
  c.push-3.ensures.after,
  c.push_energy.ensures.after,
  c.push-2.ensures.after,
  c.push_wear.ensures.after,
  c.push_number_then-4.ensures.after,
  c.push.ensures.after,
  c.push_role.ensures.after,
  c.push_number_then-3.ensures.after,
  c.push_number_then-2.ensures.after,
  c.push_number_then.ensures.after,
) (pieces-lines c.args.text.now _ _ _ _ _ _ _ _)

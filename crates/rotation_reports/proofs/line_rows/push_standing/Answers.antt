use Rattle.rotation_reports.proofs.Bounds.{six_fields}
use Rattle.rotation_reports.proofs.line_rows.push_standing.Goals as goal

pub returns-clause-after : goal.returns-clause-after
returns-clause-after c =
    rw (
      c.push_number_then-6.ensures.after,
      c.push_number_then-5.ensures.after,
      c.push_number_then-4.ensures.after,
      c.push_number_then-3.ensures.after,
      c.push_number_then-2.ensures.after,
      c.push_number_then.ensures.after,
    ) (six_fields c.args.text.now _ _ _ _ _ _)

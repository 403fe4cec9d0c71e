use Rattle.trace_rows.specs.Rows.{rows_with}
use Rattle.result_check.specs.Going.{GoesOn}
use Rattle.result_check.proofs.pass_rows.Given as goal

abbrev pub invariant-loop-i : goal.invariant-loop-i
invariant-loop-i g l = GoesOn l.rules l.banks (rows_with l.events l.results) l.i l.found l.cuts l.kept.banks.items l.kept.joined l.kept.lines.items

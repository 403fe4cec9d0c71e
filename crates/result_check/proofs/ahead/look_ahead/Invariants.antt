use Rattle.std.proofs.Common.{length}
use Rattle.trace_rows.specs.Rows.{rows_with}
use Rattle.result_check.proofs.Coming.{LooksFrom}
use Rattle.result_check.proofs.ahead.look_ahead.Given as goal

abbrev pub invariant-loop-row : goal.invariant-loop-row
invariant-loop-row g l = LooksFrom l.banks (rows_with l.events l.results) l.row (length l.events) l.outlook.next.items l.outlook.soonest.items l.outlook.worn.items l.coming.items

abbrev pub decreases-loop-row : goal.decreases-loop-row
decreases-loop-row g l = l.row

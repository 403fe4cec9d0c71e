use Rattle.trace_rows.specs.Rows.{rows_with}
use Rattle.result_check.proofs.Finding.{IsFoundTo}
use Rattle.result_check.proofs.found.Found.of.Given as goal

abbrev pub invariant-loop-i : goal.invariant-loop-i
invariant-loop-i g l = IsFoundTo l.banks (rows_with l.events l.results) l.i l.found

use Rattle.std.proofs.Common.{◌≡◌, ◌++◌, drop}
use Rattle.trace_rows.specs.Rows.{rows_with}
use Rattle.verdict_telling.proofs.table.Given as goal

abbrev pub invariant-loop-i : goal.invariant-loop-i
invariant-loop-i g l = l.rows.items ++ drop l.i (rows_with l.events l.results) ≡ rows_with l.events l.results

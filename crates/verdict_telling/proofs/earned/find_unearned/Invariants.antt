use Rattle.std.proofs.Common.{◌+◌, drop}
use Rattle.trace_rows.specs.Rows.{rows_with}
use Rattle.verdict_telling.proofs.Earning.{Passed}
use Rattle.verdict_telling.proofs.earned.find_unearned.Given as goal

-- no row so far is unearned
abbrev pub invariant-loop-i : goal.invariant-loop-i
invariant-loop-i g l = Passed l.banks (rows_with l.events l.results) (l.i + 1) (drop l.i (rows_with l.events l.results)) l.some.items

use Rattle.std.proofs.Common.{◌≡◌}
use Rattle.std.specs.{List.list_any, Prelude.drop}
use Rattle.row_rules.specs.Rows.{write_of}
use Rattle.check_telling.specs.Standing.{rows_of}
use Rattle.check_telling.proofs.reads.has_line.Given as goal

abbrev pub invariant-loop-one : goal.invariant-loop-one
invariant-loop-one g l = list_any (write_of l.line) (rows_of (drop l.one-index l.standing)) ≡ list_any (write_of l.line) (rows_of l.standing)

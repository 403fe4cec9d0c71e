use Rattle.std.proofs.Common.{◌≡◌}
use Rattle.std.specs.{List.list_any, Prelude.drop}
use Rattle.row_rules.specs.Rows.{accepted_of}
use Rattle.check_telling.specs.Standing.{rows_of}
use Rattle.clause_telling.proofs.room.some_accepted.Given as goal

abbrev pub invariant-loop-one : goal.invariant-loop-one
invariant-loop-one g l = list_any (accepted_of l.line) (rows_of (drop l.one-index l.rows)) ≡ list_any (accepted_of l.line) (rows_of l.rows)

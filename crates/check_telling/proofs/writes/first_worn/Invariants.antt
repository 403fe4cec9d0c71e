use Rattle.std.proofs.Common.{◌≡◌}
use Rattle.std.specs.Prelude.{drop}
use Rattle.row_rules.specs.Wearing.{worn_row}
use Rattle.check_telling.specs.Standing.{first_at}
use Rattle.check_telling.proofs.writes.first_worn.Given as goal

abbrev pub invariant-loop-one : goal.invariant-loop-one
invariant-loop-one g l = first_at worn_row (drop l.one-index l.rows) ≡ first_at worn_row l.rows

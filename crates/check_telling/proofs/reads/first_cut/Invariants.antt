use Rattle.std.proofs.Common.{◌≡◌}
use Rattle.std.specs.Prelude.{drop}
use Rattle.row_rules.specs.Rows.{is_cut}
use Rattle.check_telling.specs.Standing.{first_at}
use Rattle.check_telling.proofs.reads.first_cut.Given as goal

abbrev pub invariant-loop-one : goal.invariant-loop-one
invariant-loop-one g l = first_at is_cut (drop l.one-index l.later) ≡ first_at is_cut l.later

use Rattle.std.proofs.Common.{◌≡◌}
use Rattle.std.specs.Prelude.{drop}
use Rattle.row_rules.specs.Ticking.{last_store}
use Rattle.check_telling.specs.Standing.{rows_of}
use Rattle.check_telling.proofs.times.last_store_behind.Given as goal

abbrev pub invariant-loop-index : goal.invariant-loop-index
invariant-loop-index g l = l.found ≡ last_store l.to (rows_of (drop l.index l.later))

use Rattle.std.proofs.Common.{◌≡◌}
use Rattle.std.specs.Prelude.{drop}
use Rattle.row_rules.specs.Queueing.{next_store}
use Rattle.check_telling.specs.Standing.{rows_of}
use Rattle.check_telling.proofs.reads.next_store_behind.Given as goal

abbrev pub invariant-loop-index : goal.invariant-loop-index
invariant-loop-index g l = l.found ≡ next_store l.above l.line (rows_of (drop l.index l.later))

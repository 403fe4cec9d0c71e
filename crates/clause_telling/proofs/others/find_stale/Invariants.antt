use Rattle.std.proofs.Common.{◌≡◌}
use Rattle.std.specs.Prelude.{reverse, take}
use Rattle.row_rules.specs.Rows.{newest}
use Rattle.clause_telling.specs.Others.{stale_at}
use Rattle.clause_telling.proofs.others.find_stale.Given as goal

abbrev pub invariant-loop-i : goal.invariant-loop-i
invariant-loop-i g l =
    record { now_is : l.now ≡ newest (reverse (take l.i l.before)) l.line; found_is : l.found ≡ stale_at l.told l.line (reverse (take l.i l.before)) }

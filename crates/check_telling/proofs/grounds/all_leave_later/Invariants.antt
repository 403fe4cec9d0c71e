use Rattle.std.proofs.Common.{◌≡◌, ◌||◌}
use Rattle.std.specs.{List.list_all, Prelude.drop}
use Rattle.row_rules.specs.{Rows.write_of, declared.Row.Row}
use Rattle.check_telling.specs.{Standing.rows_of, Steps.leaves_later}
use Rattle.check_telling.proofs.grounds.all_leave_later.Given as goal

abbrev pub invariant-loop-one : goal.invariant-loop-one
invariant-loop-one g l =
    list_all (λ (q : Row g.row.B). write_of l.line q || leaves_later l.next q.outcome) (rows_of (drop l.one-index l.standing))
    ≡ list_all (λ (q : Row g.row.B). write_of l.line q || leaves_later l.next q.outcome) (rows_of l.standing)

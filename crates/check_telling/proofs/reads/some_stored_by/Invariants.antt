use Rattle.std.proofs.Common.{◌≡◌, ◌&&◌}
use Rattle.std.specs.{List.list_any, Prelude.drop}
use Rattle.row_rules.specs.{Answers.stored_by, Rows.write_of, declared.Row.Row}
use Rattle.check_telling.specs.Standing.{rows_of}
use Rattle.check_telling.proofs.reads.some_stored_by.Given as goal

abbrev pub invariant-loop-one : goal.invariant-loop-one
invariant-loop-one g l =
    list_any (λ (q : Row g.row.B). write_of l.line q && stored_by l.tick q.outcome) (rows_of (drop l.one-index l.later))
    ≡ list_any (λ (q : Row g.row.B). write_of l.line q && stored_by l.tick q.outcome) (rows_of l.later)

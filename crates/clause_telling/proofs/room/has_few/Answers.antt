use Rattle.std.proofs.Common.{◌∙◌, sym}
use Rattle.check_telling.specs.Standing.{rows_of}
use Rattle.clause_telling.proofs.Rooms.{few_then, few_else}
use Rattle.clause_telling.proofs.room.has_few.Goals as goal

pub returns-then-has_one : goal.returns-then-has_one
returns-then-has_one g c =
    few_then (rows_of c.args.standing.now) c.args.newer.now (rows_of c.args.earlier.now) c.line_of-line.result c.all_may_stand.result c.line_of-line.ensures
    (sym c.has_one.ensures ∙ c.if-has_one.true) c.all_may_stand.ensures

pub returns-else-has_one : goal.returns-else-has_one
returns-else-has_one g c =
    few_else (rows_of c.args.standing.now) c.args.newer.now (rows_of c.args.earlier.now) c.line_of-line.result c.has_one.result c.line_of-line.ensures c.has_one.ensures c.if-has_one.false

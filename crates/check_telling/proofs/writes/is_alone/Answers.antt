use Rattle.std.proofs.Common.{◌∙◌, sym}
use Rattle.check_telling.{specs.Standing.rows_of, proofs.FindsWrites.{alone_else, alone_then}}
use Rattle.check_telling.proofs.writes.is_alone.Goals as goal

pub returns-then-has_one : goal.returns-then-has_one
returns-then-has_one g c =
    alone_then c.args.tick c.args.line (rows_of c.args.standing.now) c.all_in_flight.result (sym c.has_one.ensures ∙ c.if-has_one.true) c.all_in_flight.ensures

pub returns-else-has_one : goal.returns-else-has_one
returns-else-has_one g c = c.if-has_one.false ∙ alone_else c.args.tick c.args.line (rows_of c.args.standing.now) (sym c.has_one.ensures ∙ c.if-has_one.false)

use Rattle.std.proofs.Common.{◌∙◌, ◌&&◌, ◌||◌, sym}
use Rattle.std.specs.Prelude.{nat_le}
use Rattle.row_rules.specs.{Answers.{is_answered, is_lost}, Rows.asks_read, declared.Row.Row}
use Rattle.check_telling.proofs.Folds.{count_told}
use Rattle.check_telling.proofs.times.came_since.Goals as goal

pub returns : goal.returns
returns g c =
    c.count_came.ensures
    ∙ sym (count_told (λ (q : Row g.row.B). asks_read q.asks && (nat_le c.args.from q.tick && (is_answered q.outcome || is_lost q.outcome))) c.args.past.now)

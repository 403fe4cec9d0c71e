use Rattle.std.proofs.Common.{◌∙◌, sym, ap, cond}
use Rattle.std.{specs.Prelude.{nat_lt, reverse}, proofs.lemmas.Bool.{lt-ltb, le-ltb}}
use Rattle.row_rules.specs.Ticking as ticking
use Rattle.check_telling.specs.Standing.{rows_of}
use Rattle.check_telling.proofs.times.cancel_delay.Goals as goal

pub returns-then-came_since-lt4-clause-value : goal.returns-then-came_since-lt4-clause-value
returns-then-came_since-lt4-clause-value g c =
    let before = reverse (rows_of c.args.past.now) in
    sym (ap (λ k. cond (nat_lt k 4) 0 c.args.one) (ap (λ v. ticking.came_since v before) (sym c.last_store.ensures) ∙ sym c.came_since.ensures)
    ∙ ap (λ b. cond b 0 c.args.one) (lt-ltb c.came_since.result 4 c.if-came_since-lt4.true))

pub returns-else-came_since-lt4-clause-value : goal.returns-else-came_since-lt4-clause-value
returns-else-came_since-lt4-clause-value g c =
    let before = reverse (rows_of c.args.past.now) in
    sym (ap (λ k. cond (nat_lt k 4) 0 c.args.one) (ap (λ v. ticking.came_since v before) (sym c.last_store.ensures) ∙ sym c.came_since.ensures)
    ∙ ap (λ b. cond b 0 c.args.one) (le-ltb c.came_since.result 4 c.if-came_since-lt4.false))

use Rattle.std.proofs.Common.{[], refl, arith}
use Rattle.check_telling.proofs.{Folds.done, Stands.{standing_on, standing_found, standing_numbered}}
use Rattle.check_telling.proofs.standing.standing.Goals as goal

pub returns-clause-rows : goal.returns-clause-rows
returns-clause-rows g c =
    let past = c.args.past.now in
    let tick = c.args.tick in
    standing_found tick past c.loop-one.told.items
    (done (standing_on tick) c.loop-one.one-index c.loop-one.told.items (standing_on tick [] past) past (λ told. refl) (omega arith) c.loop-one.invariant)

pub returns-clause-numbers : goal.returns-clause-numbers
returns-clause-numbers g c above table of =
    let past = c.args.past.now in
    let tick = c.args.tick in
    standing_numbered tick above table past c.loop-one.told.items
    (done (standing_on tick) c.loop-one.one-index c.loop-one.told.items (standing_on tick [] past) past (λ told. refl) (omega arith) c.loop-one.invariant) of

use Rattle.std.proofs.Common.{[], refl, arith}
use Rattle.check_telling.proofs.{Folds.done, Stands.{waiting_on, waiting_found, waiting_numbered}}
use Rattle.check_telling.proofs.standing.waiting.Goals as goal

pub returns-clause-rows : goal.returns-clause-rows
returns-clause-rows g c =
    let past = c.args.past.now in
    let tick = c.args.tick in
    waiting_found tick past c.loop-one.told.items
    (done (waiting_on tick) c.loop-one.one-index c.loop-one.told.items (waiting_on tick [] past) past (λ told. refl) (omega arith) c.loop-one.invariant)

pub returns-clause-numbers : goal.returns-clause-numbers
returns-clause-numbers g c above table of =
    let past = c.args.past.now in
    let tick = c.args.tick in
    waiting_numbered tick above table past c.loop-one.told.items
    (done (waiting_on tick) c.loop-one.one-index c.loop-one.told.items (waiting_on tick [] past) past (λ told. refl) (omega arith) c.loop-one.invariant) of

use Rattle.check_telling.proofs.FindsWrites.{none_then, some_then}
use Rattle.check_telling.proofs.writes.leaves_first.Goals as goal

pub returns-in-Some : goal.returns-in-Some
returns-in-Some g c = some_then c.args.one.now.outcome c.args.standing.now _ _ c.stored_first.ensures c.in-Some.is

pub returns-in-None : goal.returns-in-None
returns-in-None g c = none_then c.args.one.now.outcome c.args.standing.now _ c.stored_first.ensures c.in-None.is

use Rattle.check_telling.proofs.Bounds.{bound_is}
use Rattle.check_telling.proofs.times.store_bound.Goals as goal

pub returns : goal.returns
returns c =
    bound_is c.args.rules.now c.all_tries-once.result c.writings-each.result c.times.result c.times-2.result c.all_tries-once.ensures.value c.writings-each.ensures.value
    c.times.ensures.value c.times-2.ensures.value

use Rattle.std.proofs.Common.{ap, ◌+◌}
use Rattle.clause_telling.proofs.Counted.{counted, sums}
use Rattle.clause_telling.proofs.counts.count.Goals as goal

pub returns : goal.returns
returns g c line place bytes given =
    counted c.args.rules.now c.args.past.now c.args.later.now c.args.tick c.args.to line place bytes given _ _ c.cuts_to-cuts.result _ c.requires.behind
    (ap (λ k. k + 1) (sums _ _ _ _ c.stores_in.ensures c.stores_in-2.ensures)) (sums _ _ _ _ c.reads_in.ensures c.reads_in-2.ensures) c.cuts_to-cuts.ensures
    (ap (λ k. c.args.tick + k) c.longest.ensures.value)

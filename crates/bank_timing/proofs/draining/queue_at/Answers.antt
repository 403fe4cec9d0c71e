use Rattle.std.proofs.Common.{arith, refl}
use Rattle.bank_timing.{specs.Extending.IsOpen, proofs.Queued.{opened, not-past}, proofs.Sizes.{entry_fits, outcome_small}}
use Rattle.bank_timing.proofs.draining.queue_at.Goals as goal

pub at-requires : goal.at-requires
at-requires g c = (omega arith, entry_fits g.row.B c.requires.few)

pub set-requires : goal.set-requires
set-requires g c =
    let unset = opened (λ entry. IsOpen (g.R.Outcomes.table c.args.results.now) entry.row) _ c.in-Some.entry.now (rw c.in-Some.is at c.at.ensures) c.requires.unset in
    (outcome_small g.row.B c.requires.few, (unset.exists, (unset.unset, refl)))

pub returns-in_default-get-clause-queued : goal.returns-in_default-get-clause-queued
returns-in_default-get-clause-queued g c = absurd (not-past c.args.arrivals.now.items c.args.index c.requires.told (rw c.in_default-get.is at c.get.ensures))

pub returns-in-Some-get-clause-queued : goal.returns-in-Some-get-clause-queued
returns-in-Some-get-clause-queued g c = grind arith

pub returns-in_default-clause-queued : goal.returns-in_default-clause-queued
returns-in_default-clause-queued g c = grind arith

pub returns-in_default-get-clause-goes_on : goal.returns-in_default-get-clause-goes_on
returns-in_default-get-clause-goes_on g c = g.met.R.Outcomes.stands c.args.results.now

pub returns-in_default-clause-goes_on : goal.returns-in_default-clause-goes_on
returns-in_default-clause-goes_on g c = g.met.R.Outcomes.stands c.args.results.now

pub returns-in-Some-get-clause-goes_on : goal.returns-in-Some-get-clause-goes_on
returns-in-Some-get-clause-goes_on g c = c.set.ensures.goes_on

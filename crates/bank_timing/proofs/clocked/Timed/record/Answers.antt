use Rattle.std.proofs.Common.{arith, refl}
use Rattle.bank_timing.proofs.Sizes.{outcome_fits}
use Rattle.bank_timing.proofs.clocked.Timed.record.Goals as goal

pub set-requires : goal.set-requires
set-requires g c =
    let own = rw c.in-Stored.is at c.requires.unset in
    (outcome_fits g.row.B g.row.M g.row.E c.self.invariant.layout, (own.exists, (own.unset, refl)))

pub cancels_by_step-self-inside-requires : goal.cancels_by_step-self-inside-requires
cancels_by_step-self-inside-requires g c = tt

pub invariant_of-self : goal.invariant_of-self
invariant_of-self g c = grind arith

pub invariant_of-self-in_default : goal.invariant_of-self-in_default
invariant_of-self-in_default g c = grind arith

pub returns-in-Stored-clause-clock : goal.returns-in-Stored-clause-clock
returns-in-Stored-clause-clock g c = grind arith

pub returns-in-Stored-clause-results : goal.returns-in-Stored-clause-results
returns-in-Stored-clause-results g c = grind arith

pub returns-in_default-clause-clock : goal.returns-in_default-clause-clock
returns-in_default-clause-clock g c = grind arith

pub returns-in-Stored-clause-goes_on : goal.returns-in-Stored-clause-goes_on
returns-in-Stored-clause-goes_on g c = c.set.ensures.goes_on

pub returns-in_default-clause-results : goal.returns-in_default-clause-results
returns-in_default-clause-results g c = grind arith

pub returns-in_default-clause-goes_on : goal.returns-in_default-clause-goes_on
returns-in_default-clause-goes_on g c = g.met.R.Outcomes.stands c.args.results.now

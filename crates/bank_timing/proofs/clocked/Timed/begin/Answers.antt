use Rattle.std.proofs.Common.{refl, sym, ◌∙◌}
use Rattle.bank_timing.proofs.Sizes.{regs_fits, timed_fits}
use Rattle.bank_timing.proofs.clocked.Timed.begin.Goals as goal

pub returns-in-Some-clause-completes : goal.returns-in-Some-clause-completes
returns-in-Some-clause-completes g c = c.begin_change.ensures (g.R.Outcomes.table c.args.results.now) c.requires.due.unset

pub change-requires : goal.change-requires
change-requires g c = regs_fits g.row.B g.row.M g.row.E c.self.invariant.layout

pub begin_change-requires : goal.begin_change-requires
begin_change-requires g c =
    let is = sym c.change.ensures ∙ c.in-Some.is in (
      timed_fits g.row.B g.row.M g.row.E c.self.invariant.layout,
      (c.requires.due.ends, rw (← c.self.view_is, is) refl),
    )

pub begin_work-requires : goal.begin_work-requires
begin_work-requires g c =
    let is = sym c.change.ensures ∙ c.in-None.is in (
      timed_fits g.row.B g.row.M g.row.E c.self.invariant.layout,
      (c.requires.due, rw (← c.self.view_is) is),
    )

pub returns-in-None-clause-completes : goal.returns-in-None-clause-completes
returns-in-None-clause-completes g c = c.begin_work.ensures.completes

pub returns-in-Some-clause-goes_on : goal.returns-in-Some-clause-goes_on
returns-in-Some-clause-goes_on g c = g.met.R.Outcomes.stands c.args.results.now

pub returns-in-None-clause-goes_on : goal.returns-in-None-clause-goes_on
returns-in-None-clause-goes_on g c = c.begin_work.ensures.goes_on

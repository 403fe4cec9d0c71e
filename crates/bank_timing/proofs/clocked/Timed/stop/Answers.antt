use Rattle.bank_timing.proofs.{Drains.{stop-queueable, stops, stop-others}, Sizes.{bank_fits, kept_fits}, Telling.{left-told, up-none}, Views.clock_of}
use Rattle.bank_timing.proofs.clocked.Timed.stop.Goals as goal

pub kept-requires : goal.kept-requires
kept-requires g c = (bank_fits c.self.invariant.layout, kept_fits)

pub leave_queued-requires : goal.leave_queued-requires
leave_queued-requires g c =
    let going = rw (← c.self.view_is) at c.requires.going in (
      kept_fits,
      (c.self.invariant.layout.shape.1, rw c.kept.ensures.kept (stop-queueable (clock_of c.self.inside) (g.R.Outcomes.table c.args.results.now) (going.0, going.1.led.0, going.1.led.1) going.1.unset)),
    )

pub returns-clause-stops : goal.returns-clause-stops
returns-clause-stops g c =
    let going = rw (← c.self.view_is) at c.requires.going in
    let queued = rw c.kept.ensures.kept at c.leave_queued.ensures.queued in
    rw (← c.self.view_is) (stops (clock_of c.self.inside) (g.R.Outcomes.table c.args.results.now) (going.0, going.1.led.0, going.1.led.1) going.1.unset (g.R.Outcomes.table c.leave_queued.new.results) queued)

pub returns-clause-others : goal.returns-clause-others
returns-clause-others g c =
    let going = rw (← c.self.view_is) at c.requires.going in
    let queued = rw c.kept.ensures.kept at c.leave_queued.ensures.queued in
    rw (← c.self.view_is) (stop-others (clock_of c.self.inside) (g.R.Outcomes.table c.args.results.now) (going.0, going.1.led.0, going.1.led.1) going.1.unset (g.R.Outcomes.table c.leave_queued.new.results) queued)

pub returns-clause-goes_on : goal.returns-clause-goes_on
returns-clause-goes_on g c = c.leave_queued.ensures.goes_on

pub returns-clause-in_turn : goal.returns-clause-in_turn
returns-clause-in_turn g c = record {
  to = 0;
  between = c.args.results.now;
  first = up-none g.R.Outcomes.goes_on g.R.Outcomes.table 0 c.args.results.now;
  left = left-told g.R.Outcomes.goes_on g.R.Outcomes.table _ _ c.args.results.now c.leave_queued.new.results c.leave_queued.ensures.queued c.leave_queued.ensures.goes_on;
}

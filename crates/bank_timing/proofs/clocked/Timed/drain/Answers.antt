use Rattle.std.proofs.Common.{true, refl}
use Rattle.clock_laws.{specs.State.ClockState, proofs.Draining.resting_registers_law}
use Rattle.bank_timing.proofs.{Drains.{queueable, drains, drain-others}, Lawful.keeps-laws, Sizes.{bank_fits, kept_fits}, Telling.left-told}
use Rattle.bank_timing.proofs.clocked.Timed.drain.Goals as goal

pub kept-requires : goal.kept-requires
kept-requires g c = (bank_fits c.self.invariant.layout, kept_fits)

pub leave_queued-requires : goal.leave_queued-requires
leave_queued-requires g c =
    let t = c.self.inside in
    let clock : ClockState g.row.B g.row.M g.row.E =
    record { bank = t.bank; regs = t.regs; pace = t.pace; tick = t.tick; action = t.action; arrivals = t.arrivals.items; cancels = t.cancels; drained = t.drained } in
    let ran = rw (← c.self.view_is) at c.settle.ensures.ran in (
      kept_fits,
      (
        c.self.invariant.layout.shape.1,
        rw c.kept.ensures.kept (queueable c.args.self.now clock (g.A.CellArray.state c.args.array.now) (g.A.CellArray.state c.settle.new.array) (g.R.Outcomes.table c.args.results.now) (g.R.Outcomes.table c.settle.new.results) ran),
      ),
    )

pub returns-clause-rows : goal.returns-clause-rows
returns-clause-rows g c =
    let ran = rw (← c.self.view_is) at c.settle.ensures.ran in
    ran.bound

pub returns-clause-drains : goal.returns-clause-drains
returns-clause-drains g c =
    let t = c.self.inside in
    let clock : ClockState g.row.B g.row.M g.row.E =
    record { bank = t.bank; regs = t.regs; pace = t.pace; tick = t.tick; action = t.action; arrivals = t.arrivals.items; cancels = t.cancels; drained = t.drained } in
    let ran = rw (← c.self.view_is) at c.settle.ensures.ran in
    let rests = rw (← c.self.view_is) at c.settle.ensures.rests in
    let queued = rw c.kept.ensures.kept at c.leave_queued.ensures.queued in
    drains c.args.self.now clock (g.A.CellArray.state c.args.array.now) (g.A.CellArray.state c.settle.new.array) (g.R.Outcomes.table c.args.results.now) (g.R.Outcomes.table c.settle.new.results) ran (g.R.Outcomes.table c.leave_queued.new.results) queued rests

pub returns-clause-others : goal.returns-clause-others
returns-clause-others g c =
    let t = c.self.inside in
    let clock : ClockState g.row.B g.row.M g.row.E =
    record { bank = t.bank; regs = t.regs; pace = t.pace; tick = t.tick; action = t.action; arrivals = t.arrivals.items; cancels = t.cancels; drained = t.drained } in
    let ran = rw (← c.self.view_is) at c.settle.ensures.ran in
    let queued = rw c.kept.ensures.kept at c.leave_queued.ensures.queued in
    drain-others c.args.self.now clock (g.A.CellArray.state c.args.array.now) (g.A.CellArray.state c.settle.new.array) (g.R.Outcomes.table c.args.results.now) (g.R.Outcomes.table c.settle.new.results) ran (g.R.Outcomes.table c.leave_queued.new.results) queued c.requires.going.led

pub returns-clause-laws : goal.returns-clause-laws
returns-clause-laws g c =
    let t = c.self.inside in
    let clock : ClockState g.row.B g.row.M g.row.E =
    record { bank = t.bank; regs = t.regs; pace = t.pace; tick = t.tick; action = t.action; arrivals = t.arrivals.items; cancels = t.cancels; drained = true } in
    let rests = rw (← c.self.view_is) at c.settle.ensures.rests in
    λ xs leads.
    keeps-laws g.row.B g.row.M g.row.E
    (c.tables_keep_their_laws.ensures g.row.B g.row.M) (c.places_keep_their_laws.ensures g.row.B g.row.M) (c.logs_keep_their_laws.ensures g.row.B g.row.M) c.reads_keep_their_law.ensures
    xs clock (g.A.CellArray.state c.settle.new.array) c.self.invariant.paced.some_read c.self.invariant.paced.some_iter leads rests

pub returns-clause-registers : goal.returns-clause-registers
returns-clause-registers g c =
    let t = c.self.inside in
    let clock : ClockState g.row.B g.row.M g.row.E =
    record { bank = t.bank; regs = t.regs; pace = t.pace; tick = t.tick; action = t.action; arrivals = t.arrivals.items; cancels = t.cancels; drained = true } in
    let rests = rw (← c.self.view_is) at c.settle.ensures.rests in
    λ xs leads region exists.
    resting_registers_law g.row.B g.row.M g.row.E region xs clock (g.A.CellArray.state c.settle.new.array) c.self.invariant.paced.some_read c.self.invariant.paced.some_iter leads rests exists

pub tables_keep_their_laws-requires : goal.tables_keep_their_laws-requires
tables_keep_their_laws-requires g c = tt

pub places_keep_their_laws-requires : goal.places_keep_their_laws-requires
places_keep_their_laws-requires g c = tt

pub logs_keep_their_laws-requires : goal.logs_keep_their_laws-requires
logs_keep_their_laws-requires g c = tt

pub reads_keep_their_law-requires : goal.reads_keep_their_law-requires
reads_keep_their_law-requires g c = tt

pub settle-requires : goal.settle-requires
settle-requires g c = (assumption, (c.requires.going.led, (c.requires.within, c.requires.going.unset)))

pub invariant_of-self : goal.invariant_of-self
invariant_of-self g c = c.self.invariant

pub returns-clause-drained : goal.returns-clause-drained
returns-clause-drained g c = refl

pub returns-clause-goes_on : goal.returns-clause-goes_on
returns-clause-goes_on g c = g.met.R.Outcomes.follows _ _ _ c.settle.ensures.goes_on c.leave_queued.ensures.goes_on

pub returns-clause-in_turn : goal.returns-clause-in_turn
returns-clause-in_turn g c = record {
  to = c.settle.new.self.tick;
  between = c.settle.new.results;
  first = c.settle.ensures.in_turn;
  left = left-told g.R.Outcomes.goes_on g.R.Outcomes.table _ _ c.settle.new.results c.leave_queued.new.results c.leave_queued.ensures.queued c.leave_queued.ensures.goes_on;
}

use Rattle.std.proofs.Common.{arith}
use Rattle.clock_laws.specs.State.{ClockState}
use Rattle.bank_timing.proofs.Acting.{passes, passes-clock}
use Rattle.bank_timing.proofs.clocked.Timed.pass.Goals as goal

pub returns-clause-leads : goal.returns-clause-leads
returns-clause-leads g c =
    let t = c.self.inside in
    let clock : ClockState g.row.B g.row.M g.row.E =
    record { bank = t.bank; regs = t.regs; pace = t.pace; tick = t.tick; action = t.action; arrivals = t.arrivals.items; cancels = t.cancels; drained = t.drained } in
    let next = rw (← c.self.view_is) at c.requires.next in
    let later = rw (← c.self.view_is) at c.requires.later in
    let runs = rw (← c.self.view_is) at c.requires.runs in
    rw (← c.self.view_is) (passes clock c.args.to c.args.action next later runs)

pub invariant_of-self : goal.invariant_of-self
invariant_of-self g c =
    let t = c.self.inside in
    let clock : ClockState g.row.B g.row.M g.row.E =
    record { bank = t.bank; regs = t.regs; pace = t.pace; tick = t.tick; action = t.action; arrivals = t.arrivals.items; cancels = t.cancels; drained = t.drained } in
    let next = rw (← c.self.view_is) at c.requires.next in
    let later = rw (← c.self.view_is) at c.requires.later in
    passes-clock clock t.pace t.arrivals.capacity c.args.to c.args.action next later c.self.invariant

pub returns-clause-clock : goal.returns-clause-clock
returns-clause-clock g c = grind arith

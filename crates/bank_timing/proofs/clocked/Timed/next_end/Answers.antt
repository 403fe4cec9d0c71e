use Rattle.std.proofs.Common.{sym, ◌∙◌}
use Rattle.clock_laws.specs.State.{ClockState}
use Rattle.bank_timing.proofs.{Acting.begun-before, Running.small-first, Sizes.timed_fits}
use Rattle.bank_timing.proofs.clocked.Timed.next_end.Goals as goal

pub next_action-requires : goal.next_action-requires
next_action-requires g c = timed_fits g.row.B g.row.M g.row.E c.self.invariant.layout

pub ends-requires : goal.ends-requires
ends-requires g c =
    let t = c.self.inside in
    let clock : ClockState g.row.B g.row.M g.row.E =
    record { bank = t.bank; regs = t.regs; pace = t.pace; tick = t.tick; action = t.action; arrivals = t.arrivals.items; cancels = t.cancels; drained = t.drained } in
    let next = rw (← c.self.view_is) at (sym c.next_action.ensures ∙ c.in-Some.is) in
    let within = rw (← c.self.view_is) at c.requires.within in
    small-first c.in-Some.action.first t.tick (begun-before clock c.in-Some.action next c.self.invariant.begun) within

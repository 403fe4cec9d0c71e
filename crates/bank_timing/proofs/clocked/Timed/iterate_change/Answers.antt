use Rattle.std.proofs.Common.{arith}
use Rattle.bank_timing.proofs.{Due.{due-stands, due-begun}, Keeps.{keep-iterate-ready, keep-iterated, keep-iterated-cancels, not-halted, keep-idle}, Sizes.regs_fits}
use Rattle.bank_timing.proofs.Views.{clock_of}
use Rattle.bank_timing.proofs.clocked.Timed.iterate_change.Goals as goal

pub ends-self-inside-requires : goal.ends-self-inside-requires
ends-self-inside-requires g c = omega (arith, due-begun c.self.inside c.self.view_is c.self.invariant c.requires.due, c.requires.due.within)

pub iterate-keep-requires : goal.iterate-keep-requires
iterate-keep-requires g c =
    let d = due-stands c.self.inside c.self.view_is c.self.invariant c.requires.due in
    let stands = rw (← c.self.view_is) at c.requires.stands in
    (regs_fits g.row.B g.row.M g.row.E c.self.invariant.layout, (keep-iterate-ready (clock_of c.self.inside) c.args.action d.next d.fit stands d.doing, d.led.1.control.held))

pub invariant_of-self : goal.invariant_of-self
invariant_of-self g c =
    let d = due-stands c.self.inside c.self.view_is c.self.invariant c.requires.due in
    let stands = rw (← c.self.view_is) at c.requires.stands in
    record { layout = c.self.invariant.layout; paced = c.self.invariant.paced; room = c.self.invariant.room; begun = tt; fit = tt; idle = rw c.iterate-keep.ensures.step.leaves (keep-idle c.self.inside.regs c.iterate-keep.result c.iterate-keep.ensures.step.now (not-halted c.self.inside.regs c.self.invariant.idle (keep-iterate-ready (clock_of c.self.inside) c.args.action d.next d.fit stands d.doing))) }

pub returns : goal.returns
returns g c =
    let d = due-stands c.self.inside c.self.view_is c.self.invariant c.requires.due in
    let stands = rw (← c.self.view_is) at c.requires.stands in
    let touches = rw c.ends-self-inside.ensures at c.iterate-keep.ensures.touches in
    let step = rw c.ends-self-inside.ensures at c.iterate-keep.ensures.step in
    rw (← c.self.view_is, c.cancels_by_keep-self-inside.ensures, keep-iterated-cancels g.row.B c.iterate-keep.result c.self.inside.cancels, c.ends-self-inside.ensures)
    (λ results unset. keep-iterated (clock_of c.self.inside) c.args.action d.next d.fit stands c.iterate-keep.new.self c.iterate-keep.result (g.A.CellArray.state c.args.array.now) (g.A.CellArray.state c.iterate-keep.new.array) d.led
    c.self.invariant.paced.some_read c.self.invariant.paced.some_iter c.iterate-keep.ensures.done c.iterate-keep.ensures.held results unset step d.doing (not-halted c.self.inside.regs c.self.invariant.idle (keep-iterate-ready (clock_of c.self.inside) c.args.action d.next d.fit stands d.doing)) touches)

pub cancels_by_keep-self-inside-requires : goal.cancels_by_keep-self-inside-requires
cancels_by_keep-self-inside-requires g c = tt

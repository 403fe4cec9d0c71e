use Rattle.std.proofs.Common.{arith}
use Rattle.bank_timing.proofs.{Due.{due-stands, due-begun}, Keeps.{keep-begin-ready, keep-begun, keep-begun-cancels, keep-idle}, Sizes.regs_fits, Views.clock_of}
use Rattle.bank_timing.proofs.clocked.Timed.begin_change.Goals as goal

pub ends-self-inside-requires : goal.ends-self-inside-requires
ends-self-inside-requires g c = omega (arith, due-begun c.self.inside c.self.view_is c.self.invariant c.requires.due, c.requires.due.within)

pub begin-keep-requires : goal.begin-keep-requires
begin-keep-requires g c =
    let d = due-stands c.self.inside c.self.view_is c.self.invariant c.requires.due in
    let stands = rw (← c.self.view_is) at c.requires.stands in
    let ready = keep-begin-ready (clock_of c.self.inside) c.args.action d.next d.fit stands d.doing in
    (regs_fits g.row.B g.row.M g.row.E c.self.invariant.layout, (stands, (ready.0, (ready.1, d.led.1.control.held))))

pub invariant_of-self : goal.invariant_of-self
invariant_of-self g c =
    let d = due-stands c.self.inside c.self.view_is c.self.invariant c.requires.due in
    let stands = rw (← c.self.view_is) at c.requires.stands in
    record { layout = c.self.invariant.layout; paced = c.self.invariant.paced; room = c.self.invariant.room; begun = tt; fit = tt; idle = rw c.begin-keep.ensures.begins.leaves (keep-idle c.self.inside.regs c.begin-keep.result c.begin-keep.ensures.begins.writer (keep-begin-ready (clock_of c.self.inside) c.args.action d.next d.fit stands d.doing).1) }

pub returns : goal.returns
returns g c =
    let d = due-stands c.self.inside c.self.view_is c.self.invariant c.requires.due in
    let stands = rw (← c.self.view_is) at c.requires.stands in
    let touches = rw c.ends-self-inside.ensures at c.begin-keep.ensures.touches in
    rw (← c.self.view_is, c.cancels_by_keep-self-inside.ensures, keep-begun-cancels g.row.B c.begin-keep.result c.self.inside.cancels, c.ends-self-inside.ensures)
    (λ results unset. keep-begun (clock_of c.self.inside) c.args.action d.next d.fit stands c.begin-keep.new.self c.begin-keep.result (g.A.CellArray.state c.args.array.now) (g.A.CellArray.state c.begin-keep.new.array) d.led
    c.self.invariant.paced.some_read c.self.invariant.paced.some_iter c.begin-keep.ensures.done c.begin-keep.ensures.held results unset c.begin-keep.ensures.begins d.doing c.begin-keep.ensures.goes touches)

pub cancels_by_keep-self-inside-requires : goal.cancels_by_keep-self-inside-requires
cancels_by_keep-self-inside-requires g c = tt

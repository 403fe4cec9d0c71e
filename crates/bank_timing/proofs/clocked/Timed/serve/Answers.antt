use Rattle.std.proofs.Common.{arith, refl}
use Rattle.bank_timing.proofs.{Due.{due, due-begun}, Serves.{serve-ready, serve-unset, serve-whole}, Sizes.{bank_fits, served_fits, outcome_fits}, Views.clock_of}
use Rattle.bank_timing.proofs.clocked.Timed.serve.Goals as goal

pub ends-self-inside-requires : goal.ends-self-inside-requires
ends-self-inside-requires g c = omega (arith, due-begun c.self.inside c.self.view_is c.self.invariant c.requires.due.ends, c.requires.due.ends.within)

pub serve-row-requires : goal.serve-row-requires
serve-row-requires g c =
    let d = due c.self.inside c.self.view_is c.self.invariant c.requires.due.ends c.requires.due.unset in
    (bank_fits c.self.invariant.layout, (served_fits g.row.B g.row.M g.row.E c.self.invariant.layout, (serve-ready (clock_of c.self.inside) c.args.action d.next d.doing d.fit, d.led.1.holds.tied)))

pub set-requires : goal.set-requires
set-requires g c =
    let d = due c.self.inside c.self.view_is c.self.invariant c.requires.due.ends c.requires.due.unset in
    let own = serve-unset (clock_of c.self.inside) c.args.action d.next d.doing d.fit (g.A.CellArray.state c.args.array.now) (g.A.CellArray.state c.serve-row.new.array) (g.R.Outcomes.table c.args.results.now) c.serve-row.result c.serve-row.ensures.answer d.unset in
    (outcome_fits g.row.B g.row.M g.row.E c.self.invariant.layout, (own.exists, (own.unset, refl)))

pub invariant_of-self : goal.invariant_of-self
invariant_of-self g c =
    rw c.serve-row.ensures.bank (record { layout = c.self.invariant.layout; paced = c.self.invariant.paced; room = c.self.invariant.room; begun = tt; fit = tt; idle = c.self.invariant.idle })

pub returns-clause-completes : goal.returns-clause-completes
returns-clause-completes g c =
    let d = due c.self.inside c.self.view_is c.self.invariant c.requires.due.ends c.requires.due.unset in
    let touches = rw c.ends-self-inside.ensures at c.serve-row.ensures.touches in
    rw (← c.self.view_is, c.set.ensures.table, c.ends-self-inside.ensures)
    (serve-whole (clock_of c.self.inside) c.args.action d.next d.doing d.fit (g.A.CellArray.state c.args.array.now) (g.A.CellArray.state c.serve-row.new.array) (g.R.Outcomes.table c.args.results.now) c.serve-row.result c.serve-row.ensures.answer d.unset
    c.serve-row.new.self d.led c.self.invariant.paced.some_read c.self.invariant.paced.some_iter c.serve-row.ensures.bank touches c.serve-row.ensures.holds)

pub returns-clause-goes_on : goal.returns-clause-goes_on
returns-clause-goes_on g c = c.set.ensures.goes_on

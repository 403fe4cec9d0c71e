use Rattle.std.proofs.Common.{◌≡◌, sym, ap, ◌∙◌, refl, arith}
use Rattle.bank_model.specs.Timing.{ends}
use Rattle.clock_laws.specs.Putting.{item_by}
use Rattle.bank_timing.{specs.Completing.item_from, proofs.Changes.{PutReady, put-ready, iterated-clock}, proofs.Due.{due, due-begun}}
use Rattle.bank_timing.proofs.{Iterations.{iterate-ready, iterated-steps, iterated-item, iterated-whole}, LineWrites.Steps, Sizes.{bank_fits, timed_fits}, Views.clock_of}
use Rattle.bank_timing.proofs.{clocked.Timed.iterate_work.Given.Over, clocked.Timed.iterate_work.Goals.After-iterate-work}
use Rattle.bank_timing.proofs.clocked.Timed.iterate_work.Goals as goal

pub ends-self-inside-requires : goal.ends-self-inside-requires
ends-self-inside-requires g c = omega (arith, due-begun c.self.inside c.self.view_is c.self.invariant c.requires.due.ends, c.requires.due.ends.within)

pub iterate-work-requires : goal.iterate-work-requires
iterate-work-requires g c =
    let d = due c.self.inside c.self.view_is c.self.invariant c.requires.due.ends c.requires.due.unset in
    let alone = rw (← c.self.view_is) at c.requires.alone in
    (bank_fits c.self.invariant.layout, (iterate-ready (clock_of c.self.inside) c.args.action d.next d.doing d.fit alone, d.led.1.holds.tied))

-- the bank takes the step
steps : (g : Over) (c : After-iterate-work g) → Steps c.self.inside.bank c.self.inside.regs c.iterate-work.new.self c.iterate-work.result.step (ends c.self.inside.pace c.args.action) (g.R.Outcomes.table c.args.results.now)
steps g c =
    let d = due c.self.inside c.self.view_is c.self.invariant c.requires.due.ends c.requires.due.unset in
    let alone = rw (← c.self.view_is) at c.requires.alone in
    iterated-steps (clock_of c.self.inside) c.args.action d.next d.doing d.fit alone (g.A.CellArray.state c.args.array.now) (g.A.CellArray.state c.iterate-work.new.array) (g.R.Outcomes.table c.args.results.now) c.iterate-work.result.step c.iterate-work.new.self d.led d.unset (rw c.ends-self-inside.ensures at c.iterate-work.ensures.step)

-- the item that the code names is that which the step changes
item : (g : Over) (c : After-iterate-work g) → item_from c.iterate-work.new.self.kept.shape c.iterate-work.result.work c.iterate-work.result.step ≡ item_by c.self.inside.bank.kept c.iterate-work.result.step
item g c =
    let d = due c.self.inside c.self.view_is c.self.invariant c.requires.due.ends c.requires.due.unset in
    let alone = rw (← c.self.view_is) at c.requires.alone in
    rw (c.iterate-work.ensures.work)
    (iterated-item (clock_of c.self.inside) c.args.action d.next d.doing d.fit alone (g.A.CellArray.state c.args.array.now) (g.A.CellArray.state c.iterate-work.new.array) (g.R.Outcomes.table c.args.results.now) c.iterate-work.result.step c.iterate-work.new.self d.led d.unset (rw c.ends-self-inside.ensures at c.iterate-work.ensures.step))

pub record-requires : goal.record-requires
record-requires g c = (timed_fits g.row.B g.row.M g.row.E c.self.invariant.layout, (steps g (goal.at.record-requires g c).After-iterate-work).unset)

pub invariant_of-self : goal.invariant_of-self
invariant_of-self g c =
    let same = (steps g (goal.at.invariant_of-self g c).After-iterate-work).shape in
    record { layout = c.self.invariant.layout; paced = c.self.invariant.paced; room = c.self.invariant.room ∙ ap (λ shape. shape.writes) (sym same); begun = tt; fit = tt; idle = c.self.invariant.idle }

-- its change may be put
ready : (g : Over) (c : After-iterate-work g) → PutReady c.iterate-work.new.self c.self.inside.regs c.iterate-work.result.work c.iterate-work.result.step
ready g c =
    let d = due c.self.inside c.self.view_is c.self.invariant c.requires.due.ends c.requires.due.unset in
    let alone = rw (← c.self.view_is) at c.requires.alone in
    let done = steps g c in
    put-ready c.self.inside.bank.kept c.iterate-work.new.self c.self.inside.regs (g.A.CellArray.state c.args.array.now) c.iterate-work.result.work c.iterate-work.result.step
    d.led.1.control alone done.shape done.puts (item g c)

pub put-requires : goal.put-requires
put-requires g c =
    let own = ready g (goal.at.put-requires g c).After-iterate-work in
    rw c.record.ensures.clock (timed_fits g.row.B g.row.M g.row.E c.self.invariant.layout, (own.free, (own.items, (own.known, refl))))

pub returns-clause-completes : goal.returns-clause-completes
returns-clause-completes g c =
    let d = due c.self.inside c.self.view_is c.self.invariant c.requires.due.ends c.requires.due.unset in
    let alone = rw (← c.self.view_is) at c.requires.alone in
    let touches = rw c.ends-self-inside.ensures at c.iterate-work.ensures.touches in
    let put = rw (c.record.ensures.clock, c.ends-self-inside.ensures) at c.put.ensures in
    let now = put ∙ iterated-clock (clock_of c.self.inside) c.iterate-work.new.self c.args.action c.iterate-work.result.work c.iterate-work.result.step (item g (goal.at.returns-clause-completes g c).After-iterate-work) in
    rw (← c.self.view_is, now, c.record.ensures.results, c.ends-self-inside.ensures)
    (iterated-whole (clock_of c.self.inside) c.args.action d.next d.doing d.fit alone (g.A.CellArray.state c.args.array.now) (g.A.CellArray.state c.iterate-work.new.array) (g.R.Outcomes.table c.args.results.now) c.iterate-work.result.step c.iterate-work.new.self d.led d.unset c.self.invariant.paced.some_read c.self.invariant.paced.some_iter (rw c.ends-self-inside.ensures at c.iterate-work.ensures.step) touches c.iterate-work.ensures.holds)

pub returns-clause-goes_on : goal.returns-clause-goes_on
returns-clause-goes_on g c = c.record.ensures.goes_on

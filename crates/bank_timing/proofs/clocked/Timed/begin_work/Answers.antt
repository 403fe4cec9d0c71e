use Rattle.std.proofs.Common.{◌≡◌, sym, ap, ◌∙◌, refl, arith}
use Rattle.bank_model.specs.Timing.{ends}
use Rattle.clock_laws.specs.Putting.{item_by}
use Rattle.bank_timing.{specs.Completing.item_from, proofs.Begins.{begin-ready, begun-steps, begun-item, begun-whole}, proofs.Changes.{PutReady, put-ready, begun-clock}}
use Rattle.bank_timing.proofs.{Due.{due, due-begun}, LineWrites.Steps, Sizes.{bank_fits, timed_fits}, Views.clock_of, clocked.Timed.begin_work.Given.Over}
use Rattle.bank_timing.proofs.clocked.Timed.begin_work.Goals.{After-begin-work}
use Rattle.bank_timing.proofs.clocked.Timed.begin_work.Goals as goal

pub ends-self-inside-requires : goal.ends-self-inside-requires
ends-self-inside-requires g c = omega (arith, due-begun c.self.inside c.self.view_is c.self.invariant c.requires.due.ends, c.requires.due.ends.within)

pub begin-work-requires : goal.begin-work-requires
begin-work-requires g c =
    let d = due c.self.inside c.self.view_is c.self.invariant c.requires.due.ends c.requires.due.unset in
    let alone = rw (← c.self.view_is) at c.requires.alone in
    (bank_fits c.self.invariant.layout, (begin-ready (clock_of c.self.inside) c.args.action d.next d.doing d.fit alone, d.led.1.holds.tied))

-- the bank takes the step
steps : (g : Over) (c : After-begin-work g) → Steps c.self.inside.bank c.self.inside.regs c.begin-work.new.self c.begin-work.result.step (ends c.self.inside.pace c.args.action) (g.R.Outcomes.table c.args.results.now)
steps g c =
    let d = due c.self.inside c.self.view_is c.self.invariant c.requires.due.ends c.requires.due.unset in
    let alone = rw (← c.self.view_is) at c.requires.alone in
    begun-steps (clock_of c.self.inside) c.args.action d.next d.doing d.fit alone (g.A.CellArray.state c.args.array.now) (g.A.CellArray.state c.begin-work.new.array) (g.R.Outcomes.table c.args.results.now) c.begin-work.result.step c.begin-work.new.self d.led d.unset c.begin-work.ensures.begins

-- the item that the code names is that which the step changes
item : (g : Over) (c : After-begin-work g) → item_from c.begin-work.new.self.kept.shape c.begin-work.result.work c.begin-work.result.step ≡ item_by c.self.inside.bank.kept c.begin-work.result.step
item g c =
    let d = due c.self.inside c.self.view_is c.self.invariant c.requires.due.ends c.requires.due.unset in
    let alone = rw (← c.self.view_is) at c.requires.alone in
    rw (c.begin-work.ensures.work)
    (begun-item (clock_of c.self.inside) c.args.action d.next d.doing d.fit alone (g.A.CellArray.state c.args.array.now) (g.A.CellArray.state c.begin-work.new.array) (g.R.Outcomes.table c.args.results.now) c.begin-work.result.step c.begin-work.new.self d.led d.unset c.begin-work.ensures.begins)

pub record-requires : goal.record-requires
record-requires g c = (timed_fits g.row.B g.row.M g.row.E c.self.invariant.layout, (steps g (goal.at.record-requires g c).After-begin-work).unset)

pub invariant_of-self : goal.invariant_of-self
invariant_of-self g c =
    let same = (steps g (goal.at.invariant_of-self g c).After-begin-work).shape in
    record { layout = c.self.invariant.layout; paced = c.self.invariant.paced; room = c.self.invariant.room ∙ ap (λ shape. shape.writes) (sym same); begun = tt; fit = tt; idle = c.self.invariant.idle }

-- its change may be put
ready : (g : Over) (c : After-begin-work g) → PutReady c.begin-work.new.self c.self.inside.regs c.begin-work.result.work c.begin-work.result.step
ready g c =
    let d = due c.self.inside c.self.view_is c.self.invariant c.requires.due.ends c.requires.due.unset in
    let alone = rw (← c.self.view_is) at c.requires.alone in
    let done = steps g c in
    put-ready c.self.inside.bank.kept c.begin-work.new.self c.self.inside.regs (g.A.CellArray.state c.args.array.now) c.begin-work.result.work c.begin-work.result.step
    d.led.1.control alone done.shape done.puts (item g c)

pub put-requires : goal.put-requires
put-requires g c =
    let own = ready g (goal.at.put-requires g c).After-begin-work in
    rw c.record.ensures.clock (timed_fits g.row.B g.row.M g.row.E c.self.invariant.layout, (own.free, (own.items, (own.known, refl))))

pub returns-clause-completes : goal.returns-clause-completes
returns-clause-completes g c =
    let d = due c.self.inside c.self.view_is c.self.invariant c.requires.due.ends c.requires.due.unset in
    let alone = rw (← c.self.view_is) at c.requires.alone in
    let touches = rw c.ends-self-inside.ensures at c.begin-work.ensures.touches in
    let put = rw (c.record.ensures.clock, c.ends-self-inside.ensures) at c.put.ensures in
    let now = put ∙ begun-clock (clock_of c.self.inside) c.begin-work.new.self c.args.action c.begin-work.result.work c.begin-work.result.step (item g (goal.at.returns-clause-completes g c).After-begin-work) in
    rw (← c.self.view_is, now, c.record.ensures.results, c.ends-self-inside.ensures)
    (begun-whole (clock_of c.self.inside) c.args.action d.next d.doing d.fit alone (g.A.CellArray.state c.args.array.now) (g.A.CellArray.state c.begin-work.new.array) (g.R.Outcomes.table c.args.results.now) c.begin-work.result.step c.begin-work.new.self d.led d.unset c.begin-work.ensures.begins c.self.invariant.paced.some_read c.self.invariant.paced.some_iter touches c.begin-work.ensures.holds)

pub returns-clause-goes_on : goal.returns-clause-goes_on
returns-clause-goes_on g c = c.record.ensures.goes_on

use Rattle.std.proofs.Common.{length, is_some, sym, ap, ◌∙◌, arith}
use Rattle.bank_timing.proofs.{Cancels.{few-cancels, cancel-ready, cancel-change-ready, cancels-work, cancels-change}, Sizes.{bank_fits, regs_fits}, Views.clock_of}
use Rattle.bank_timing.proofs.clocked.Timed.cancel.Goals as goal

pub overflow_add-self : goal.overflow_add-self
overflow_add-self g c =
    let would = rw (← c.self.view_is) at c.requires.cancels in
    omega (arith, few-cancels (clock_of c.self.inside) c.args.line would)

pub cut-requires : goal.cut-requires
cut-requires g c =
    let would = rw (← c.self.view_is) at c.requires.cancels in
    let led = rw (← c.self.view_is) at c.requires.led in
    let stands = ap is_some (sym c.change.ensures ∙ c.in-Some.is) in (
      regs_fits g.row.B g.row.M g.row.E c.self.invariant.layout,
      (cancel-change-ready (clock_of c.self.inside) c.args.line would c.self.invariant.fit c.is_iterating-tearing.result c.is_iterating-tearing.ensures stands, led.1.control.held),
    )

pub cut-requires-in-None : goal.cut-requires-in-None
cut-requires-in-None g c =
    let would = rw (← c.self.view_is) at c.requires.cancels in
    let led = rw (← c.self.view_is) at c.requires.led in
    let none = sym c.change.ensures ∙ c.in-None.is in (
      bank_fits c.self.invariant.layout,
      (ap length led.1.taken, (cancel-ready (clock_of c.self.inside) c.args.line would c.self.invariant.fit c.is_iterating-tearing.result c.is_iterating-tearing.ensures none, led.1.holds.tied)),
    )

pub invariant_of-self-in-None : goal.invariant_of-self-in-None
invariant_of-self-in-None g c =
    rw c.cut-in-None.ensures.bank (record { layout = c.self.invariant.layout; paced = c.self.invariant.paced; room = c.self.invariant.room; begun = tt; fit = tt; idle = c.self.invariant.idle })

pub returns-in-Some-clause-reaches : goal.returns-in-Some-clause-reaches
returns-in-Some-clause-reaches g c =
    let would = rw (← c.self.view_is) at c.requires.cancels in
    let held = rw c.cut.ensures.regs at c.cut.ensures.held in
    let is = sym c.change.ensures ∙ c.in-Some.is in
    let goes = cancels-change (clock_of c.self.inside) c.args.line would c.self.invariant.fit c.is_iterating-tearing.result c.is_iterating-tearing.ensures (g.A.CellArray.state c.args.array.now) (g.A.CellArray.state c.cut.new.array) _ is c.cut.ensures.touches held c.cut.ensures.torn in
    rw (← c.self.view_is, c.cut.ensures.regs) goes

pub returns-in-None-clause-reaches : goal.returns-in-None-clause-reaches
returns-in-None-clause-reaches g c =
    let would = rw (← c.self.view_is) at c.requires.cancels in
    let none = sym c.change.ensures ∙ c.in-None.is in
    let holds = rw c.cut-in-None.ensures.bank at c.cut-in-None.ensures.holds in
    let goes = cancels-work (clock_of c.self.inside) c.args.line would c.self.invariant.fit c.is_iterating-tearing.result c.is_iterating-tearing.ensures (g.A.CellArray.state c.args.array.now) (g.A.CellArray.state c.cut-in-None.new.array) none c.cut-in-None.ensures.touches holds c.cut-in-None.ensures.torn in
    rw (← c.self.view_is, c.cut-in-None.ensures.bank) goes

pub is_iterating-tearing-requires : goal.is_iterating-tearing-requires
is_iterating-tearing-requires g c = tt

pub change-requires : goal.change-requires
change-requires g c = regs_fits g.row.B g.row.M g.row.E c.self.invariant.layout

pub invariant_of-self : goal.invariant_of-self
invariant_of-self g c = grind arith

pub returns-in-Some-clause-clock : goal.returns-in-Some-clause-clock
returns-in-Some-clause-clock g c = grind arith

pub returns-in-None-clause-clock : goal.returns-in-None-clause-clock
returns-in-None-clause-clock g c = grind arith

use Rattle.std.proofs.Common.{arith, refl, subst, sym, ◌∙◌, le_antisymm, ◌≤◌}
use Rattle.clock_laws.specs.State.{ClockState}
use Rattle.bank_timing.proofs.{Acting.begun-before, Running.{le-same, before-drain, ends-by, first-fits, ran-none, ran-more, ran-pass, ran-others}, Sizes.timed_fits}
use Rattle.bank_timing.proofs.Telling.{completes-told, no-earlier, up-later, up-more, up-none}
use Rattle.bank_timing.proofs.clocked.Timed.advance.Goals as goal

pub loop-self-init : goal.loop-self-init
loop-self-init g c = (
  ran-none c.args.self.now (g.A.CellArray.state c.args.array.now) (g.R.Outcomes.table c.args.results.now) c.requires.going.led c.requires.going.unset,
  c.requires.forward,
  refl,
  g.met.R.Outcomes.stands c.args.results.now,
  up-none g.R.Outcomes.goes_on g.R.Outcomes.table c.args.self.now.tick c.args.results.now,
)

pub loop-self-preserved-in-None : goal.loop-self-preserved-in-None
loop-self-preserved-in-None g c =
    let kept = c.loop-self.invariant in
    let leads = rw c.pass.ensures.clock at c.pass.ensures.leads in
    rw c.pass.ensures.clock (
      ran-pass c.args.to c.args.self.now c.loop-self.self (g.A.CellArray.state c.args.array.now) (g.A.CellArray.state c.loop-self.array) (g.R.Outcomes.table c.args.results.now) (g.R.Outcomes.table c.loop-self.results) kept.0 leads,
      le-same c.args.to,
      kept.2,
      kept.3,
      up-later g.R.Outcomes.goes_on g.R.Outcomes.table c.loop-self.self.tick c.args.to c.args.results.now c.loop-self.results kept.1 kept.4,
    )

pub ends-end-requires : goal.ends-end-requires
ends-end-requires g c =
    let t = c.self.inside in
    let clock : ClockState g.row.B g.row.M g.row.E =
    record { bank = t.bank; regs = t.regs; pace = t.pace; tick = t.tick; action = t.action; arrivals = t.arrivals.items; cancels = t.cancels; drained = t.drained } in
    let next = rw (← c.self.view_is) at (sym c.next_action.ensures ∙ c.in-Some.is) in
    first-fits c.in-Some.action.first t.tick c.args.to (begun-before clock c.in-Some.action next c.self.invariant.begun) c.loop-self-test.true c.requires.within

pub loop-self-preserved-then-end-to : goal.loop-self-preserved-then-end-to
loop-self-preserved-then-end-to g c =
    let kept = c.loop-self.invariant in
    let by = rw (← c.self.view_is) at c.complete.ensures.completes.now in
    let read : 1 ≤ c.loop-self.self.pace.read =
    subst (λ (clock : ClockState g.row.B g.row.M g.row.E). 1 ≤ clock.pace.read) c.self.view_is c.self.invariant.paced.some_read in
    let iter : 1 ≤ c.loop-self.self.pace.iter =
    subst (λ (clock : ClockState g.row.B g.row.M g.row.E). 1 ≤ clock.pace.iter) c.self.view_is c.self.invariant.paced.some_iter in (
      ran-more c.in-Some.action c.args.self.now c.loop-self.self c.complete.new.self (g.A.CellArray.state c.args.array.now) (g.A.CellArray.state c.loop-self.array) (g.A.CellArray.state c.complete.new.array) (g.R.Outcomes.table c.args.results.now) (g.R.Outcomes.table c.loop-self.results) (g.R.Outcomes.table c.complete.new.results) kept.0 c.complete.ensures.completes,
      ends-by c.complete.new.self.tick c.ends-end.result c.args.to _ by c.ends-end.ensures c.if-end-to.true,
      c.complete.ensures.completes.drained ∙ kept.2,
      g.met.R.Outcomes.follows _ _ _ kept.3 c.complete.ensures.goes_on,
      up-more g.R.Outcomes.goes_on g.R.Outcomes.table c.loop-self.self.tick c.complete.new.self.tick c.args.results.now c.loop-self.results c.complete.new.results
          (no-earlier c.loop-self.self.tick c.complete.new.self.tick c.complete.ensures.completes.later) kept.4
          (completes-told g.R.Outcomes.goes_on g.R.Outcomes.table c.in-Some.action c.loop-self.self c.complete.new.self (g.A.CellArray.state c.loop-self.array) (g.A.CellArray.state c.complete.new.array) c.loop-self.results c.complete.new.results
          read iter (sym c.next_action.ensures ∙ c.in-Some.is) kept.0.led c.complete.ensures.completes c.complete.ensures.goes_on),
    )

pub pass-requires-else-end-to : goal.pass-requires-else-end-to
pass-requires-else-end-to g c = (
  timed_fits g.row.B g.row.M g.row.E c.self.invariant.layout,
  (
    sym c.in-Some.is ∙ c.next_action.ensures,
    (rw (← c.self.view_is) c.loop-self-test.true, rw (← c.self.view_is, ← c.ends-end.ensures) c.if-end-to.false),
  ),
)

pub loop-self-preserved : goal.loop-self-preserved
loop-self-preserved g c =
    let kept = c.loop-self.invariant in
    let leads = rw c.pass-else-end-to.ensures.clock at c.pass-else-end-to.ensures.leads in
    rw c.pass-else-end-to.ensures.clock (
      ran-pass c.args.to c.args.self.now c.loop-self.self (g.A.CellArray.state c.args.array.now) (g.A.CellArray.state c.loop-self.array) (g.R.Outcomes.table c.args.results.now) (g.R.Outcomes.table c.loop-self.results) kept.0 leads,
      le-same c.args.to,
      kept.2,
      kept.3,
      up-later g.R.Outcomes.goes_on g.R.Outcomes.table c.loop-self.self.tick c.args.to c.args.results.now c.loop-self.results kept.1 kept.4,
    )

pub loop-self-smaller-in-None : goal.loop-self-smaller-in-None
loop-self-smaller-in-None g c = grind arith

pub complete-requires : goal.complete-requires
complete-requires g c =
    let next = sym c.next_action.ensures ∙ c.in-Some.is in
    let ran = c.loop-self.invariant.0 in
    (timed_fits g.row.B g.row.M g.row.E c.self.invariant.layout, record { ends = record { led = ran.led; next = next; doing = refl; within = before-drain c.loop-self.self.tick c.args.to c.loop-self.invariant.1 c.requires.within }; unset = ran.unset })

pub loop-self-smaller-then-end-to : goal.loop-self-smaller-then-end-to
loop-self-smaller-then-end-to g c = grind arith

pub loop-self-smaller : goal.loop-self-smaller
loop-self-smaller g c = grind arith

pub next_action-requires : goal.next_action-requires
next_action-requires g c = timed_fits g.row.B g.row.M g.row.E c.self.invariant.layout

pub pass-requires : goal.pass-requires
pass-requires g c = (
  timed_fits g.row.B g.row.M g.row.E c.self.invariant.layout,
  (sym c.in-None.is ∙ c.next_action.ensures, (rw (← c.self.view_is) c.loop-self-test.true, tt)),
)

pub returns : goal.returns
returns g c =
    let reached : c.args.to ≤ c.loop-self.self.tick = rw (← c.self.view_is) c.loop-self-test.false in
    let ran = c.loop-self.invariant.0 in
    record {
      ran = record {
        now = le_antisymm c.loop-self.invariant.1 reached;
        drained = c.loop-self.invariant.2;
        rows = ran.bound;
        unset = ran.unset;
        others = ran-others c.args.self.now c.loop-self.self (g.A.CellArray.state c.args.array.now) (g.A.CellArray.state c.loop-self.array) (g.R.Outcomes.table c.args.results.now) (g.R.Outcomes.table c.loop-self.results) c.requires.going.led ran;
      };
      extends = ran.extends;
      goes_on = c.loop-self.invariant.3;
      in_turn = up-later g.R.Outcomes.goes_on g.R.Outcomes.table c.loop-self.self.tick c.args.to c.args.results.now c.loop-self.results c.loop-self.invariant.1 c.loop-self.invariant.4;
    }

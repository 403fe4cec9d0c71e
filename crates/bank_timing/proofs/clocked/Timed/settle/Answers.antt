use Rattle.std.proofs.Common.{◌≤◌, refl, subst, sym, ◌∙◌}
use Rattle.clock_laws.specs.{Remaining.actions_left, State.ClockState}
use Rattle.bank_timing.proofs.{Acting.begun-before, Running.{down-none, down-more}, Settling.{few-actions, enough, ends-soon, spent, within-of}, Sizes.timed_fits}
use Rattle.bank_timing.proofs.Telling.{completes-told, no-earlier, up-more, up-none}
use Rattle.bank_timing.proofs.clocked.Timed.settle.Goals as goal

pub loop-action-init : goal.loop-action-init
loop-action-init g c = (
  down-none c.args.self.now (g.A.CellArray.state c.args.array.now) (g.R.Outcomes.table c.args.results.now) c.requires.led c.requires.unset,
  enough c.args.self.now.tick (actions_left c.args.self.now.bank c.args.self.now.regs) c.requires.within (few-actions c.requires.led.0 c.args.self.now (g.A.CellArray.state c.args.array.now) c.self.invariant.layout c.requires.led.1),
  g.met.R.Outcomes.stands c.args.results.now,
  up-none g.R.Outcomes.goes_on g.R.Outcomes.table c.args.self.now.tick c.args.results.now,
)

pub complete-requires : goal.complete-requires
complete-requires g c =
    let kept = c.loop-action.invariant in (
      timed_fits g.row.B g.row.M g.row.E c.self.invariant.layout,
      record {
        ends =
            record {
              led = kept.0.led;
              next = sym c.next_action.ensures ∙ c.in-Some.is;
              doing = refl;
              within = within-of c.loop-action.self.tick (actions_left c.loop-action.self.bank c.loop-action.self.regs) kept.1;
            };
        unset = kept.0.unset;
      },
    )

pub loop-action-preserved : goal.loop-action-preserved
loop-action-preserved g c =
    let kept = c.loop-action.invariant in
    let t = c.self-in-loop-action.inside in
    let clock : ClockState g.row.B g.row.M g.row.E =
    record { bank = t.bank; regs = t.regs; pace = t.pace; tick = t.tick; action = t.action; arrivals = t.arrivals.items; cancels = t.cancels; drained = t.drained } in
    let next = rw (← c.self-in-loop-action.view_is) at (sym c.next_action.ensures ∙ c.in-Some.is) in
    let now = rw (← c.self-in-loop-action.view_is) at c.complete.ensures.completes.now in
    let less = rw (← c.self-in-loop-action.view_is) at c.complete.ensures.completes.less in
    let within = rw (← c.self-in-loop-action.view_is) at kept.1 in
    let read : 1 ≤ c.loop-action.self.pace.read =
    subst (λ (clock : ClockState g.row.B g.row.M g.row.E). 1 ≤ clock.pace.read) c.self-in-loop-action.view_is c.self-in-loop-action.invariant.paced.some_read in
    let iter : 1 ≤ c.loop-action.self.pace.iter =
    subst (λ (clock : ClockState g.row.B g.row.M g.row.E). 1 ≤ clock.pace.iter) c.self-in-loop-action.view_is c.self-in-loop-action.invariant.paced.some_iter in (
      down-more c.in-Some.action c.args.self.now c.loop-action.self c.complete.new.self (g.A.CellArray.state c.args.array.now) (g.A.CellArray.state c.loop-action.array) (g.A.CellArray.state c.complete.new.array) (g.R.Outcomes.table c.args.results.now) (g.R.Outcomes.table c.loop-action.results) (g.R.Outcomes.table c.complete.new.results)
          read iter (sym c.next_action.ensures ∙ c.in-Some.is) kept.0 c.complete.ensures.completes,
      spent t.tick c.complete.new.self.tick _ (actions_left t.bank t.regs) (actions_left c.complete.new.self.bank c.complete.new.self.regs) now
          (ends-soon clock t.pace c.in-Some.action refl c.self-in-loop-action.invariant.paced (begun-before clock c.in-Some.action next c.self-in-loop-action.invariant.begun)) less within,
      g.met.R.Outcomes.follows _ _ _ kept.2 c.complete.ensures.goes_on,
      up-more g.R.Outcomes.goes_on g.R.Outcomes.table c.loop-action.self.tick c.complete.new.self.tick c.args.results.now c.loop-action.results c.complete.new.results
          (no-earlier c.loop-action.self.tick c.complete.new.self.tick c.complete.ensures.completes.later) kept.3
          (completes-told g.R.Outcomes.goes_on g.R.Outcomes.table c.in-Some.action c.loop-action.self c.complete.new.self (g.A.CellArray.state c.loop-action.array) (g.A.CellArray.state c.complete.new.array) c.loop-action.results c.complete.new.results
          read iter (sym c.next_action.ensures ∙ c.in-Some.is) kept.0.led c.complete.ensures.completes c.complete.ensures.goes_on),
    )

pub loop-action-smaller : goal.loop-action-smaller
loop-action-smaller g c = c.complete.ensures.completes.less

pub returns-clause-ran : goal.returns-clause-ran
returns-clause-ran g c = c.loop-action.invariant.0

pub returns-clause-rests : goal.returns-clause-rests
returns-clause-rests g c = sym c.next_action.ensures ∙ c.in_default.is

pub next_action-requires : goal.next_action-requires
next_action-requires g c = timed_fits g.row.B g.row.M g.row.E c.self.invariant.layout

pub returns-clause-goes_on : goal.returns-clause-goes_on
returns-clause-goes_on g c = c.loop-action.invariant.2

pub returns-clause-in_turn : goal.returns-clause-in_turn
returns-clause-in_turn g c = c.loop-action.invariant.3

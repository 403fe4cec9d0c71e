use Rattle.std.proofs.Common.{◌++◌, true, refl}
use Rattle.bank_timing.{specs.Extending.outcome_in, proofs.Sizes.timed_fits}
use Rattle.run_laws.specs.FinishedLaws.{ends_of}
use Rattle.pcm_module.{specs.State.{ModuleState, bank_at}, proofs.Draining.{may_stop_all, drain_every, drained_ends, module_drained}, proofs.Views.state_of}
use Rattle.pcm_module.proofs.side_by_side.Module.stop.Goals.{After-stop_all}
use Rattle.pcm_module.proofs.side_by_side.Module.stop.Goals as goal

pub stop_all-requires : goal.stop_all-requires
stop_all-requires g c =
    let led = rw (← c.self.view_is) at c.requires.replays in
    (timed_fits g.row.B g.row.M g.row.E c.self.invariant.layout, (c.self.invariant.layout, (state_of c.self.inside, led.0, may_stop_all c.self.invariant led.1 led.2 led.3 led.4)))

pub invariant_of-self : goal.invariant_of-self
invariant_of-self g c =
    let led = rw (← c.self.view_is) at c.requires.replays in
    module_drained ((goal.at.invariant_of-self g c).After-stop_all.stop_all.ensures.stopped (state_of c.self.inside) led.0 (may_stop_all c.self.invariant led.1 led.2 led.3 led.4)) c.self.invariant (led.1, led.2, led.3, led.4)

pub returns-clause-table : goal.returns-clause-table
returns-clause-table g c =
    let led = rw (← c.self.view_is) at c.requires.replays in
    (c.stop_all.ensures.stopped (state_of c.self.inside) led.0 (may_stop_all c.self.invariant led.1 led.2 led.3 led.4)).rows

pub returns-clause-stops : goal.returns-clause-stops
returns-clause-stops g c =
    rw (← c.self.view_is)
    (λ array h asked f cut. drain_every (c.stop_all.ensures.stopped (state_of c.self.inside) array (may_stop_all c.self.invariant h asked f cut)) h asked f cut)

pub returns-clause-right : goal.returns-clause-right
returns-clause-right g c =
    let s = c.self.inside in
    let new : ModuleState g.row.B g.row.M g.row.E = record (state_of s) { banks = c.stop_all.new.banks.items; finished = true } in
    rw (← c.self.view_is)
    (λ array h asked f cut.
    let d = c.stop_all.ensures.stopped (state_of s) array (may_stop_all c.self.invariant h asked f cut) in
    let done = drain_every d h asked f cut in
    let ends = ends_of (λ bank. done.0 bank ++ h bank) (bank_at new) in
    let right =
    c.stopped_runs_are_right.ensures g.row.B g.row.M g.row.E s.shape s.seed (λ bank. done.0 bank ++ h bank) asked (bank_at new) array (outcome_in (g.R.Outcomes.table c.stop_all.new.results))
    c.self.invariant.in_range done.1 in
    (ends, drained_ends d ends right.1, right.0))

pub returns-clause-others : goal.returns-clause-others
returns-clause-others g c =
    let led = rw (← c.self.view_is) at c.requires.replays in
    rw (← c.self.view_is) (c.stop_all.ensures.stopped (state_of c.self.inside) led.0 (may_stop_all c.self.invariant led.1 led.2 led.3 led.4)).others

pub returns-clause-goes_on : goal.returns-clause-goes_on
returns-clause-goes_on g c = c.stop_all.ensures.goes_on

pub returns-clause-order : goal.returns-clause-order
returns-clause-order g c =
    let led = rw (← c.self.view_is) at c.requires.replays in
    rw (← c.self.view_is) (c.stop_all.ensures.order (state_of c.self.inside) led.0 (may_stop_all c.self.invariant led.1 led.2 led.3 led.4))

pub returns-clause-finished : goal.returns-clause-finished
returns-clause-finished g c = refl

pub returns-clause-shape : goal.returns-clause-shape
returns-clause-shape g c = rw (← c.self.view_is) refl

pub returns-clause-seed : goal.returns-clause-seed
returns-clause-seed g c = rw (← c.self.view_is) refl

use Rattle.std.proofs.Common.{arith, ◌++◌, true, false}
use Rattle.bank_timing.{specs.Extending.outcome_in, proofs.Sizes.timed_fits}
use Rattle.run_laws.specs.FinishedLaws.{ends_of}
use Rattle.pcm_module.{specs.Draining.AreDrained, specs.State.{ModuleState, bank_at}, proofs.Draining.{may_finish, drain_every, drained_ends, module_drained}}
use Rattle.pcm_module.proofs.{Views.state_of, side_by_side.Module.finish.Given.Over, side_by_side.Module.finish.Goals.After-drain_all}
use Rattle.pcm_module.proofs.side_by_side.Module.finish.Goals as goal

pub drain_all-requires : goal.drain_all-requires
drain_all-requires g c =
    (timed_fits g.row.B g.row.M g.row.E c.self.invariant.layout, (c.self.invariant.layout, (state_of c.self.inside, may_finish c.self.view_is c.self.invariant c.requires.replays)))

-- all banks were drained
drained : (g : Over) (c : After-drain_all g)
    → AreDrained false (state_of c.self.inside) c.self.inside.shape.banks c.drain_all.new.banks.items (g.A.CellArray.state c.args.array.now) (g.A.CellArray.state c.drain_all.new.array) (g.R.Outcomes.table c.args.results.now) (g.R.Outcomes.table c.drain_all.new.results)
drained g c = c.drain_all.ensures.drained (state_of c.self.inside) (may_finish c.self.view_is c.self.invariant c.requires.replays)

pub invariant_of-self : goal.invariant_of-self
invariant_of-self g c = module_drained (drained g (goal.at.invariant_of-self g c).After-drain_all) c.self.invariant (let led = rw (← c.self.view_is) at c.requires.replays in (led.0, led.1, led.2, tt))

pub returns-clause-table : goal.returns-clause-table
returns-clause-table g c = (drained g (goal.at.returns-clause-table g c).After-drain_all).rows

pub returns-clause-finishes : goal.returns-clause-finishes
returns-clause-finishes g c = rw (← c.self.view_is) (λ h asked f. drain_every (drained g (goal.at.returns-clause-finishes g c).After-drain_all) h asked f tt)

pub returns-clause-right : goal.returns-clause-right
returns-clause-right g c =
    let s = c.self.inside in
    let d = drained g (goal.at.returns-clause-right g c).After-drain_all in
    let new : ModuleState g.row.B g.row.M g.row.E = record (state_of s) { banks = c.drain_all.new.banks.items; finished = true } in
    rw (← c.self.view_is)
    (λ h asked f.
    let done = drain_every d h asked f tt in
    let ends = ends_of (λ bank. done.0 bank ++ h bank) (bank_at new) in
    let right =
    c.finished_runs_are_right.ensures g.row.B g.row.M g.row.E s.shape s.seed (λ bank. done.0 bank ++ h bank) asked (bank_at new) (g.A.CellArray.state c.drain_all.new.array) (outcome_in (g.R.Outcomes.table c.drain_all.new.results))
    c.self.invariant.in_range done.1 in
    (ends, drained_ends d ends right.1, right.0))

pub returns-clause-others : goal.returns-clause-others
returns-clause-others g c = rw (← c.self.view_is) (drained g (goal.at.returns-clause-others g c).After-drain_all).others

pub returns-clause-stays : goal.returns-clause-stays
returns-clause-stays g c = rw (← c.self.view_is) (drained g (goal.at.returns-clause-stays g c).After-drain_all).stays

pub finished_runs_are_right-requires : goal.finished_runs_are_right-requires
finished_runs_are_right-requires g c = grind arith

pub returns-clause-finished : goal.returns-clause-finished
returns-clause-finished g c = grind arith

pub returns-clause-shape : goal.returns-clause-shape
returns-clause-shape g c = grind arith

pub returns-clause-seed : goal.returns-clause-seed
returns-clause-seed g c = grind arith

pub returns-clause-goes_on : goal.returns-clause-goes_on
returns-clause-goes_on g c = c.drain_all.ensures.goes_on

pub returns-clause-order : goal.returns-clause-order
returns-clause-order g c = rw (← c.self.view_is) (c.drain_all.ensures.order (state_of c.self.inside) (may_finish c.self.view_is c.self.invariant c.requires.replays))

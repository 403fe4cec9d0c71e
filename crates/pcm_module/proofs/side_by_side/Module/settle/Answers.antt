use Rattle.std.proofs.Common.{◌<◌, ◌≤◌, refl, sym, subst}
use Rattle.pcm_module.{specs.Replaying.IsReplayed, specs.Settling.AreSettled, specs.State.ModuleState, proofs.Settles.{may_settle, settle_every, module_settled}}
use Rattle.pcm_module.proofs.{Views.state_of, side_by_side.Module.settle.Given.Over, side_by_side.Module.settle.Goals.After-settle_all}
use Rattle.pcm_module.proofs.side_by_side.Module.settle.Goals as goal
use Rattle.bank_timing.proofs.Sizes.{timed_fits}

pub settle_all-requires : goal.settle_all-requires
settle_all-requires g c = (
  timed_fits g.row.B g.row.M g.row.E c.self.invariant.layout,
  (c.self.invariant.layout, (state_of c.self.inside, may_settle c.self.view_is c.self.invariant c.requires.forward c.requires.within c.requires.replays)),
)

-- all banks have come to the tick
settled : (g : Over) (c : After-settle_all g)
    → AreSettled c.args.tick (state_of c.self.inside) (λ bank. bank < c.self.inside.shape.banks) c.settle_all.new.banks.items (g.A.CellArray.state c.args.array.now) (g.A.CellArray.state c.settle_all.new.array) (g.R.Outcomes.table c.args.results.now) (g.R.Outcomes.table c.settle_all.new.results)
settled g c = c.settle_all.ensures.settled (state_of c.self.inside) (may_settle c.self.view_is c.self.invariant c.requires.forward c.requires.within c.requires.replays)

forward : (g : Over) (c : After-settle_all g) → (state_of c.self.inside).tick ≤ c.args.tick
forward g c = subst (λ (o : ModuleState g.row.B g.row.M g.row.E). o.tick ≤ c.args.tick) (sym c.self.view_is) c.requires.forward

led : (g : Over) (c : After-settle_all g) → IsReplayed (state_of c.self.inside) (g.A.CellArray.state c.args.array.now) (g.R.Outcomes.table c.args.results.now)
led g c = subst (λ (o : ModuleState g.row.B g.row.M g.row.E). IsReplayed o (g.A.CellArray.state c.args.array.now) (g.R.Outcomes.table c.args.results.now)) (sym c.self.view_is) c.requires.replays

pub invariant_of-self : goal.invariant_of-self
invariant_of-self g c =
    let a = (goal.at.invariant_of-self g c).After-settle_all in
    module_settled (settled g a) (forward g a) c.self.invariant c.requires.within (led g a)

pub returns-clause-settled : goal.returns-clause-settled
returns-clause-settled g c = (settled g (goal.at.returns-clause-settled g c).After-settle_all).settled

pub returns-clause-table : goal.returns-clause-table
returns-clause-table g c = (settled g (goal.at.returns-clause-table g c).After-settle_all).rows

pub returns-clause-replays : goal.returns-clause-replays
returns-clause-replays g c =
    let a = (goal.at.returns-clause-replays g c).After-settle_all in
    rw (← c.self.view_is) (λ h asked f.
    let on = settle_every (settled g a) (forward g a) h asked f in
    (on.0, on.1))

pub returns-clause-quiet : goal.returns-clause-quiet
returns-clause-quiet g c =
    let a = (goal.at.returns-clause-quiet g c).After-settle_all in
    rw (← c.self.view_is) (settle_every (settled g a) (forward g a))

pub returns-clause-open : goal.returns-clause-open
returns-clause-open g c = rw (← c.self.view_is) (settled g (goal.at.returns-clause-open g c).After-settle_all).open_rows

pub returns-clause-others : goal.returns-clause-others
returns-clause-others g c = rw (← c.self.view_is) (settled g (goal.at.returns-clause-others g c).After-settle_all).others

pub returns-clause-stays : goal.returns-clause-stays
returns-clause-stays g c = rw (← c.self.view_is) (settled g (goal.at.returns-clause-stays g c).After-settle_all).stays

pub returns-clause-goes_on : goal.returns-clause-goes_on
returns-clause-goes_on g c = c.settle_all.ensures.goes_on

pub returns-clause-order : goal.returns-clause-order
returns-clause-order g c =
    rw (← c.self.view_is) (c.settle_all.ensures.order (state_of c.self.inside) (may_settle c.self.view_is c.self.invariant c.requires.forward c.requires.within c.requires.replays))

pub returns-clause-shape : goal.returns-clause-shape
returns-clause-shape g c = rw (← c.self.view_is) refl

pub returns-clause-seed : goal.returns-clause-seed
returns-clause-seed g c = rw (← c.self.view_is) refl

pub returns-clause-going : goal.returns-clause-going
returns-clause-going g c = rw (← c.self.view_is) at c.requires.going

pub returns-clause-tick : goal.returns-clause-tick
returns-clause-tick g c = refl

pub returns-clause-rows : goal.returns-clause-rows
returns-clause-rows g c = rw (← c.self.view_is) refl

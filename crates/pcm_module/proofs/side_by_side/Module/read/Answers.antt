use Rattle.std.proofs.Common.{refl, arith}
use Rattle.pcm_module.proofs.{Serving.{ComesTo, comes, may_arrive, taken_kept, read_taken, read_tells}, Views.state_of, side_by_side.Module.read.Given.Over}
use Rattle.pcm_module.proofs.side_by_side.Module.read.Goals.{After-index_mut-timed}
use Rattle.pcm_module.proofs.side_by_side.Module.read.Goals as goal
use Rattle.bank_timing.proofs.Sizes.{timed_fits}

-- the read comes to the bank of its line
arrives : (g : Over) (c : After-index_mut-timed g)
    → ComesTo (state_of c.self.inside) (g.A.CellArray.state c.args.array.now) (g.R.Outcomes.table c.args.results.now) c.args.row c.args.tick c.args.line c.place-place.result.bank c.place-place.result.line c.index_mut-timed.result.now
arrives g c =
    let place = c.place-place.ensures in
    comes c.self.view_is c.self.invariant c.requires.may_take.replayed c.requires.may_take.forward c.requires.may_take.rises c.requires.may_take.exist c.requires.may_take.fresh
    place.bank place.line place.bank_exists place.line_exists c.index_mut-timed.ensures.value

pub read_at-requires : goal.read_at-requires
read_at-requires g c =
    let h = arrives g (goal.at.read_at-requires g c).After-index_mut-timed in
    (timed_fits g.row.B g.row.M g.row.E c.self.invariant.layout, may_arrive h c.self.invariant.layout c.requires.may_take.within)

pub invariant_of-self : goal.invariant_of-self
invariant_of-self g c = taken_kept (arrives g (goal.at.invariant_of-self g c).After-index_mut-timed) c.self.invariant c.requires.may_take.within c.read_at.ensures.step

pub returns : goal.returns
returns g c =
    let h = arrives g (goal.at.returns g c).After-index_mut-timed in
    rw (← c.self.view_is) (record {
      goes_on = c.read_at.ensures.goes_on;
      takes = read_taken h c.read_at.ensures.at c.read_at.ensures.step;
      order = read_tells h g.R.Outcomes.goes_on g.R.Outcomes.table c.args.results.now c.read_at.new.results refl c.read_at.ensures.goes_on c.read_at.ensures.in_turn c.read_at.ensures.step;
    })

pub place-place-requires : goal.place-place-requires
place-place-requires g c = grind arith

pub overflow_cast-place : goal.overflow_cast-place
overflow_cast-place g c = grind arith

pub index_mut-timed-requires : goal.index_mut-timed-requires
index_mut-timed-requires g c = grind arith

pub overflow_add-self : goal.overflow_add-self
overflow_add-self g c = grind arith

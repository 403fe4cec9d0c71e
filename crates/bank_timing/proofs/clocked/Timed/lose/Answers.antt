use Rattle.std.proofs.Common.{◌≡◌, ℕ, List, drop, slice_get, Some, None, refl, sym, ap, subst, ◌∙◌}
use Rattle.clock_laws.specs.State.{ClockState}
use Rattle.bank_timing.{specs.Clock.IsClock, specs.Losing.with_lost, specs.declared.clocked.Timed.TheInside.Inside, proofs.Losses.{lose-next, lose-none, lost-clock, view_by}}
use Rattle.bank_timing.proofs.Sizes.{bank_fits, outcome_fits}
use Rattle.bank_timing.proofs.clocked.Timed.lose.Goals as goal
use Rattle.bank_core.specs.Steps.{lost_taken}

pub loop-row-init : goal.loop-row-init
loop-row-init g c =
    let unset = rw (← c.self.view_is) at c.requires.unset in
    (unset, refl, refl, (λ h array holds. holds), g.met.R.Outcomes.stands c.args.results.now)

pub take_lost-requires : goal.take_lost-requires
take_lost-requires g c = bank_fits c.self.invariant.layout

pub set-requires : goal.set-requires
set-requires g c =
    let t = c.loop-row.self-inside in
    let head : slice_get t.bank.lost 0 ≡ Some c.in-Some.row = sym c.take_lost.ensures.row ∙ c.in-Some.is in
    let own = (lose-next c.self.inside.tick t.bank.lost c.in-Some.row (g.R.Outcomes.table c.loop-row.results) head c.loop-row.invariant.0).0 in
    (outcome_fits g.row.B g.row.M g.row.E c.self.invariant.layout, (own.exists, (own.unset, refl)))

pub loop-row-preserved : goal.loop-row-preserved
loop-row-preserved g c =
    let t = c.loop-row.self-inside in
    let head : slice_get t.bank.lost 0 ≡ Some c.in-Some.row = sym c.take_lost.ensures.row ∙ c.in-Some.is in
    let next = lose-next c.self.inside.tick t.bank.lost c.in-Some.row (g.R.Outcomes.table c.loop-row.results) head c.loop-row.invariant.0 in
    let same : t.tick ≡ c.self.inside.tick = ap (λ (t : Inside g.row.B g.row.M g.row.E). t.tick) c.loop-row.invariant.2 in
    let holds = rw c.take_lost.ensures.bank at c.take_lost.ensures.holds in
    let moved = rw same at (ap (λ (t : Inside g.row.B g.row.M g.row.E). record t { bank = lost_taken t.bank }) c.loop-row.invariant.2) in
    rw (c.set.ensures.table, c.take_lost.ensures.bank, same)
    (next.1, next.2 ∙ c.loop-row.invariant.1, moved, (λ h array was. holds h array (c.loop-row.invariant.3 h array was)), g.met.R.Outcomes.follows _ _ _ c.loop-row.invariant.4 c.set.ensures.goes_on)

pub loop-row-smaller : goal.loop-row-smaller
loop-row-smaller g c =
    let t = c.loop-row.self-inside in
    let head : slice_get t.bank.lost 0 ≡ Some c.in-Some.row = sym c.take_lost.ensures.row ∙ c.in-Some.is in
    rw c.take_lost.ensures.bank (lose-next c.self.inside.tick t.bank.lost c.in-Some.row (g.R.Outcomes.table c.loop-row.results) head c.loop-row.invariant.0).3

pub invariant_of-self : goal.invariant_of-self
invariant_of-self g c =
    let t = c.loop-row.self-inside in
    rw c.take_lost.ensures.bank
    (subst (λ (t : Inside g.row.B g.row.M g.row.E). IsClock (lost_taken t.bank) t.regs t.pace t.tick t.action t.arrivals.capacity) (sym c.loop-row.invariant.2)
    (lost-clock (drop 1 t.bank.lost) c.self.inside.bank c.self.inside.regs c.self.inside.pace c.self.inside.tick c.self.inside.arrivals.capacity c.self.inside.action c.self.invariant))

pub returns : goal.returns
returns g c =
    let t = c.loop-row.self-inside in
    let t0 = c.self.inside in
    let clock : ClockState g.row.B g.row.M g.row.E =
    record { bank = t0.bank; regs = t0.regs; pace = t0.pace; tick = t0.tick; action = t0.action; arrivals = t0.arrivals.items; cancels = t0.cancels; drained = t0.drained } in
    let taken : slice_get t.bank.lost 0 ≡ None = sym c.take_lost.ensures.row ∙ c.in_default.is in
    let none = lose-none t0.tick t.bank.lost (g.R.Outcomes.table c.loop-row.results) taken in
    let moved = ap (λ (t : Inside g.row.B g.row.M g.row.E). view_by (lost_taken t.bank) t.regs t.pace t.tick t.action t.arrivals.items t.cancels t.drained) c.loop-row.invariant.2 in
    let last = ap (λ (rows : List ℕ). with_lost (drop 1 rows) clock) none.0 in
    let holds = rw c.take_lost.ensures.bank at c.take_lost.ensures.holds in
    record {
      clock = rw (← c.self.view_is, c.take_lost.ensures.bank) (moved ∙ last);
      results = rw (← c.self.view_is) (sym none.1 ∙ c.loop-row.invariant.1);
      holds = rw (← c.self.view_is, c.take_lost.ensures.bank) (λ h array was. holds h array (c.loop-row.invariant.3 h array was));
      goes_on = c.loop-row.invariant.4;
    }

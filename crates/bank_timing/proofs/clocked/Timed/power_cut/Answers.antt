use Rattle.std.proofs.Common.{arith, ◌≡◌, ◌&&◌, not, None, false, List, [], ◌∷◌, length, is_some, ap, subst, refl}
use Rattle.bank_shape.specs.declared.clock.Doing.TheVariants.{Iterating}
use Rattle.bank_model.specs.{Changes.all_controls, Events.{BankEvent, Cut}, Timing.is_doing, Touching.Touches}
use Rattle.clock_laws.specs.{Cutting.after_cut, State.ClockState}
use Rattle.bank_invariant.specs.{Holds.Holds, Steps.cut_off}
use Rattle.reg_lines.specs.{Keeping.broken_off, Regs.AreHeld}
use Rattle.bank_timing.specs.Losing.{bank_with_lost, lost_recorded}
use Rattle.bank_timing.proofs.Losses.{meets, cut-ready, cut-change-ready, cut-open, cut-unset, cut-control, broken-control, cut-extends, cut-others, CutExtends, rows_of}
use Rattle.bank_timing.proofs.{Recovers.{IsHeld, held-readable, same-back}, Sizes.{bank_fits, regs_fits, timed_fits}, Views.clock_of, clocked.Timed.power_cut.Given.Over}
use Rattle.bank_timing.proofs.clocked.Timed.power_cut.Goals.{After-tears_change-change, After-lose, After-read_back}
use Rattle.bank_timing.proofs.clocked.Timed.power_cut.Goals as goal

-- which of the two line writes is torn, by the clock before
work-is : (g : Over) (c : After-tears_change-change g) → c.tears_work-work.result ≡ (is_doing Iterating c.self.inside.action && not (is_some c.self.inside.regs.change))
work-is g c = rw (c.is_some-stands.ensures, c.change.ensures) at c.tears_work-work.ensures

change-is : (g : Over) (c : After-tears_change-change g) → c.tears_change-change.result ≡ (is_doing Iterating c.self.inside.action && is_some c.self.inside.regs.change)
change-is g c = rw (c.is_some-stands.ensures, c.change.ensures) at c.tears_change-change.ensures

pub cut-requires : goal.cut-requires
cut-requires g c =
    let m = meets c.self.view_is c.self.invariant.fit c.requires.going.led c.requires.going.unset in
    (bank_fits c.self.invariant.layout, (ap length m.led.1.taken, (cut-ready m c.tears_work-work.result (work-is g (goal.at.cut-requires g c).After-tears_change-change), m.led.1.holds.tied)))

pub cut-requires-2 : goal.cut-requires-2
cut-requires-2 g c =
    let m = meets c.self.view_is c.self.invariant.fit c.requires.going.led c.requires.going.unset in
    let was = (goal.at.cut-requires-2 g c).After-tears_change-change in
    (regs_fits g.row.B g.row.M g.row.E c.self.invariant.layout, (cut-change-ready m c.tears_change-change.result (change-is g was), (cut-control m c.tears_work-work.result (work-is g was) c.cut.ensures.touches).held))

pub lose-requires : goal.lose-requires
lose-requires g c = (timed_fits g.row.B g.row.M g.row.E c.self.invariant.layout, rw c.cut.ensures.bank (cut-open (meets c.self.view_is c.self.invariant.fit c.requires.going.led c.requires.going.unset)))

-- the control lines hold what the bank keeps, also behind the cut of the change
stands : (g : Over) (c : After-lose g) → IsHeld {n = g.row.B} {m = g.row.M} {e = g.row.E} c.lose.new.self (g.A.CellArray.state c.cut-2.new.array)
stands g c =
    let work : c.tears_work-work.result ≡ (is_doing Iterating c.self.inside.action && not (is_some c.self.inside.regs.change)) = rw (c.is_some-stands.ensures, c.change.ensures) at c.tears_work-work.ensures in
    let change : c.tears_change-change.result ≡ (is_doing Iterating c.self.inside.action && is_some c.self.inside.regs.change) = rw (c.is_some-stands.ensures, c.change.ensures) at c.tears_change-change.ensures in
    let m = meets c.self.view_is c.self.invariant.fit c.requires.going.led c.requires.going.unset in
    let held : AreHeld (broken_off c.self.inside.regs) (g.A.CellArray.state c.cut-2.new.array) = rw c.cut-2.ensures.regs at c.cut-2.ensures.held in
    rw (c.lose.ensures.clock, c.cut.ensures.bank, c.cut-2.ensures.regs)
    (record {
      idle = refl;
      in_range = m.led.1.holds.kept;
      control = broken-control m c.tears_work-work.result work c.cut.ensures.touches c.tears_change-change.result change c.cut-2.ensures.touches held;
    })

pub read_back-requires : goal.read_back-requires
read_back-requires g c =
    let is = stands g (goal.at.read_back-requires g c).After-lose in
    let readable = held-readable c.lose.new.self (g.A.CellArray.state c.cut-2.new.array) is in (
      timed_fits g.row.B g.row.M g.row.E c.self.invariant.layout,
      (
        rw (c.lose.ensures.clock, c.cut.ensures.bank) refl,
        (rw (c.lose.ensures.clock, c.cut.ensures.bank) refl, (rw c.lose.ensures.clock refl, (rw c.lose.ensures.clock refl, (λ home. (c.lose.new.self.bank.kept, readable home))))),
      ),
    )

-- a bank of which a history holds is one of which the history with the cut holds, once its lost reads are taken
holds_on : (g : Over) (c : After-lose g) (h : List (BankEvent g.row.B)) → Holds h c.self.inside.bank (g.A.CellArray.state c.args.array.now)
    → Holds (Cut c.tears_work-work.result ∷ h) (bank_with_lost [] (cut_off c.self.inside.bank)) (g.A.CellArray.state c.cut.new.array)
holds_on g c h was =
    let lost = rw (c.lose.ensures.clock, c.cut.ensures.bank) at c.lose.ensures.holds in
    let holds = rw c.cut.ensures.bank at c.cut.ensures.holds in
    lost (Cut c.tears_work-work.result ∷ h) (g.A.CellArray.state c.cut.new.array) (holds h was)

-- the control lines are sensed at the tick of the cut
third : (g : Over) (c : After-read_back g) → Touches c.self.inside.tick (all_controls c.self.inside.bank.kept.shape) None false (g.A.CellArray.state c.cut-2.new.array) (g.A.CellArray.state c.read_back.new.array)
third g c = rw (c.lose.ensures.clock, c.cut.ensures.bank) at c.read_back.ensures.touches

pub returns-clause-extends : goal.returns-clause-extends
returns-clause-extends g c =
    let clock : ClockState g.row.B g.row.M g.row.E = clock_of c.self.inside in
    let was = (goal.at.returns-clause-extends g c).After-tears_change-change in
    let held : AreHeld (broken_off c.self.inside.regs) (g.A.CellArray.state c.cut-2.new.array) = rw c.cut-2.ensures.regs at c.cut-2.ensures.held in
    let back = same-back c.lose.new.self c.read_back.new.self (g.A.CellArray.state c.cut-2.new.array) (stands g (goal.at.returns-clause-extends g c).After-lose) c.read_back.ensures.guarded c.read_back.ensures.back in
    rw (c.lose.ensures.results, back, c.lose.ensures.clock, c.cut.ensures.bank, c.cut-2.ensures.regs)
    (subst (λ (now : ClockState g.row.B g.row.M g.row.E). CutExtends now (after_cut clock (bank_with_lost [] (cut_off clock.bank))) (g.A.CellArray.state c.args.array.now) (g.A.CellArray.state c.read_back.new.array)
    (g.R.Outcomes.table c.args.results.now) (lost_recorded clock.tick (rows_of clock.bank.waiting) (g.R.Outcomes.table c.args.results.now))) c.self.view_is
    (cut-extends (meets c.self.view_is c.self.invariant.fit c.requires.going.led c.requires.going.unset) c.tears_work-work.result (work-is g was) c.cut.ensures.touches c.tears_change-change.result (change-is g was) c.cut-2.ensures.touches held
    (third g (goal.at.returns-clause-extends g c).After-read_back) (holds_on g (goal.at.returns-clause-extends g c).After-lose) c.cut.ensures.torn c.cut-2.ensures.torn))

pub change-requires : goal.change-requires
change-requires g c = regs_fits g.row.B g.row.M g.row.E c.self.invariant.layout

pub tears_work-work-requires : goal.tears_work-work-requires
tears_work-work-requires g c = tt

pub tears_change-change-requires : goal.tears_change-change-requires
tears_change-change-requires g c = tt

pub invariant_of-self : goal.invariant_of-self
invariant_of-self g c = grind arith

pub returns-clause-kept : goal.returns-clause-kept
returns-clause-kept g c =
    let back = same-back c.lose.new.self c.read_back.new.self (g.A.CellArray.state c.cut-2.new.array) (stands g (goal.at.returns-clause-kept g c).After-lose) c.read_back.ensures.guarded c.read_back.ensures.back in
    rw (back, c.lose.ensures.clock, c.cut.ensures.bank, ← c.self.view_is) refl

pub returns-clause-regs : goal.returns-clause-regs
returns-clause-regs g c =
    let back = same-back c.lose.new.self c.read_back.new.self (g.A.CellArray.state c.cut-2.new.array) (stands g (goal.at.returns-clause-regs g c).After-lose) c.read_back.ensures.guarded c.read_back.ensures.back in
    rw (back, c.lose.ensures.clock, c.cut-2.ensures.regs, ← c.self.view_is) refl

pub returns-clause-goes_on : goal.returns-clause-goes_on
returns-clause-goes_on g c = c.lose.ensures.goes_on

pub returns-clause-ran : goal.returns-clause-ran
returns-clause-ran g c =
    let m = meets c.self.view_is c.self.invariant.fit c.requires.going.led c.requires.going.unset in
    let was = (goal.at.returns-clause-ran g c).After-tears_change-change in
    let held : AreHeld (broken_off c.self.inside.regs) (g.A.CellArray.state c.cut-2.new.array) = rw c.cut-2.ensures.regs at c.cut-2.ensures.held in
    let back = same-back c.lose.new.self c.read_back.new.self (g.A.CellArray.state c.cut-2.new.array) (stands g (goal.at.returns-clause-ran g c).After-lose) c.read_back.ensures.guarded c.read_back.ensures.back in
    rw (c.lose.ensures.results, back, c.lose.ensures.clock, c.cut.ensures.bank, ← c.self.view_is)
    (record {
      now = refl;
      drained = refl;
      rows = refl;
      unset = cut-unset m;
      others = cut-others m c.tears_work-work.result (work-is g was) c.cut.ensures.touches c.tears_change-change.result (change-is g was) c.cut-2.ensures.touches held
          (third g (goal.at.returns-clause-ran g c).After-read_back) (holds_on g (goal.at.returns-clause-ran g c).After-lose) c.cut.ensures.torn c.cut-2.ensures.torn;
    })

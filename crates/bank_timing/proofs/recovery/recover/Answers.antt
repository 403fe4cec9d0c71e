use Rattle.std.proofs.Common.{◌≡◌, None, false, sym, ap, subst, ◌∙◌}
use Rattle.cell_rows.specs.Device.{ArrayState}
use Rattle.bank_model.specs.{Changes.all_controls, Touching.Touches}
use Rattle.bank_invariant.{specs.State.BankState, specs.Tied.IsTied, proofs.Awaiting.{StandsAs-touched, tied_sensed}}
use Rattle.power_recovery.specs.Kept.{KeptState}
use Rattle.bank_core.specs.Stepping.{with_kept}
use Rattle.register_laws.specs.Recovering.{IsReadable, IsOnLines}
use Rattle.bank_timing.{specs.Reading.{spares_back, mark_back}, proofs.Sensing.{on-after, touches-all}, proofs.Sizes.{bank_fits, regs_fits}, proofs.recovery.recover.Given.Over}
use Rattle.bank_timing.proofs.recovery.recover.Goals.{After-recover_regions, After-recover_spares}
use Rattle.bank_timing.proofs.recovery.recover.Goals as goal

-- with the regions read back, the lines still hold what was kept
regions : (g : Over) (c : After-recover_regions g) (kept : KeptState g.row.B)
    → IsReadable {n = g.row.B} {m = g.row.M} {e = g.row.E} kept c.args.bank.now.kept c.args.regs.now (g.A.CellArray.state c.args.array.now)
    → (c.recover_regions.new.bank.kept ≡ spares_back 0 kept) × IsOnLines {n = g.row.B} {m = g.row.M} {e = g.row.E} kept c.args.regs.now (g.A.CellArray.state c.recover_regions.new.array)
regions g c kept readable = (
  ap (λ (b : BankState g.row.B g.row.M g.row.E). b.kept) (c.recover_regions.ensures.kept kept readable),
  on-after kept c.args.regs.now c.args.tick _ (g.A.CellArray.state c.args.array.now) (g.A.CellArray.state c.recover_regions.new.array)
      readable.lines c.recover_regions.ensures.touches,
)

-- and with the spares
spares : (g : Over) (c : After-recover_spares g) (kept : KeptState g.row.B) → c.recover_regions.new.bank.kept ≡ spares_back 0 kept
    → IsOnLines {n = g.row.B} {m = g.row.M} {e = g.row.E} kept c.args.regs.now (g.A.CellArray.state c.recover_regions.new.array)
    → (c.recover_spares.new.bank.kept ≡ mark_back kept) × IsOnLines {n = g.row.B} {m = g.row.M} {e = g.row.E} kept c.args.regs.now (g.A.CellArray.state c.recover_spares.new.array)
spares g c kept is on = (
  ap (λ (b : BankState g.row.B g.row.M g.row.E). b.kept) (c.recover_spares.ensures.kept kept is on),
  on-after kept c.args.regs.now c.args.tick _ (g.A.CellArray.state c.recover_regions.new.array) (g.A.CellArray.state c.recover_spares.new.array) on c.recover_spares.ensures.touches,
)

pub recover_spares-requires : goal.recover_spares-requires
recover_spares-requires g c =
    let kept = c.requires.readable.0 in
    let now = regions g (goal.at.recover_spares-requires g c).After-recover_regions kept c.requires.readable.1 in (
      bank_fits c.requires.layout,
      (regs_fits g.row.B g.row.M g.row.E c.requires.layout, (c.requires.layout, (kept, now.0, now.1))),
    )

pub recover_mark-requires : goal.recover_mark-requires
recover_mark-requires g c =
    let kept = c.requires.readable.0 in
    let first = regions g (goal.at.recover_mark-requires g c).After-recover_regions kept c.requires.readable.1 in
    let now = spares g (goal.at.recover_mark-requires g c).After-recover_spares kept first.0 first.1 in (
      bank_fits c.requires.layout,
      (regs_fits g.row.B g.row.M g.row.E c.requires.layout, (c.requires.layout, (kept, now.0, now.1))),
    )

pub returns-clause-kept : goal.returns-clause-kept
returns-clause-kept g c = λ kept readable.
    let first = regions g (goal.at.returns-clause-kept g c).After-recover_regions kept readable in
    let second = spares g (goal.at.returns-clause-kept g c).After-recover_spares kept first.0 first.1 in
    c.recover_mark.ensures.kept kept second.0 second.1
    ∙ ap (λ (b : BankState g.row.B g.row.M g.row.E). with_kept b kept) (c.recover_spares.ensures.kept kept first.0 first.1)
    ∙ ap (λ (b : BankState g.row.B g.row.M g.row.E). with_kept b kept) (c.recover_regions.ensures.kept kept readable)

pub returns-clause-touches : goal.returns-clause-touches
returns-clause-touches g c =
    let kept = c.requires.readable.0 in
    let readable = c.requires.readable.1 in
    let first = regions g (goal.at.returns-clause-touches g c).After-recover_regions kept readable in
    let second = spares g (goal.at.returns-clause-touches g c).After-recover_spares kept first.0 first.1 in
    touches-all kept c.args.regs.now c.args.bank.now.kept.shape c.recover_regions.new.bank.kept.shape c.recover_spares.new.bank.kept.shape c.args.tick
    (g.A.CellArray.state c.args.array.now) (g.A.CellArray.state c.recover_regions.new.array) (g.A.CellArray.state c.recover_spares.new.array) (g.A.CellArray.state c.recover_mark.new.array)
    readable.lines
    (ap (λ (k : KeptState g.row.B). k.shape) readable.stripped) (ap (λ (k : KeptState g.row.B). k.shape) first.0) (ap (λ (k : KeptState g.row.B). k.shape) second.0)
    c.recover_regions.ensures.touches c.recover_spares.ensures.touches c.recover_mark.ensures.touches

pub returns-clause-tied : goal.returns-clause-tied
returns-clause-tied g c = λ kept readable tied.
    let after : ArrayState g.row.B g.row.M = g.A.CellArray.state c.recover_mark.new.array in
    let touches : Touches c.args.tick (all_controls c.args.bank.now.kept.shape) None false (g.A.CellArray.state c.args.array.now) after = returns-clause-touches g c in
    subst (λ (b : BankState g.row.B g.row.M g.row.E). IsTied b after) (sym (returns-clause-kept g c kept readable))
    (tied_sensed g.row.E (g.A.CellArray.state c.args.array.now) after (StandsAs-touched c.args.tick _ (g.A.CellArray.state c.args.array.now) after touches) kept c.args.bank.now.running c.args.bank.now.waiting tied)

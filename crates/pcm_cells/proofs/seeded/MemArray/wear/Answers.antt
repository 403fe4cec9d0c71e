use Rattle.std.proofs.Common.{◌≡◌, ◌<◌, ◌≤◌, ◌∙◌, rules, sym, subst, ap, arith, length, set, refl, List, Option, Some}
use Rattle.std.specs.{Option.option_map, Prelude.IfSome}
use Rattle.cell_rows.specs.{Energy.with_pulse, declared.array.LineEnergy.LineEnergy, declared.array.Wear.Wear}
use Rattle.pcm_cells.{specs.Endurance.{AreBounded, IsInRange}, specs.Seeded.{SeededArray, bounds_of, seeded_state}, proofs.EnduranceLemmas.bounded_kept}
use Rattle.pcm_cells.proofs.{EnergyLemmas.{counts-line, counts-written, energy-changed}, SeededLemmas.wears_lines}
use Rattle.pcm_cells.proofs.seeded.MemArray.wear.Goals as goal
use Rattle.line_pages.{specs.Counting.energy_at, specs.Paging.{seeded_lines, seeded_wear, lines_seen}, proofs.PagingLemmas.lines_size}

pub unreachable-requires : goal.unreachable-requires
unreachable-requires g c =
    let none : length c.args.self.now.lines ≡ 0 = ap (λ a. length a.lines) (sym c.self.view_is) ∙ ap (λ o. length (seeded_lines o)) c.in_default.is in
    absurd (omega (arith, c.requires.exists, none))

pub wear-requires : goal.wear-requires
wear-requires g c =
    let is : length c.args.self.now.lines ≡ length c.in-Some.lines.grown =
    ap (λ a. length a.lines) (sym c.self.view_is) ∙ ap (λ o. length (seeded_lines o)) c.in-Some.is ∙ lines_size c.in-Some.lines in
    let few_bytes : g.row.B ≤ 128 = c.requires.shape.1 in
    let few_check : g.row.M ≤ 16 = c.requires.shape.3 in
    (search rules, (search rules, (omega (arith, c.requires.exists, is), (c.requires.shape, c.self.invariant.1))))

pub returns-clause-wears : goal.returns-clause-wears
returns-clause-wears g c =
    let old = c.in-Some.lines in
    let before : c.args.self.now.lines ≡ lines_seen old = ap (λ a. a.lines) (sym c.self.view_is) ∙ ap seeded_lines c.in-Some.is in
    wears_lines c.args.line c.args.tearing c.args.mask.now c.args.want.now old c.wear.new.self c.args.self.now _ before refl
    (omega (arith, c.requires.exists, ap length before, lines_size old))
    c.wear.ensures.cells c.wear.ensures.pulses c.wear.ensures.others c.wear.ensures.lines

-- what the cells keep to, as the array is seen
pub returns-clause-range : goal.returns-clause-range
returns-clause-range g c = subst (λ (a : SeededArray g.row.B g.row.M). IsInRange (bounds_of a.wear)) c.self.view_is c.self.invariant.2

pub returns-clause-bounded : goal.returns-clause-bounded
returns-clause-bounded g c =
    let old = c.in-Some.lines in
    let bounds = bounds_of c.args.self.now.wear in
    let range : IsInRange bounds = subst (λ (a : SeededArray g.row.B g.row.M). IsInRange (bounds_of a.wear)) c.self.view_is c.self.invariant.2 in
    let here : AreBounded bounds c.args.self.now.lines = subst (λ (a : SeededArray g.row.B g.row.M). AreBounded (bounds_of a.wear) a.lines) c.self.view_is c.self.invariant.3 in
    let before : c.args.self.now.lines ≡ lines_seen old = ap (λ a. a.lines) (sym c.self.view_is) ∙ ap seeded_lines c.in-Some.is in
    let new : SeededArray g.row.B g.row.M = record { lines = lines_seen c.wear.new.self; tears = c.self.inside.tears; wear = Some old.wear; energies = c.drive.new.self } in
    bounded_kept bounds c.args.line c.args.tearing c.args.mask.now c.args.want.now c.args.self.now new range.endures
    (wears_lines c.args.line c.args.tearing c.args.mask.now c.args.want.now old c.wear.new.self c.args.self.now new before refl
    (omega (arith, c.requires.exists, ap length before, lines_size old))
    c.wear.ensures.cells c.wear.ensures.pulses c.wear.ensures.others c.wear.ensures.lines)
    here

pub invariant_of-self : goal.invariant_of-self
invariant_of-self g c =
    let old = c.in-Some.lines in
    let bounds = bounds_of (seeded_wear c.self.inside.lines) in
    let wear : seeded_wear c.self.inside.lines ≡ Some c.wear.new.self.wear = ap seeded_wear c.in-Some.is ∙ ap Some (sym c.wear.ensures.wear) in
    let lines : seeded_lines c.self.inside.lines ≡ c.args.self.now.lines = ap (λ a. a.lines) c.self.view_is in
    let before : c.args.self.now.lines ≡ lines_seen old = sym lines ∙ ap seeded_lines c.in-Some.is in
    let new : SeededArray g.row.B g.row.M = record { lines = lines_seen c.wear.new.self; tears = c.self.inside.tears; wear = Some old.wear; energies = c.drive.new.self } in (
      c.self.invariant.0,
      c.self.invariant.1,
      subst (λ (w : Option Wear). IsInRange (bounds_of w)) wear c.self.invariant.2,
      subst (λ (w : Option Wear). AreBounded (bounds_of w) new.lines) wear
          (bounded_kept bounds c.args.line c.args.tearing c.args.mask.now c.args.want.now c.args.self.now new c.self.invariant.2.endures
          (wears_lines c.args.line c.args.tearing c.args.mask.now c.args.want.now old c.wear.new.self c.args.self.now new before refl
          (omega (arith, c.requires.exists, ap length before, lines_size old))
          c.wear.ensures.cells c.wear.ensures.pulses c.wear.ensures.others c.wear.ensures.lines)
          (subst (AreBounded bounds) lines c.self.invariant.3)),
      counts-written c.self.inside.energies c.drive.new.self c.args.line (length (seeded_lines c.self.inside.lines)) (length new.lines) (with_pulse c.args.mask.now c.args.want.now) c.drive.ensures
          c.self.invariant.4 (lines_size c.wear.new.self ∙ c.wear.ensures.lines ∙ sym (lines_size old) ∙ sym (ap (λ o. length (seeded_lines o)) c.in-Some.is)),
    )

pub returns-clause-wear : goal.returns-clause-wear
returns-clause-wear g c =
    ap Some c.wear.ensures.wear ∙ sym (ap seeded_wear c.in-Some.is) ∙ ap (λ (a : SeededArray g.row.B g.row.M). a.wear) c.self.view_is

pub drive-requires : goal.drive-requires
drive-requires g c =
    let is : length c.args.self.now.lines ≡ length (seeded_lines c.self.inside.lines) = ap (λ (a : SeededArray g.row.B g.row.M). length a.lines) (sym c.self.view_is) in
    let few_bytes : g.row.B ≤ 128 = c.requires.shape.1 in
    let few_check : g.row.M ≤ 16 = c.requires.shape.3 in
    (search rules, (counts-line c.self.inside.energies c.args.line _ c.self.invariant.4 (omega (arith, c.requires.exists, is)), c.requires.shape))

pub returns-clause-energy : goal.returns-clause-energy
returns-clause-energy g c =
    let now = c.args.self.now in
    let is : length now.lines ≡ length (seeded_lines c.self.inside.lines) = ap (λ (a : SeededArray g.row.B g.row.M). length a.lines) (sym c.self.view_is) in
    let energies : c.self.inside.energies ≡ now.energies = ap (λ (a : SeededArray g.row.B g.row.M). a.energies) c.self.view_is in
    energy-changed (seeded_state now) _ now.energies c.drive.new.self c.args.line (with_pulse c.args.mask.now c.args.want.now) refl (λ energy. refl)
    (subst (λ kept. IfSome kept (λ energies. c.args.line < length energies)) energies
    (counts-line c.self.inside.energies c.args.line _ c.self.invariant.4 (omega (arith, c.requires.exists, is))))
    (c.drive.ensures ∙ ap (option_map (λ (xs : List (Option LineEnergy)). set xs c.args.line (with_pulse c.args.mask.now c.args.want.now (Some (energy_at xs c.args.line))))) energies)
    (λ n. refl) (λ n. refl)

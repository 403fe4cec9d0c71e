use Rattle.std.proofs.Common.{◌≡◌, ◌<◌, ◌≤◌, ◌∙◌, rules, refl, sym, ap, subst, arith, length, get_or, set, List, Option, Some}
use Rattle.std.{specs.Option.option_map, specs.Prelude.IfSome, proofs.lemmas.Option.none-some}
use Rattle.cell_rows.specs.{Energy.with_sense, declared.array.LineEnergy.LineEnergy}
use Rattle.line_pages.{specs.Counting.energy_at, specs.Paging.seeded_lines, proofs.PagingLemmas.{lines_size, lines_at}}
use Rattle.pcm_cells.{specs.Seeded.{SeededArray, bounds_of, life_state, seeded_line, seeded_state}, proofs.EnergyLemmas.{counts-line, counts-written, energy-changed}}
use Rattle.pcm_cells.proofs.seeded.MemArrayCellArray.sense.Goals as goal
use Rattle.seeded_lines.specs.Seeded.{lifeless}

pub held-requires : goal.held-requires
held-requires g c =
    let exists = c.requires.exists in
    let shape = c.requires.shape in
    let few_bytes : g.row.B ≤ 128 = shape.1 in
    let few_check : g.row.M ≤ 16 = shape.3 in
    let is : length c.args.self.now.lines ≡ length c.in-Some.lines.grown =
    ap (λ a. length a.lines) (sym c.self.view_is) ∙ ap (λ o. length (seeded_lines o)) c.in-Some.is ∙ lines_size c.in-Some.lines in
    (search rules, (search rules, (omega (arith, exists, is), shape)))

pub returns-clause-cells : goal.returns-clause-cells
returns-clause-cells g c =
    let p = c.in-Some.lines in
    let lines : c.args.self.now.lines ≡ seeded_lines c.self.inside.lines = ap (λ a. a.lines) (sym c.self.view_is) in
    let is = lines ∙ ap seeded_lines c.in-Some.is in
    let within : c.args.line < length p.grown = omega (arith, c.requires.exists, ap length is, lines_size p) in
    c.held.ensures
    ∙ sym (ap (λ xs. (get_or xs c.args.line (lifeless g.row.B g.row.M)).line.held) is ∙ ap (λ l. l.line.held) (lines_at p c.args.line (lifeless g.row.B g.row.M) within))

pub sense-requires : goal.sense-requires
sense-requires g c =
    let is : length c.args.self.now.lines ≡ length (seeded_lines c.self.inside.lines) = ap (λ (a : SeededArray g.row.B g.row.M). length a.lines) (sym c.self.view_is) in
    counts-line c.self.inside.energies c.args.line _ c.self.invariant.4 (omega (arith, c.requires.exists, is))

pub returns-clause-step : goal.returns-clause-step
returns-clause-step g c =
    let now = c.args.self.now in
    let same = c.self.view_is in
    let is : length now.lines ≡ length (seeded_lines c.self.inside.lines) = ap (λ (a : SeededArray g.row.B g.row.M). length a.lines) (sym same) in
    let energies : c.self.inside.energies ≡ now.energies = ap (λ (a : SeededArray g.row.B g.row.M). a.energies) same in
    record {
      line = λ n. ap (λ (a : SeededArray g.row.B g.row.M). life_state (bounds_of a.wear) (seeded_line a n)) same;
      lines = sym is;
      tears = ap (λ (a : SeededArray g.row.B g.row.M). a.tears) same;
      log = λ after told. absurd (none-some after told);
      wear = ap (λ (a : SeededArray g.row.B g.row.M). a.wear) same;
      bounds = ap (λ (a : SeededArray g.row.B g.row.M). bounds_of a.wear) same;
      energy =
          energy-changed (seeded_state now) _ now.energies c.sense.new.self c.args.line with_sense refl (λ energy. refl)
          (subst (λ kept. IfSome kept (λ xs. c.args.line < length xs)) energies
          (counts-line c.self.inside.energies c.args.line _ c.self.invariant.4 (omega (arith, c.requires.exists, is))))
          (c.sense.ensures ∙ ap (option_map (λ (xs : List (Option LineEnergy)). set xs c.args.line (with_sense (Some (energy_at xs c.args.line))))) energies)
          (λ n. refl) (λ n. refl);
    }

pub invariant_of-self : goal.invariant_of-self
invariant_of-self g c =
    let lines = length (seeded_lines c.self.inside.lines) in (
      c.self.invariant.0,
      c.self.invariant.1,
      c.self.invariant.2,
      c.self.invariant.3,
      counts-written c.self.inside.energies c.sense.new.self c.args.line lines lines with_sense c.sense.ensures c.self.invariant.4 refl,
    )

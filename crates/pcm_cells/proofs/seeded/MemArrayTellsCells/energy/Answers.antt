use Rattle.std.proofs.Common.{◌≡◌, ◌∙◌, sym, ap, arith, length}
use Rattle.pcm_cells.{specs.Energies.energy_told, specs.Seeded.SeededArray, proofs.EnergyLemmas.counts-line}
use Rattle.pcm_cells.proofs.seeded.MemArrayTellsCells.energy.Goals as goal
use Rattle.line_pages.specs.Paging.{seeded_lines}

pub at-requires : goal.at-requires
at-requires g c =
    let is : length c.args.self.now.lines ≡ length (seeded_lines c.self.inside.lines) = ap (λ (a : SeededArray g.row.B g.row.M). length a.lines) (sym c.self.view_is) in
    counts-line c.self.inside.energies c.args.line _ c.self.invariant.4 (omega (arith, c.requires, is))

pub returns : goal.returns
returns g c = c.at.ensures ∙ ap (λ (a : SeededArray g.row.B g.row.M). energy_told a.energies c.args.line) c.self.view_is

use Rattle.std.proofs.Common.{◌+◌, ◌*◌, ◌∙◌, ap}
use Rattle.seeded_lines.{specs.Seeded.{seeded, seeded_cell}, proofs.FollowsLemmas.followed_all, proofs.SizeLemmas.{line_fits, row_fits}}
use Rattle.seeded_lines.proofs.seeded.SeededLine.wear.Goals as goal
use Rattle.cell_rows.specs.{Device.counted, Rows.cell}

pub returns-clause-cells : goal.returns-clause-cells
returns-clause-cells g c n =
    let all = followed_all (8 * (g.row.B + g.row.M)) (cell c.args.mask.now) (seeded c.args.tearing (cell c.args.want.now))
    (seeded_cell c.args.self.now) (seeded_cell c.wear_cells.new.self) c.wear_cells.ensures.cells
    c.has_end.ensures n in
    ap (λ s. seeded_cell s n) c.self.view_is ∙ all

pub has_end-requires : goal.has_end-requires
has_end-requires g c = row_fits c.requires.shape

pub wear_cells-requires : goal.wear_cells-requires
wear_cells-requires g c = (line_fits c.requires.shape, (row_fits c.requires.shape, (c.requires.shape, c.requires.whole)))

pub saturating_add-self-inside-requires : goal.saturating_add-self-inside-requires
saturating_add-self-inside-requires g c = tt

pub invariant_of-self : goal.invariant_of-self
invariant_of-self g c = c.self.invariant

pub returns-clause-pulses : goal.returns-clause-pulses
returns-clause-pulses g c =
    c.saturating_add-self-inside.ensures ∙ ap counted (ap (λ s. s.line.pulses) c.self.view_is ∙ c.wear_cells.ensures.pulses)

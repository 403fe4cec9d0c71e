use Rattle.std.proofs.Common.{◌+◌, ◌*◌, ◌∙◌, arith}
use Rattle.cell_rows.specs.Rows.{cell}
use Rattle.seeded_lines.{specs.Young.{aging, young_cell}, proofs.FollowsLemmas.followed_all, proofs.SizeLemmas.row_fits}
use Rattle.seeded_lines.proofs.aging.wear_page.Goals as goal

pub wear_cells-requires : goal.wear_cells-requires
wear_cells-requires g c = (row_fits c.requires.shape, (c.requires.shape, (c.requires.whole, c.requires.young)))

pub count_pulse-requires : goal.count_pulse-requires
count_pulse-requires g c = omega (arith, c.wear_cells.ensures.pulses, c.requires.young.pulses)

pub returns-clause-cells : goal.returns-clause-cells
returns-clause-cells g c n =
    let young = g.P.YoungPage.young in
    c.count_pulse.ensures.cells n
    ∙ followed_all (8 * (g.row.B + g.row.M)) (cell c.args.mask.now) (aging c.args.tearing (cell c.args.want.now)) (young_cell (young c.args.page.now)) (young_cell (young c.wear_cells.new.page))
    c.wear_cells.ensures.cells c.has_end.ensures n

pub returns-clause-pulses : goal.returns-clause-pulses
returns-clause-pulses g c = omega (arith, c.count_pulse.ensures.pulses, c.wear_cells.ensures.pulses)

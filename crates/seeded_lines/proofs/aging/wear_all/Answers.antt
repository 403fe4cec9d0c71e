use Rattle.std.proofs.Common.{ℕ, ◌+◌, ◌*◌, ◌/◌, ◌≤◌, ◌∙◌, ap, arith}
use Rattle.cell_rows.specs.Rows.{cell}
use Rattle.seeded_lines.{specs.Young.{YoungCell, aging, young_cell}, proofs.FollowsLemmas.followed_group}
use Rattle.seeded_lines.proofs.SizeLemmas.{blocks_all, blocks_within, cells_first, data_first, data_within, from_first, groups_fit, row_fits}
use Rattle.seeded_lines.proofs.aging.wear_all.Goals as goal

same : (n : ℕ) → n ≤ n
same n = omega arith

pub wear_in-requires : goal.wear_in-requires
wear_in-requires g c =
    let shape = c.requires.shape in
    (row_fits shape, (from_first _, (data_within g.row.B g.row.M, (shape, (c.requires.whole, (λ n from. c.requires.few n, λ is n from. c.requires.fewer is n))))))

pub wear_in-requires-2 : goal.wear_in-requires-2
wear_in-requires-2 g c =
    let shape = c.requires.shape in (
      row_fits shape,
      (
        data_first g.row.B g.row.M,
        (
          blocks_within g.row.B g.row.M,
          (
            shape,
            (
              c.requires.whole,
              (
                λ n from. omega (arith, c.requires.few n, ap (λ (x : YoungCell). x.changes) (c.wear_in.ensures.cells.above n from)),
                λ is n from. omega (arith, c.requires.fewer is n, ap (λ (x : YoungCell). x.changes) (c.wear_in.ensures.cells.above n from)),
              ),
            ),
          ),
        ),
      ),
    )

pub overflow_add-wear_in : goal.overflow_add-wear_in
overflow_add-wear_in g c = groups_fit c.requires.shape

pub returns-clause-cells : goal.returns-clause-cells
returns-clause-cells g c =
    let young = g.P.YoungPage.young in
    let bits : ℕ = g.row.B / 8 in
    let all : ℕ = (g.row.B + g.row.M) / 8 in
    let first = data_first g.row.B g.row.M in
    rw (← blocks_all g.row.B g.row.M all c.requires.whole (same all) (same all))
    (followed_group 0 (64 * bits) (64 * all) (cell c.args.mask.now) (aging c.args.tearing (cell c.args.want.now))
    _ (young_cell (young c.wear_in.new.page)) _ c.wear_in.ensures.cells c.wear_in-2.ensures.cells (from_first _) (cells_first bits all first))

pub returns-clause-pulses : goal.returns-clause-pulses
returns-clause-pulses g c = c.wear_in-2.ensures.pulses ∙ c.wear_in.ensures.pulses

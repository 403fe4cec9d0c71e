use Rattle.std.proofs.Common.{ℕ, ◌+◌, ◌*◌, ◌/◌, ◌≤◌, arith}
use Rattle.cell_rows.specs.Rows.{cell}
use Rattle.seeded_lines.{specs.Seeded.{seeded, seeded_cell, life_of}, proofs.FollowsLemmas.followed_group}
use Rattle.seeded_lines.proofs.SizeLemmas.{blocks_all, blocks_within, cells_first, data_first, data_within, from_first, groups_fit, moving_fits, row_fits, settled_fits}
use Rattle.seeded_lines.proofs.calm.wear_calm.Goals as goal

same : (n : ℕ) → n ≤ n
same n = omega arith

pub wear_calm_in-requires : goal.wear_calm_in-requires
wear_calm_in-requires g c =
    let shape = c.requires.shape in (
      moving_fits shape,
      (
        settled_fits shape,
        (
          row_fits shape,
          (from_first _, (data_within g.row.B g.row.M, (shape, (c.requires.whole, (c.requires.many, λ n from. c.requires.few n))))),
        ),
      ),
    )

pub overflow_add-wear_calm_in : goal.overflow_add-wear_calm_in
overflow_add-wear_calm_in g c = groups_fit c.requires.shape

pub wear_calm_in-requires-2 : goal.wear_calm_in-requires-2
wear_calm_in-requires-2 g c =
    let shape = c.requires.shape in (
      moving_fits shape,
      (
        settled_fits shape,
        (
          row_fits shape,
          (
            data_first g.row.B g.row.M,
            (
              blocks_within g.row.B g.row.M,
              (
                shape,
                (
                  c.requires.whole,
                  (
                    c.requires.many,
                    λ n from low masked. rw (c.wear_calm_in.ensures.others n from) (c.requires.few n low masked),
                  ),
                ),
              ),
            ),
          ),
        ),
      ),
    )

pub returns : goal.returns
returns g c =
    let bits : ℕ = g.row.B / 8 in
    let all : ℕ = (g.row.B + g.row.M) / 8 in
    let first = data_first g.row.B g.row.M in
    rw (← blocks_all g.row.B g.row.M all c.requires.whole (same all) (same all))
    (followed_group 0 (64 * bits) (64 * all) (cell c.args.mask.now) (seeded c.args.tearing (cell c.args.want.now))
    _ (seeded_cell (life_of c.wear_calm_in.new.moving c.args.settled.now)) _ c.wear_calm_in.ensures.cells c.wear_calm_in-2.ensures.cells (from_first _) (cells_first bits all first))

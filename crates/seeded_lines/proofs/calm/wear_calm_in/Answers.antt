use Rattle.std.proofs.Common.{◌≡◌, ◌+◌, ◌*◌, ◌∙◌, arith}
use Rattle.cell_rows.specs.Rows.{cell}
use Rattle.seeded_lines.{specs.Seeded.{seeded, seeded_cell, life_of}, proofs.FollowsLemmas.followed_group}
use Rattle.seeded_lines.proofs.calm.wear_calm_in.Goals as goal

pub loop-block-preserved : goal.loop-block-preserved
loop-block-preserved g c =
    let i = c.loop-block.invariant in
    let block = c.loop-block.block in
    let next : 64 * (block + 1) ≡ 64 * block + 64 = omega arith in
    record {
      order = omega (arith, i.order);
      cells =
          rw (next)
          (followed_group (64 * c.args.from) (64 * block) (64 * block + 64) (cell c.args.mask.now) (seeded c.args.tearing (cell c.args.want.now))
          (seeded_cell (life_of c.args.moving.now c.args.settled.now))
          (seeded_cell (life_of c.loop-block.moving c.args.settled.now))
          _ i.cells c.wear_calm_block.ensures.cells (omega (arith, i.order)) (omega arith));
      others = λ n h. c.wear_calm_block.ensures.others n (λ e. absurd (omega arith)) ∙ i.others n (omega arith);
    }

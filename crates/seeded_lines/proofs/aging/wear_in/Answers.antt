use Rattle.std.proofs.Common.{◌≡◌, ◌+◌, ◌*◌, ◌∙◌, arith}
use Rattle.cell_rows.specs.Rows.{cell}
use Rattle.seeded_lines.{specs.Young.{aging, young_cell}, proofs.FollowsLemmas.followed_group}
use Rattle.seeded_lines.proofs.aging.wear_in.Goals as goal

pub loop-block-preserved : goal.loop-block-preserved
loop-block-preserved g c =
    let young = g.P.YoungPage.young in
    let i = c.loop-block.invariant in
    let block = c.loop-block.block in
    let next : 64 * (block + 1) ≡ 64 * block + 64 = omega arith in
    record {
      order = omega (arith, i.order);
      cells =
          rw (next)
          (followed_group (64 * c.args.from) (64 * block) (64 * block + 64) (cell c.args.mask.now) (aging c.args.tearing (cell c.args.want.now))
          (young_cell (young c.args.page.now)) (young_cell (young c.loop-block.page)) _ i.cells c.wear_block.ensures.cells (omega (arith, i.order)) (omega arith));
      pulses = c.wear_block.ensures.pulses ∙ i.pulses;
    }

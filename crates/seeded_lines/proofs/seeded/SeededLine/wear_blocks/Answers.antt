use Rattle.std.proofs.Common.{◌≡◌, ◌+◌, ◌*◌, ◌∙◌, refl, ap, arith}
use Rattle.seeded_lines.{specs.Seeded.{seeded, seeded_cell}, proofs.BlockLemmas.block_clear, proofs.FollowsLemmas.{followed_none, followed_group, followed_clear}}
use Rattle.seeded_lines.proofs.{SizeLemmas.{block_exists, blocks_all, groups_fit, line_fits, row_fits}, seeded.SeededLine.wear_blocks.Goals.{then-block-ne0, else-block-ne0}}
use Rattle.seeded_lines.proofs.seeded.SeededLine.wear_blocks.Goals as goal
use borrow.Author.Count.{falls}
use Rattle.cell_rows.specs.Rows.{cell}

pub loop-block-preserved : goal.loop-block-preserved
loop-block-preserved g c =
    let invariant = c.loop-block.invariant in
    let block = c.loop-block.block in
    let mask = cell c.args.mask.now in
    let rule = seeded c.args.tearing (cell c.args.want.now) in
    let old = seeded_cell c.args.self.now in
    let so_far = seeded_cell c.loop-block.self in
    let next : 64 * (block + 1) ≡ 64 * block + 64 = omega arith in
    elim c.if-block-ne0.branch [
      | then-block-ne0 w ↦
          record {
            cells =
                rw (w.self-is, next)
                (followed_group 0 (64 * block) (64 * block + 64) mask rule old so_far (seeded_cell w.wear_block.new.self)
                invariant.cells w.wear_block.ensures.cells (omega arith) (omega arith));
            pulses = ap (λ line. line.line.pulses) w.self-is ∙ w.wear_block.ensures.pulses ∙ invariant.pulses;
          }
      | else-block-ne0 w ↦
          record {
            cells =
                rw (w.self-is, next)
                (followed_clear 0 (64 * block) (64 * block + 64) mask rule old so_far invariant.cells (omega arith)
                (block_clear mask block c.block.result w.if-block-ne0.false c.block.ensures));
            pulses = ap (λ line. line.line.pulses) w.self-is ∙ invariant.pulses;
          }
    ]

pub overflow_add-block-end : goal.overflow_add-block-end
overflow_add-block-end g c = groups_fit c.requires.shape

pub loop-block-init : goal.loop-block-init
loop-block-init g c = record { cells = followed_none 0 _ _ _; pulses = refl }

pub block-requires : goal.block-requires
block-requires g c = (row_fits c.requires.shape, (c.requires.whole, block_exists g.row.B g.row.M c.loop-block.block c.loop-block-test.true))

pub wear_block-requires : goal.wear_block-requires
wear_block-requires g c = (line_fits c.requires.shape, (row_fits c.requires.shape, (block_exists g.row.B g.row.M c.loop-block.block c.loop-block-test.true, (c.requires.shape, c.requires.whole))))

pub returns-clause-cells : goal.returns-clause-cells
returns-clause-cells g c =
    rw (← blocks_all g.row.B g.row.M c.loop-block.block c.requires.whole c.loop-block-test.false c.loop-block.auto.block-end) c.loop-block.invariant.cells

pub returns-clause-pulses : goal.returns-clause-pulses
returns-clause-pulses g c = c.loop-block.invariant.pulses

pub loop-block-smaller : goal.loop-block-smaller
loop-block-smaller g c = falls _ c.loop-block.block c.loop-block-test.true

use Rattle.std.proofs.Common.{refl, ◌∙◌}
use Rattle.seeded_lines.proofs.SizeLemmas.{block_exists, block_in, digits_fit, groups_fit, line_fits}
use Rattle.seeded_lines.proofs.seeded.SeededLine.level.Goals.{then-low-middle-ne0, else-low-middle-ne0+else-not-self-block}
use Rattle.seeded_lines.proofs.seeded.SeededLine.level.Goals as goal
use borrow.Author.Count.{falls}

pub overflow_add-block-end : goal.overflow_add-block-end
overflow_add-block-end g c = groups_fit c.requires.shape

pub loop-block-init : goal.loop-block-init
loop-block-init g c = refl

pub planes-low-requires : goal.planes-low-requires
planes-low-requires g c = (digits_fit c.requires.shape, (c.requires.whole, block_exists g.row.B g.row.M c.loop-block.block c.loop-block-test.true))

pub bounds-self-inside-block : goal.bounds-self-inside-block
bounds-self-inside-block g c = block_in c.requires.shape c.loop-block.block _ (block_exists g.row.B g.row.M c.loop-block.block c.loop-block-test.true) refl

pub level_block-requires : goal.level_block-requires
level_block-requires g c = (line_fits c.requires.shape, (block_exists g.row.B g.row.M c.loop-block.block c.loop-block-test.true, (c.requires.shape, c.requires.whole)))

pub loop-block-preserved : goal.loop-block-preserved
loop-block-preserved g c = elim c.if-low-middle-ne0.branch [
  | then-low-middle-ne0 w ↦ w.self-is ∙ w.level_block.ensures ∙ c.loop-block.invariant
  | else-low-middle-ne0+else-not-self-block w ↦ w.self-is ∙ c.loop-block.invariant
]

pub returns : goal.returns
returns g c = c.loop-block.invariant

pub loop-block-smaller : goal.loop-block-smaller
loop-block-smaller g c = falls _ c.loop-block.block c.loop-block-test.true

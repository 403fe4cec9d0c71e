use Rattle.std.proofs.Common.{◌≡◌, ◌∙◌}
use Rattle.seeded_lines.proofs.{SizeLemmas.{calm_fits, line_fits, row_fits}, seeded.SeededLine.wear_levelled.Given.Over}
use Rattle.seeded_lines.proofs.seeded.SeededLine.wear_levelled.Goals.{then-self-eq0, else-self-eq0+else-is_calm, After-wear_blocks}
use Rattle.seeded_lines.proofs.seeded.SeededLine.wear_levelled.Goals as goal

-- the counts were brought up to date or not
levelled : (g : Over) (c : After-wear_blocks g) → c.if-self-eq0.self ≡ c.args.self.now
levelled g c = elim c.if-self-eq0.branch [
  | then-self-eq0 w ↦ w.self-is ∙ w.level.ensures
  | else-self-eq0+else-is_calm w ↦ w.self-is
]

pub is_calm-requires : goal.is_calm-requires
is_calm-requires g c = (calm_fits c.requires.shape, (c.requires.whole, c.requires.shape))

pub level-requires : goal.level-requires
level-requires g c = (line_fits c.requires.shape, (c.requires.shape, c.requires.whole))

pub wear_blocks-requires : goal.wear_blocks-requires
wear_blocks-requires g c =
    let shape = c.requires.shape in
    (line_fits shape, (row_fits shape, (shape, c.requires.whole)))

pub returns-clause-cells : goal.returns-clause-cells
returns-clause-cells g c = rw (← levelled g (goal.at.returns-clause-cells g c).After-wear_blocks) c.wear_blocks.ensures.cells

pub returns-clause-pulses : goal.returns-clause-pulses
returns-clause-pulses g c = rw (← levelled g (goal.at.returns-clause-pulses g c).After-wear_blocks) c.wear_blocks.ensures.pulses

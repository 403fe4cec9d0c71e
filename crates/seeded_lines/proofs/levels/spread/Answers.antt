use Rattle.seeded_lines.proofs.LevelLemmas.{spread_lane}
use Rattle.seeded_lines.proofs.levels.spread.Goals as goal

pub returns : goal.returns
returns c i low = spread_lane c.args.bits c.args.value i low

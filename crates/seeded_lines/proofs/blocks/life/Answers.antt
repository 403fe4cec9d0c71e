use Rattle.std.proofs.Common.{◌/◌, ◌^◌, arith}
use Rattle.seeded_lines.proofs.LifeLemmas.{spread_apart, life_apart}
use Rattle.seeded_lines.proofs.blocks.life.Goals as goal

pub returns-clause-apart : goal.returns-clause-apart
returns-clause-apart c i apart =
    life_apart _ (c.args.word / 2 ^ 63) i (omega (arith, c.ranges.word.fits)) (spread_apart c.args.limit i c.requires apart) apart

use Rattle.std.proofs.Common.{arith, w8, w32, Fits}
use Rattle.std.proofs.lemmas.Simd.{Each1-get_or}
use Rattle.seeded_lines.proofs.LevelLemmas.{less_lane}
use Rattle.seeded_lines.proofs.levels.levelled.Goals as goal

pub returns : goal.returns
returns c i low =
    let count = (Each1-get_or (Fits w32) c.args.row i 0 (omega arith) c.fits-row.1).fits in
    let byte = (Each1-get_or (Fits w8) c.args.less i 0 (omega arith) c.fits-less.1).fits in
    less_lane c.args.row c.args.less i (omega arith) (omega arith) low (omega (arith, count)) (omega (arith, byte))

use Rattle.std.proofs.Common.{ℕ, ◌+◌, ◌*◌}
use Rattle.cell_rows.{specs.Rows.cell, proofs.ByteLemmas.digit_xor}
use Rattle.seeded_lines.proofs.PlaneLemmas.{digit-is, below_digits}
use Rattle.seeded_lines.proofs.digits.Digits.below.Goals as goal

pub returns : goal.returns
returns g c i low =
    let n : ℕ = 64 * c.args.block + i in
    let a = c.args.self.now in
    let x = c.args.limits.now in
    rw (digit-is a n, digit-is x n, c.chosen.ensures.bits i, digit_xor c.block-high.result c.block-high_limit.result i, c.chosen-by_middle.ensures.bits i, digit_xor c.block-middle.result c.block-middle_limit.result i, c.without-by_low.ensures i, c.block-high.ensures i low, c.block-high_limit.ensures i low, c.block-middle.ensures i low, c.block-middle_limit.ensures i low, c.block.ensures i low, c.block-2.ensures i low)
    (below_digits (cell a.low n) (cell a.middle n) (cell a.high n) (cell x.low n) (cell x.middle n) (cell x.high n))

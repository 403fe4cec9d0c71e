use Rattle.std.proofs.Common.{◌≡◌, ℕ, ◌+◌, ◌*◌, ◌&&◌, refl, sym, ◌∙◌, bit_and}
use Rattle.cell_rows.{specs.Rows.cell, proofs.ByteLemmas.digit_and}
use Rattle.seeded_lines.{specs.Planes.bit_in, proofs.PlaneLemmas.{digit-is, number_not_full}}
use Rattle.seeded_lines.proofs.digits.Digits.full.Goals as goal

pub returns : goal.returns
returns g c i low none =
    let n : ℕ = 64 * c.args.block + i in
    let a = c.args.self.now in
    let all : bit_in (bit_and (bit_and c.block.result c.block-2.result) c.block-3.result) i ≡ ((cell a.low n && cell a.middle n) && cell a.high n) =
    digit_and (bit_and c.block.result c.block-2.result) c.block-3.result i
    ∙ rw (digit_and c.block.result c.block-2.result i, c.block.ensures i low, c.block-2.ensures i low, c.block-3.ensures i low) refl in
    rw (digit-is a n) (number_not_full (cell a.low n) (cell a.middle n) (cell a.high n) (sym all ∙ none))

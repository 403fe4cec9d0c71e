use Rattle.std.proofs.Common.{◌+◌, ◌*◌, ◌∙◌, refl}
use Rattle.seeded_lines.{specs.Planes.bit_in, proofs.PlaneLemmas.{digit_grown, digit_kept}}
use Rattle.seeded_lines.proofs.digits.Digits.advance.Goals as goal
use Rattle.cell_rows.proofs.ByteLemmas.{digit_xor, digit_and}

pub returns-clause-here : goal.returns-clause-here
returns-clause-here g c i low =
    digit_grown c.args.self.now _ (64 * c.args.block + i) (bit_in c.args.more i) (bit_in c.args.none i) (c.requires.few i low)
    (c.set_block.ensures.here i low ∙ c.without.ensures i ∙ rw (digit_xor c.args.more c.block-low.result i, c.block-low.ensures i low) refl)
    (c.set_block-2.ensures.here i low ∙ c.without-2.ensures i ∙ rw (digit_xor _ c.block-middle.result i, digit_and c.args.more c.block-low.result i, c.block-low.ensures i low, c.block-middle.ensures i low) refl)
    (c.set_block-3.ensures.here i low ∙ c.without-3.ensures i ∙ rw (digit_xor _ c.block-high.result i, digit_and _ c.block-middle.result i, digit_and c.args.more c.block-low.result i, c.block-low.ensures i low, c.block-middle.ensures i low, c.block-high.ensures i low) refl)

pub returns-clause-others : goal.returns-clause-others
returns-clause-others g c n apart =
    digit_kept c.args.self.now _ n (c.set_block.ensures.others n apart) (c.set_block-2.ensures.others n apart) (c.set_block-3.ensures.others n apart)

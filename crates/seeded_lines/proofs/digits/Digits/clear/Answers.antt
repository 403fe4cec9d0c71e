use Rattle.std.proofs.Common.{◌≡◌, ◌+◌, ◌*◌, false, refl, ◌∙◌, ap, eqb}
use Rattle.std.proofs.lemmas.Nat.Bits.{bit_at-zero}
use Rattle.seeded_lines.{specs.Planes.bit_in, proofs.PlaneLemmas.{digit-is, digit_kept}}
use Rattle.seeded_lines.proofs.digits.Digits.clear.Goals as goal

pub returns-clause-here : goal.returns-clause-here
returns-clause-here g c i low =
    let none : bit_in 0 i ≡ false = ap (λ x. eqb x 1) (bit_at-zero i) in
    digit-is _ (64 * c.args.block + i)
    ∙ rw (c.set_block.ensures.here i low ∙ none, c.set_block-2.ensures.here i low ∙ none, c.set_block-3.ensures.here i low ∙ none) refl

pub returns-clause-others : goal.returns-clause-others
returns-clause-others g c n apart =
    digit_kept c.args.self.now _ n (c.set_block.ensures.others n apart) (c.set_block-2.ensures.others n apart) (c.set_block-3.ensures.others n apart)

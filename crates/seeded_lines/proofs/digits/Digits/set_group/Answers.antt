use Rattle.std.proofs.Common.{◌≡◌, ◌+◌, ◌*◌, ◌∙◌, ap, refl, arith}
use Rattle.seeded_lines.{specs.Planes.bit_in, proofs.PlaneLemmas.{digit-is, digit_kept}}
use Rattle.seeded_lines.proofs.digits.Digits.set_group.Goals as goal

pub returns-clause-here : goal.returns-clause-here
returns-clause-here g c i low =
    let number : 8 * 0 + i ≡ i = omega arith in
    digit-is _ (8 * c.args.group + i)
    ∙ rw (
      c.set_group.ensures.here i low ∙ c.byte_at.ensures i low ∙ ap (bit_in c.args.planes) number,
      c.set_group-2.ensures.here i low ∙ c.byte_at-2.ensures i low,
      c.set_group-3.ensures.here i low ∙ c.byte_at-3.ensures i low,
    ) refl

pub returns-clause-others : goal.returns-clause-others
returns-clause-others g c n apart =
    digit_kept c.args.self.now _ n (c.set_group.ensures.others n apart) (c.set_group-2.ensures.others n apart) (c.set_group-3.ensures.others n apart)

use Rattle.std.proofs.Common.{ap, sym, ◌∙◌}
use Rattle.module_shape.{specs.Limits.shape_fault, proofs.Bounds.{is-small, small-shape}}
use Rattle.module_shape.proofs.shape.Shape.new.Goals as goal

pub invariant_of-result : goal.invariant_of-result
invariant_of-result c = small-shape c.args.raw (ap (λ most. shape_fault most c.args.raw) (sym c.small_limits.ensures) ∙ sym c.fault.ensures ∙ c.in-None.is)

pub returns-in-None-clause-in_range : goal.returns-in-None-clause-in_range
returns-in-None-clause-in_range c = small-shape c.args.raw (ap (λ most. shape_fault most c.args.raw) (sym c.small_limits.ensures) ∙ sym c.fault.ensures ∙ c.in-None.is)

pub returns-in-None-clause-small : goal.returns-in-None-clause-small
returns-in-None-clause-small c = is-small c.args.raw (ap (λ most. shape_fault most c.args.raw) (sym c.small_limits.ensures) ∙ sym c.fault.ensures ∙ c.in-None.is)

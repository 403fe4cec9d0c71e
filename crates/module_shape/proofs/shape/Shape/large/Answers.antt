use Rattle.std.proofs.Common.{ap, sym, ◌∙◌}
use Rattle.module_shape.{specs.Limits.shape_fault, proofs.Bounds.large-shape}
use Rattle.module_shape.proofs.shape.Shape.large.Goals as goal

pub invariant_of-result : goal.invariant_of-result
invariant_of-result c = large-shape c.args.raw (ap (λ most. shape_fault most c.args.raw) (sym c.large_limits.ensures) ∙ sym c.fault.ensures ∙ c.in-None.is)

pub returns-in-None-clause-in_range : goal.returns-in-None-clause-in_range
returns-in-None-clause-in_range c = large-shape c.args.raw (ap (λ most. shape_fault most c.args.raw) (sym c.large_limits.ensures) ∙ sym c.fault.ensures ∙ c.in-None.is)

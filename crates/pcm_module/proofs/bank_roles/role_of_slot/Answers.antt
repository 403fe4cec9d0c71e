use Rattle.std.proofs.Common.{arith, ap, ◌∙◌}
use Rattle.pcm_module.proofs.Placed.{gap-role, line-fits, line-role}
use Rattle.pcm_module.proofs.bank_roles.role_of_slot.Goals as goal

pub returns-in-Some : goal.returns-in-Some
returns-in-Some g c =
    line-role c.args.kept.now c.region.ensures.in_range c.args.slot c.shape-shape.result.now.lines c.in-Some.offset c.registers.result.now c.requires
    (ap (λ shape. shape.lines) c.shape-shape.ensures.shape) (c.registers.ensures.rotation ∙ ap (λ region. region.rotation) c.region.ensures.region)
    c.in-Some.ensures.some.0 c.in-Some.ensures.after

pub returns-in-None : goal.returns-in-None
returns-in-None g c =
    gap-role c.args.kept.now c.region.ensures.in_range c.args.slot c.shape-shape.result.now.lines c.registers.result.now c.requires
    (ap (λ shape. shape.lines) c.shape-shape.ensures.shape) (c.registers.ensures.rotation ∙ ap (λ region. region.rotation) c.region.ensures.region)
    c.in-None.ensures.after

pub shape-shape-requires : goal.shape-shape-requires
shape-shape-requires g c = grind arith

pub overflow_add-region : goal.overflow_add-region
overflow_add-region g c = grind arith

pub nonzero_div-region : goal.nonzero_div-region
nonzero_div-region g c = grind arith

pub overflow_add-place : goal.overflow_add-place
overflow_add-place g c = grind arith

pub nonzero_rem-place : goal.nonzero_rem-place
nonzero_rem-place g c = grind arith

pub region-requires : goal.region-requires
region-requires g c = grind arith

pub registers-requires : goal.registers-requires
registers-requires g c = grind arith

pub line_at-requires : goal.line_at-requires
line_at-requires g c = grind arith

pub overflow_mul-result : goal.overflow_mul-result
overflow_mul-result g c = grind arith

pub overflow_add-result : goal.overflow_add-result
overflow_add-result g c =
    omega (
      arith,
      line-fits c.args.kept.now c.region.ensures.in_range c.args.slot c.shape-shape.result.now.lines c.in-Some.offset c.registers.result.now c.requires
          (ap (λ shape. shape.lines) c.shape-shape.ensures.shape) (c.registers.ensures.rotation ∙ ap (λ region. region.rotation) c.region.ensures.region)
          c.in-Some.ensures.some.0,
    )

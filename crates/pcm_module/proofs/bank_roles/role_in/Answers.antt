use Rattle.std.proofs.Common.{arith, ℕ, ◌-◌, ◌<◌, ap, ◌∙◌, subst}
use Rattle.bank_shape.specs.{Shape.controls_from, declared.BankShape.BankShape}
use Rattle.pcm_module.proofs.Placed.{free-role, retired-role, slot-role}
use Rattle.pcm_module.proofs.bank_roles.role_in.Goals as goal

pub returns-in-Free : goal.returns-in-Free
returns-in-Free g c =
    let below : c.args.array_line < controls_from c.args.kept.now.shape
    = subst (λ (from : ℕ). c.args.array_line < from) (c.first_control.ensures ∙ ap (λ (shape : BankShape). controls_from shape) c.shape-shape.ensures.shape)
    c.if-array_line-first_control.false in
    free-role c.args.kept.now c.remap.ensures.in_range c.args.array_line (c.args.array_line - c.shape-shape.result.now.base) c.requires.begun below
    (ap (λ shape. c.args.array_line - shape.base) c.shape-shape.ensures.shape) (rw c.remap.ensures.table at c.in-Free.ensures.owner)

pub returns-in-Retired : goal.returns-in-Retired
returns-in-Retired g c =
    retired-role c.args.kept.now c.remap.ensures.in_range c.args.array_line (c.args.array_line - c.shape-shape.result.now.base) c.requires.begun
    (ap (λ shape. c.args.array_line - shape.base) c.shape-shape.ensures.shape) (rw c.remap.ensures.table at c.in-Retired.ensures.owner)

pub returns-in-Slot : goal.returns-in-Slot
returns-in-Slot g c =
    slot-role c.args.kept.now c.remap.ensures.in_range c.args.array_line (c.args.array_line - c.shape-shape.result.now.base) c.in-Slot.slot c.role_of_slot.result
    c.requires.begun (ap (λ shape. c.args.array_line - shape.base) c.shape-shape.ensures.shape) (rw c.remap.ensures.table at c.in-Slot.ensures.owner)
    c.role_of_slot.ensures

pub shape-shape-requires : goal.shape-shape-requires
shape-shape-requires g c = grind arith

pub first_control-requires : goal.first_control-requires
first_control-requires g c = grind arith

pub returns-then-array_line-first_control : goal.returns-then-array_line-first_control
returns-then-array_line-first_control g c = grind arith

pub remap-requires : goal.remap-requires
remap-requires g c = grind arith

pub overflow_sub-array_line : goal.overflow_sub-array_line
overflow_sub-array_line g c = grind arith

pub owner-requires : goal.owner-requires
owner-requires g c = grind arith

pub role_of_slot-requires : goal.role_of_slot-requires
role_of_slot-requires g c = grind arith

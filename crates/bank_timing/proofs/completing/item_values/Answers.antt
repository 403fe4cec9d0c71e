use Rattle.std.proofs.Common.{arith}
use Rattle.bank_timing.proofs.completing.item_values.Goals as goal

pub shape-shape-requires : goal.shape-shape-requires
shape-shape-requires g c = grind arith

pub region-requires : goal.region-requires
region-requires g c = grind arith

pub region_values-requires : goal.region_values-requires
region_values-requires g c = grind arith

pub returns-then-item-shape : goal.returns-then-item-shape
returns-then-item-shape g c = grind arith

pub overflow_add-shape : goal.overflow_add-shape
overflow_add-shape g c = grind arith

pub remap-requires : goal.remap-requires
remap-requires g c = grind arith

pub spare_values-requires : goal.spare_values-requires
spare_values-requires g c = grind arith

pub returns-then-item-shape-2 : goal.returns-then-item-shape-2
returns-then-item-shape-2 g c = grind arith

pub exhausted-requires : goal.exhausted-requires
exhausted-requires g c = grind arith

pub mark_values-requires : goal.mark_values-requires
mark_values-requires g c = grind arith

pub returns : goal.returns
returns g c = grind arith

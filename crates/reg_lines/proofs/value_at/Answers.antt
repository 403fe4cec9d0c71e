use Rattle.std.proofs.Common.{arith}
use Rattle.reg_lines.proofs.value_at.Goals as goal

pub bounds-bytes-index : goal.bounds-bytes-index
bounds-bytes-index g c = grind arith

pub overflow_add-index : goal.overflow_add-index
overflow_add-index g c = grind arith

pub bounds-bytes-index-2 : goal.bounds-bytes-index-2
bounds-bytes-index-2 g c = grind arith

pub overflow_add-index-2 : goal.overflow_add-index-2
overflow_add-index-2 g c = grind arith

pub bounds-bytes-index-3 : goal.bounds-bytes-index-3
bounds-bytes-index-3 g c = grind arith

pub overflow_add-index-3 : goal.overflow_add-index-3
overflow_add-index-3 g c = grind arith

pub bounds-bytes-index-4 : goal.bounds-bytes-index-4
bounds-bytes-index-4 g c = grind arith

pub from_le_bytes-requires : goal.from_le_bytes-requires
from_le_bytes-requires g c = grind arith

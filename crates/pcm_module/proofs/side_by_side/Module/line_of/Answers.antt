use Rattle.std.proofs.Common.{arith}
use Rattle.pcm_module.proofs.side_by_side.Module.line_of.Goals as goal

pub raw-raw-requires : goal.raw-raw-requires
raw-raw-requires g c = grind arith

pub overflow_mul-raw : goal.overflow_mul-raw
overflow_mul-raw g c = grind arith

pub overflow_mul-bank : goal.overflow_mul-bank
overflow_mul-bank g c = grind arith

pub overflow_add-bank : goal.overflow_add-bank
overflow_add-bank g c = grind arith

pub back-requires : goal.back-requires
back-requires g c = grind arith

pub returns : goal.returns
returns g c = grind arith

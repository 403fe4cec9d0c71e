use Rattle.std.proofs.Common.{arith}
use Rattle.pcm_module.proofs.side_by_side.Module.retired.Goals as goal

pub banks-bank-end-requires : goal.banks-bank-end-requires
banks-bank-end-requires g c = grind arith

pub loop-bank-init : goal.loop-bank-init
loop-bank-init g c = grind arith

pub kept-requires : goal.kept-requires
kept-requires g c = grind arith

pub used_in-used-requires : goal.used_in-used-requires
used_in-used-requires g c = grind arith

pub overflow_add-used : goal.overflow_add-used
overflow_add-used g c = grind arith

pub loop-bank-smaller : goal.loop-bank-smaller
loop-bank-smaller g c = grind arith

pub loop-bank-preserved : goal.loop-bank-preserved
loop-bank-preserved g c = grind arith

pub returns : goal.returns
returns g c = grind arith

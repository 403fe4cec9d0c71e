use Rattle.std.proofs.Common.{arith}
use Rattle.bank_core.proofs.sensing.read_as.Goals as goal

pub decode-requires : goal.decode-requires
decode-requires g c = grind arith

pub returns : goal.returns
returns g c = grind arith

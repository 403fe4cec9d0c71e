use Rattle.std.proofs.Common.{arith}
use Rattle.bank_timing.proofs.arriving.is_writing.Goals as goal

pub returns-in-Some-Serving : goal.returns-in-Some-Serving
returns-in-Some-Serving c = grind arith

pub returns-in-Some : goal.returns-in-Some
returns-in-Some c = grind arith

pub returns-in-None : goal.returns-in-None
returns-in-None c = grind arith

use Rattle.std.proofs.Common.{arith}
use Rattle.pcm_module.proofs.side_by_side.Module.place.Goals as goal

pub forward-requires : goal.forward-requires
forward-requires g c = grind arith

pub locate-requires : goal.locate-requires
locate-requires g c = grind arith

pub returns-clause-bank : goal.returns-clause-bank
returns-clause-bank g c = grind arith

pub returns-clause-line : goal.returns-clause-line
returns-clause-line g c = grind arith

pub returns-clause-bank_exists : goal.returns-clause-bank_exists
returns-clause-bank_exists g c = grind arith

pub returns-clause-line_exists : goal.returns-clause-line_exists
returns-clause-line_exists g c = grind arith

use Rattle.std.proofs.Common.{arith}
use Rattle.bank_core.proofs.bank.Bank.slot_written.Goals as goal

pub shape-requires : goal.shape-requires
shape-requires g c = grind arith

pub slot-requires-clause-shape : goal.slot-requires-clause-shape
slot-requires-clause-shape g c = grind arith

pub slot-requires-clause-region_exists : goal.slot-requires-clause-region_exists
slot-requires-clause-region_exists g c = grind arith

pub slot-requires-clause-place_exists : goal.slot-requires-clause-place_exists
slot-requires-clause-place_exists g c = grind arith

pub returns-in-Nothing : goal.returns-in-Nothing
returns-in-Nothing g c = grind arith

pub returns-in-Store : goal.returns-in-Store
returns-in-Store g c = grind arith

pub returns-in-Copy : goal.returns-in-Copy
returns-in-Copy g c = grind arith

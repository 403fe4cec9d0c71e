use Rattle.std.proofs.Common.{arith}
use Rattle.bank_timing.proofs.Sizes.{timed_fits, regs_fits}
use Rattle.bank_timing.proofs.clocked.Timed.begins_store_of.Goals as goal

pub begins_work_of-requires : goal.begins_work_of-requires
begins_work_of-requires g c = timed_fits g.row.B g.row.M g.row.E c.self.invariant.layout

pub change-requires : goal.change-requires
change-requires g c = regs_fits g.row.B g.row.M g.row.E c.self.invariant.layout

pub returns-in-Some : goal.returns-in-Some
returns-in-Some g c = grind arith

pub returns-in-None : goal.returns-in-None
returns-in-None g c = grind arith

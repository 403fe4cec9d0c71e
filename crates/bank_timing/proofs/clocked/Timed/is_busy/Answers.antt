use Rattle.std.proofs.Common.{arith}
use Rattle.bank_timing.proofs.Sizes.{bank_fits, regs_fits}
use Rattle.bank_timing.proofs.clocked.Timed.is_busy.Goals as goal

pub running-requires-in-None : goal.running-requires-in-None
running-requires-in-None g c = bank_fits c.self.invariant.layout

pub change-requires : goal.change-requires
change-requires g c = regs_fits g.row.B g.row.M g.row.E c.self.invariant.layout

pub running-requires : goal.running-requires
running-requires g c = regs_fits g.row.B g.row.M g.row.E c.self.invariant.layout

pub returns-in-Some : goal.returns-in-Some
returns-in-Some g c = grind arith

pub returns-in-None : goal.returns-in-None
returns-in-None g c = grind arith

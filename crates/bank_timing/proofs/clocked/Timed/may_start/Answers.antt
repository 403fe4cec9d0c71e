use Rattle.std.proofs.Common.{arith}
use Rattle.bank_timing.proofs.Sizes.{bank_fits, regs_fits}
use Rattle.bank_timing.proofs.clocked.Timed.may_start.Goals as goal

pub may_begin-requires : goal.may_begin-requires
may_begin-requires g c = bank_fits c.self.invariant.layout

pub change-requires : goal.change-requires
change-requires g c = regs_fits g.row.B g.row.M g.row.E c.self.invariant.layout

pub running-requires : goal.running-requires
running-requires g c = regs_fits g.row.B g.row.M g.row.E c.self.invariant.layout

pub halted-requires : goal.halted-requires
halted-requires g c = regs_fits g.row.B g.row.M g.row.E c.self.invariant.layout

pub returns-after-running : goal.returns-after-running
returns-after-running g c = grind arith

pub returns-in-None : goal.returns-in-None
returns-in-None g c = grind arith

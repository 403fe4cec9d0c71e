use Rattle.std.proofs.Common.{arith}
use Rattle.bank_timing.proofs.Sizes.{bank_fits, timed_fits}
use Rattle.bank_timing.proofs.clocked.Timed.next_action.Goals as goal

pub waiting-read_waits-requires : goal.waiting-read_waits-requires
waiting-read_waits-requires g c = bank_fits c.self.invariant.layout

pub is_busy-in_progress-requires : goal.is_busy-in_progress-requires
is_busy-in_progress-requires g c = timed_fits g.row.B g.row.M g.row.E c.self.invariant.layout

pub starts_next-may_start-requires : goal.starts_next-may_start-requires
starts_next-may_start-requires g c = timed_fits g.row.B g.row.M g.row.E c.self.invariant.layout

pub returns-in-Some : goal.returns-in-Some
returns-in-Some g c = grind arith

pub gives_way-requires : goal.gives_way-requires
gives_way-requires g c = tt

pub choose-chosen-requires : goal.choose-chosen-requires
choose-chosen-requires g c = tt

pub returns-in-None : goal.returns-in-None
returns-in-None g c = grind arith

pub returns-in-Some-chosen : goal.returns-in-Some-chosen
returns-in-Some-chosen g c = grind arith

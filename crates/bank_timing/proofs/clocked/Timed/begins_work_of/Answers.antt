use Rattle.std.proofs.Common.{arith}
use Rattle.bank_timing.proofs.Sizes.{bank_fits, kept_fits}
use Rattle.bank_timing.proofs.clocked.Timed.begins_work_of.Goals as goal

pub kept-requires : goal.kept-requires
kept-requires g c = (bank_fits c.self.invariant.layout, kept_fits)

pub next_work-requires : goal.next_work-requires
next_work-requires g c = grind arith

pub is_store_of-requires : goal.is_store_of-requires
is_store_of-requires g c = grind arith

pub returns-in-Some-Beginning : goal.returns-in-Some-Beginning
returns-in-Some-Beginning g c = grind arith

pub returns-in_default : goal.returns-in_default
returns-in_default g c = grind arith

pub returns-in_default-2 : goal.returns-in_default-2
returns-in_default-2 g c = grind arith

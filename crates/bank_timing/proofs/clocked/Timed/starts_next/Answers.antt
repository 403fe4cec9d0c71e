use Rattle.std.proofs.Common.{refl}
use Rattle.bank_timing.proofs.clocked.Timed.starts_next.Goals as goal

pub may_start-requires : goal.may_start-requires
may_start-requires g c = assumption

pub returns-then-not-goes_before : goal.returns-then-not-goes_before
returns-then-not-goes_before g c = rw c.if-not-goes_before.true c.may_start.ensures

pub returns-else-not-goes_before : goal.returns-else-not-goes_before
returns-else-not-goes_before g c = rw c.if-not-goes_before.false refl

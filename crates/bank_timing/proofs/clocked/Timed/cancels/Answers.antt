use Rattle.std.proofs.Common.{refl}
use Rattle.bank_timing.proofs.clocked.Timed.cancels.Goals as goal

pub returns : goal.returns
returns g c = rw (← c.self.view_is) refl

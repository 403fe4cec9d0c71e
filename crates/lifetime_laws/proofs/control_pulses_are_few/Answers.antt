use Rattle.lifetime_laws.proofs.Changed.{control_pulses_law}
use Rattle.lifetime_laws.proofs.control_pulses_are_few.Goals as goal

pub returns : goal.returns
returns c = control_pulses_law

use Rattle.place_laws.proofs.Pulses.{pulse_law}
use Rattle.place_laws.proofs.pulses_are_few.Goals as goal

pub returns : goal.returns
returns c = pulse_law

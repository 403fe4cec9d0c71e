use Rattle.log_laws.proofs.Fair.{pulse_steps_law}
use Rattle.log_laws.proofs.pulses_are_sensed.Goals as goal

pub returns : goal.returns
returns c = pulse_steps_law

-- The law of the log, by its two parts.
use Rattle.bank_laws.{specs.Whole.WholeLogLaw, proofs.Resting.ends-still}
use Rattle.log_laws.proofs.{Controls.controls_law, Fair.pulse_steps_law, Sensed.sensed_law}

pub whole_log_law : WholeLogLaw
whole_log_law n m off e shape pace xs array log extra sized l ends leaves shown are = record {
  sensed = sensed_law n m e shape pace xs log extra sized l (ends-still shape off pace xs ends) shown;
  lines = λ line from below. pulse_steps_law off n m e shape pace xs array log extra sized l ends leaves shown are line from below;
  controls = controls_law n m e shape pace xs log extra l shown;
}

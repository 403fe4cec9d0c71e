use Rattle.clock_laws.proofs.Together.{controls_stay_law}
use Rattle.clock_laws.proofs.events.control_lines_stay.Goals as goal

pub returns : goal.returns
returns c = controls_stay_law

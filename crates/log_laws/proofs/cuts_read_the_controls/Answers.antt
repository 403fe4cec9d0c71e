use Rattle.log_laws.proofs.Controls.{controls_law}
use Rattle.log_laws.proofs.cuts_read_the_controls.Goals as goal

pub returns : goal.returns
returns c = controls_law

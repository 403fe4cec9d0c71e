use Rattle.lifetime_laws.proofs.Enduring.{controls_law}
use Rattle.lifetime_laws.proofs.spared_controls_are_unworn.Goals as goal

pub returns : goal.returns
returns c = controls_law

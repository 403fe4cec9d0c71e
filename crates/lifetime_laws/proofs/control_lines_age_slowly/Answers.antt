use Rattle.lifetime_laws.proofs.Changed.{control_ages_law}
use Rattle.lifetime_laws.proofs.control_lines_age_slowly.Goals as goal

pub returns : goal.returns
returns c = control_ages_law

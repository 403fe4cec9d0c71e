use Rattle.lifetime_laws.proofs.Living.{line_ages_law}
use Rattle.lifetime_laws.proofs.lines_age_slowly.Goals as goal

pub returns : goal.returns
returns c = line_ages_law

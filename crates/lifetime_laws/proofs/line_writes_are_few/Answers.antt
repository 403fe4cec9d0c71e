use Rattle.lifetime_laws.proofs.Broken.{works_law}
use Rattle.lifetime_laws.proofs.line_writes_are_few.Goals as goal

pub returns : goal.returns
returns c = works_law

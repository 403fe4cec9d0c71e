use Rattle.clock_laws.proofs.Elsewhere.{elsewhere_law}
use Rattle.clock_laws.proofs.events.other_lines_do_not_matter.Goals as goal

pub returns : goal.returns
returns c = elsewhere_law

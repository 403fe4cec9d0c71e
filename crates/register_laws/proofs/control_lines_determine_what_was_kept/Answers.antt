use Rattle.register_laws.proofs.Determining.{determined_law}
use Rattle.register_laws.proofs.control_lines_determine_what_was_kept.Goals as goal

pub returns : goal.returns
returns c = determined_law

use Rattle.register_laws.proofs.Staying.{start_law}
use Rattle.register_laws.proofs.blank_lines_hold_the_first_state.Goals as goal

pub returns : goal.returns
returns c = start_law

use Rattle.clock_laws.proofs.Together.{cut_touches_law}
use Rattle.clock_laws.proofs.actions.calls_of_a_cut_touch_one_line.Goals as goal

pub returns : goal.returns
returns c = cut_touches_law

use Rattle.clock_laws.proofs.Together.{bank_stays_law}
use Rattle.clock_laws.proofs.events.banks_hold_over_control_lines.Goals as goal

pub returns : goal.returns
returns c = bank_stays_law

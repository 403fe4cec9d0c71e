use Rattle.bank_laws.proofs.Ticks.{tick_law}
use Rattle.bank_laws.proofs.first.ticks_rise.Goals as goal

pub returns : goal.returns
returns c = tick_law

use Rattle.end_laws.proofs.Leaving.{gaps_law}
use Rattle.end_laws.proofs.registers_follow_stores.Goals as goal

pub returns : goal.returns
returns c = gaps_law

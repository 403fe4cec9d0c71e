use Rattle.bank_laws.proofs.Pairs.{pair_law}
use Rattle.bank_laws.proofs.first.pairs_are_in_flight.Goals as goal

pub returns : goal.returns
returns c = pair_law

use Rattle.feistel_map.proofs.Located.{number_at-address_of}
use Rattle.feistel_map.proofs.address.Address.of.Goals as goal

pub returns-clause-number : goal.returns-clause-number
returns-clause-number c = number_at-address_of c.args.regions c.args.lines c.args.number

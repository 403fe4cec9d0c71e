use Rattle.masked_bytes.proofs.Layering.{IsMasked-all_given}
use Rattle.masked_bytes.proofs.entry.Entry.whole.Goals as goal

pub returns-clause-masked : goal.returns-clause-masked
returns-clause-masked g c = λ some. IsMasked-all_given g.row.B c.args.bytes.now some c.told-bytes

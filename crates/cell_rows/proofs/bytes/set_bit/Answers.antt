use Rattle.cell_rows.proofs.ByteLemmas.{bit_of-set}
use Rattle.cell_rows.proofs.bytes.set_bit.Goals as goal

pub returns : goal.returns
returns c = bit_of-set c.args.bytes.now c.args.number c.with_bit.result c.args.value c.requires c.with_bit.ensures.is c.with_bit.ensures.kept

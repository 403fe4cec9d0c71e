use Rattle.pcm_module.proofs.Making.{AreMade}
use Rattle.pcm_module.proofs.side_by_side.Module.new.Given as goal

abbrev pub invariant-loop-bank : goal.invariant-loop-bank
invariant-loop-bank g l = AreMade g.row.B g.row.M g.row.E l.shape l.bank l.banks.items

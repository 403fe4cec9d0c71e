use Rattle.bank_timing.proofs.Sizes.{bank_fits}
use Rattle.pcm_disk.proofs.bank_timing++clocked++Timed+Destruct.drop.Goals as goal

pub drop-requires : goal.drop-requires
drop-requires g c = bank_fits c.drop.invariant.layout

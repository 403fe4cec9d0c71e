use Rattle.bank_timing.proofs.Sizes.{timed_fits}
use Rattle.pcm_c.proofs.pcm_module++side_by_side++Module+Destruct.drop.Goals as goal

pub drop-requires-room-T-Destruct : goal.drop-requires-room-T-Destruct
drop-requires-room-T-Destruct g c κs = timed_fits g.row.B g.row.M g.row.E c.drop.invariant.layout

use Rattle.check_judging.proofs.Sublists.{room_stays_law, room_behind_cut_law}
use Rattle.check_judging.proofs.room_stays.Goals as goal

pub returns : goal.returns
returns c = record { later = room_stays_law; cut = room_behind_cut_law }

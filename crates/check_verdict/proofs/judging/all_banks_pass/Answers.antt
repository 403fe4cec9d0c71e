use Rattle.check_verdict.proofs.Passing.{all_room_law, cut_room_law, settle_one_law, room_seen_law, row_passes_law, cut_passed_law}
use Rattle.check_verdict.proofs.judging.all_banks_pass.Goals as goal

pub returns : goal.returns
returns c = record { room = all_room_law; cut_room = cut_room_law; settle = settle_one_law; seen = room_seen_law; row = row_passes_law; cut = cut_passed_law }

use Rattle.check_verdict.proofs.Queueing.{room_kept_law, write_fits_law, read_fits_law}
use Rattle.check_verdict.proofs.judging.kept_tells_queue.Goals as goal

pub returns : goal.returns
returns c = record { room = room_kept_law; write = write_fits_law; read = read_fits_law }

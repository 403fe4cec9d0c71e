use Rattle.check_verdict.proofs.Times.{read_times_law, write_times_law}
use Rattle.check_verdict.proofs.judging.kept_tells_times.Goals as goal

pub returns : goal.returns
returns c = record { read = read_times_law; write = write_times_law }

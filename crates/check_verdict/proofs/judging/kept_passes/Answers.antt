use Rattle.check_verdict.proofs.States.{stands_later_law, write_passes_law, read_passes_law, cut_passes_law}
use Rattle.check_verdict.proofs.judging.kept_passes.Goals as goal

pub returns : goal.returns
returns c = record { later = stands_later_law; write = write_passes_law; read = read_passes_law; cut = cut_passes_law }

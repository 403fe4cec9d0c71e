use Rattle.check_verdict.proofs.VerdictLaws.{write_verdict_law, read_verdict_law}
use Rattle.check_verdict.proofs.judging.keys_tell_verdict.Goals as goal

pub returns : goal.returns
returns c = record { write = write_verdict_law; read = read_verdict_law }

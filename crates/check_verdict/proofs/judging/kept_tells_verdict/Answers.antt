use Rattle.check_verdict.proofs.Judged.{judge_write_law, judge_read_law, judge_cut_law}
use Rattle.check_verdict.proofs.judging.kept_tells_verdict.Goals as goal

pub returns : goal.returns
returns c = record { write = judge_write_law; read = judge_read_law; cut = judge_cut_law }

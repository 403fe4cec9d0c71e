use Rattle.check_verdict.proofs.Tables.{delay_law, four_law}
use Rattle.check_verdict.proofs.judging.kept_tells_delay.Goals as goal

pub returns : goal.returns
returns c = record { delay = delay_law; four = four_law }

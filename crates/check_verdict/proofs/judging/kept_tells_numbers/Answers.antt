use Rattle.check_verdict.proofs.Numbers.{numbers_law}
use Rattle.check_verdict.proofs.judging.kept_tells_numbers.Goals as goal

pub returns : goal.returns
returns c = numbers_law

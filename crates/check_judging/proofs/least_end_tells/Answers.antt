use Rattle.check_judging.proofs.LeastEnd.{none_before_law, first_law}
use Rattle.check_judging.proofs.least_end_tells.Goals as goal

pub returns : goal.returns
returns c = record { none_before = none_before_law; first = first_law }

use Rattle.check_judging.proofs.Counts.{first_by_count_law, last_by_count_law}
use Rattle.check_judging.proofs.counts_tell.Goals as goal

pub returns : goal.returns
returns c = record { first = first_by_count_law; last = last_by_count_law }

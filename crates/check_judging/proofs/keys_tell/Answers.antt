use Rattle.check_judging.proofs.SortedKeys.{index_law, count_law}
use Rattle.check_judging.proofs.keys_tell.Goals as goal

pub returns : goal.returns
returns c = record { index = index_law; count = count_law }

use Rattle.check_verdict.proofs.{Joins.{join_kept_law, cut_kept_law}, OtherJoins.other_kept_law, ReadJoins.{answer_kept_law, loss_kept_law}}
use Rattle.check_verdict.proofs.judging.kept_joins.Goals as goal

pub returns : goal.returns
returns c = record { write = join_kept_law; cut = cut_kept_law; answer = answer_kept_law; loss = loss_kept_law; other = other_kept_law }

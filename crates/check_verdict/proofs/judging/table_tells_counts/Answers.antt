use Rattle.check_verdict.proofs.Tables.{counts_told_law, line_keys_law, own_law}
use Rattle.check_verdict.proofs.judging.table_tells_counts.Goals as goal

pub returns : goal.returns
returns c = record { counts = counts_told_law; lines = line_keys_law; own = own_law }

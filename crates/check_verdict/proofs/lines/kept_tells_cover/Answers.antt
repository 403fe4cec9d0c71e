use Rattle.check_verdict.proofs.Covering.{cover_kept_law, line_stays_law, line_joins_law}
use Rattle.check_verdict.proofs.lines.kept_tells_cover.Goals as goal

pub returns : goal.returns
returns c = record { cover = cover_kept_law; stays = line_stays_law; joins = line_joins_law }

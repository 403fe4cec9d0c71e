use Rattle.read_moments.proofs.Keeping.{still_law}
use Rattle.read_moments.proofs.no_settle_takes_back_bytes.Goals as goal

pub returns : goal.returns
returns c = still_law c.lines_have_their_banks.ensures c.what_is_accepted_stays.ensures

use Rattle.newest_laws.proofs.Newest.{cuts_law}
use Rattle.newest_laws.proofs.cuts_change_no_newest_byte.Goals as goal

pub returns : goal.returns
returns c = cuts_law

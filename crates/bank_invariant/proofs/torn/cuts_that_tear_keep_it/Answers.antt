use Rattle.bank_invariant.proofs.Tearing.{torn_law}
use Rattle.bank_invariant.proofs.torn.cuts_that_tear_keep_it.Goals as goal

pub returns : goal.returns
returns c = torn_law

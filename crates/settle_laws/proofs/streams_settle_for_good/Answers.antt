use Rattle.settle_laws.proofs.Law.{begun_law, whole_law}
use Rattle.settle_laws.proofs.streams_settle_for_good.Goals as goal

pub returns-clause-whole : goal.returns-clause-whole
returns-clause-whole g c = whole_law c.what_is_told_by_a_settle_stays.ensures

pub returns-clause-begun : goal.returns-clause-begun
returns-clause-begun g c = begun_law c.what_is_told_by_a_settle_stays_so_far.ensures

use Rattle.moment_laws.proofs.Along.{begun_law, whole_law}
use Rattle.moment_laws.proofs.streams_lose_nothing.Goals as goal

pub returns-clause-whole : goal.returns-clause-whole
returns-clause-whole g c = whole_law c.no_row_loses_bytes.ensures

pub returns-clause-begun : goal.returns-clause-begun
returns-clause-begun g c = begun_law c.no_row_loses_bytes.ensures

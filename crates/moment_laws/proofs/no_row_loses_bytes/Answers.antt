use Rattle.moment_laws.proofs.Along.{along_law}
use Rattle.moment_laws.proofs.no_row_loses_bytes.Goals as goal

pub returns : goal.returns
returns c = along_law c.no_moment_loses_bytes.ensures

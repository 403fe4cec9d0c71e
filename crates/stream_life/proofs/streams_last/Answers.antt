use Rattle.stream_life.proofs.Served.{stream_law, asked_law}
use Rattle.stream_life.proofs.streams_last.Goals as goal

pub returns-clause-stored : goal.returns-clause-stored
returns-clause-stored g c = stream_law c.runs_live_on.ensures c.cut_off_banks_live_on.ensures

pub returns-clause-asked : goal.returns-clause-asked
returns-clause-asked g c = asked_law c.asked_writes_bound_stores.ensures c.runs_live_on.ensures c.cut_off_banks_live_on.ensures

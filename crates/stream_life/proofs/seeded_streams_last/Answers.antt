use Rattle.std.proofs.Common.{sym, ap, subst}
use Rattle.cell_rows.specs.Device.{CellBounds}
use Rattle.pcm_cells.specs.Seeded.{seeded_state, bounds_of}
use Rattle.run_laws.specs.Lasting.{Outlasts, OutlastsAsked}
use Rattle.stream_life.specs.Lasting.{rows_served}
use Rattle.stream_life.proofs.seeded_streams_last.Goals as goal

pub returns-clause-stored : goal.returns-clause-stored
returns-clause-stored g c n m e job source array told served hot bank is layout exists few =
    c.streams_last.ensures.stored n m e job source (seeded_state array) told served hot bank is layout exists
    (subst (λ (bounds : CellBounds). Outlasts bounds e job.shape job.seed (rows_served served) bank hot) (sym (ap bounds_of served.wear)) few)

pub returns-clause-asked : goal.returns-clause-asked
returns-clause-asked g c n m e job source array told served hot bank is layout exists few =
    c.streams_last.ensures.asked n m e job source (seeded_state array) told served hot bank is layout exists
    (subst (λ (bounds : CellBounds). OutlastsAsked bounds e job.shape job.seed (rows_served served) bank hot) (sym (ap bounds_of served.wear)) few)

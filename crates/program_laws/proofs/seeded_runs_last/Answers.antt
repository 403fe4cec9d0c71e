use Rattle.std.proofs.Common.{arith, sym, ap, subst}
use Rattle.cell_rows.specs.Device.{CellBounds}
use Rattle.pcm_cells.specs.Seeded.{seeded_state, bounds_of}
use Rattle.run_laws.specs.Lasting.{Outlasts, OutlastsAsked}
use Rattle.pcm_top.specs.Rows.{rows_of}
use Rattle.program_laws.proofs.seeded_runs_last.Goals as goal

pub returns-clause-stored : goal.returns-clause-stored
returns-clause-stored c n m e job s array run hot bank is layout exists few =
    c.runs_last.ensures n m e job s (seeded_state array) run hot bank is layout exists
    (subst (λ (bounds : CellBounds). Outlasts bounds e job.shape job.seed (rows_of run.events run.outcomes) bank hot) (sym (ap bounds_of run.wear)) few)

pub returns-clause-asked : goal.returns-clause-asked
returns-clause-asked c n m e job s array run hot bank is layout exists few =
    c.traces_last.ensures n m e job s (seeded_state array) run hot bank is layout exists
    (subst (λ (bounds : CellBounds). OutlastsAsked bounds e job.shape job.seed (rows_of run.events run.outcomes) bank hot) (sym (ap bounds_of run.wear)) few)

pub runs_last-requires : goal.runs_last-requires
runs_last-requires c = grind arith

pub traces_last-requires : goal.traces_last-requires
traces_last-requires c = grind arith

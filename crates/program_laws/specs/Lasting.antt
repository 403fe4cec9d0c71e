-- What a run leaves whose hot lines are few, over cells that endure what these bring.
use Rattle.std.specs.Prelude.{ℕ, ◌<◌, List, Some}
use Rattle.cell_rows.specs.Device.{ArrayState}
use Rattle.pcm_cells.specs.Seeded.{SeededArray, seeded_state, bounds_of}
use Rattle.ecp_line.specs.Layout.{IsLayout}
use Rattle.command_line.specs.{Jobs.IsRun, declared.job.RunJob.RunJob}
use Rattle.run_laws.specs.Lasting.{IsAlive, Outlasts, OutlastsAsked}
use Rattle.program_calls.specs.Calls.{SourceChange}
use Rattle.pcm_top.specs.{Rows.rows_of, Running.Runs}

-- a run wears a bank out nowhere where its cells endure more changes than any slot's own line of the bank may
-- take line writes, by the run's stores and cuts and the hot lines of each region
abbrev pub LastingLaw : Type 0
LastingLaw =
    (n m e : ℕ) (job : RunJob) (s : SourceChange) (array : ArrayState n m)
    (run : Runs n m e job s array) (hot : ℕ → List ℕ) (bank : ℕ)
    → IsRun job → IsLayout n m e → bank < job.shape.banks
    → Outlasts array.bounds e job.shape job.seed (rows_of run.events run.outcomes) bank hot
    → IsAlive e job.shape job.seed (rows_of run.events run.outcomes) array (run.ends bank) bank

-- so it does by the writes that its trace asks for, whatever becomes of them
abbrev pub LastingTraceLaw : Type 0
LastingTraceLaw =
    (n m e : ℕ) (job : RunJob) (s : SourceChange) (array : ArrayState n m)
    (run : Runs n m e job s array) (hot : ℕ → List ℕ) (bank : ℕ)
    → IsRun job → IsLayout n m e → bank < job.shape.banks
    → OutlastsAsked array.bounds e job.shape job.seed (rows_of run.events run.outcomes) bank hot
    → IsAlive e job.shape job.seed (rows_of run.events run.outcomes) array (run.ends bank) bank

-- a run over the seeded array wears a bank out nowhere where `--lo` is above that, by the run's stores
abbrev pub SeededLastingLaw : Type 0
SeededLastingLaw =
    (n m e : ℕ) (job : RunJob) (s : SourceChange) (array : SeededArray n m)
    (run : Runs n m e job s (seeded_state array)) (hot : ℕ → List ℕ) (bank : ℕ)
    → IsRun job → IsLayout n m e → bank < job.shape.banks
    → Outlasts (bounds_of (Some job.wear)) e job.shape job.seed (rows_of run.events run.outcomes) bank hot
    → IsAlive e job.shape job.seed (rows_of run.events run.outcomes) (seeded_state array) (run.ends bank) bank

-- or by the writes that its trace asks for
abbrev pub SeededTraceLaw : Type 0
SeededTraceLaw =
    (n m e : ℕ) (job : RunJob) (s : SourceChange) (array : SeededArray n m)
    (run : Runs n m e job s (seeded_state array)) (hot : ℕ → List ℕ) (bank : ℕ)
    → IsRun job → IsLayout n m e → bank < job.shape.banks
    → OutlastsAsked (bounds_of (Some job.wear)) e job.shape job.seed
    (rows_of run.events run.outcomes) bank hot
    → IsAlive e job.shape job.seed (rows_of run.events run.outcomes) (seeded_state array) (run.ends bank) bank

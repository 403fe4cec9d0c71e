-- What a stream leaves whose hot lines are few, over cells that endure what these bring.
use Rattle.std.specs.Prelude.{ℕ, ◌<◌, Bool, true, false, List, Some}
use Rattle.cell_rows.specs.Device.{ArrayState}
use Rattle.pcm_cells.specs.Seeded.{SeededArray, seeded_state, bounds_of}
use Rattle.ecp_line.specs.Layout.{IsLayout}
use Rattle.row_rules.specs.declared.Row.{Row}
use Rattle.module_shape.specs.declared.raw.RawShape.{RawShape}
use Rattle.right_runs.specs.Ends.{BankEnd}
use Rattle.run_laws.specs.Lasting.{IsAlive, Outlasts, OutlastsAsked}
use Rattle.row_printer.specs.{Printing.table_of, declared.told.Told.Told}
use Rattle.stream_words.specs.{Jobs.IsStreamJob, declared.job.StreamJob.StreamJob}
use Rattle.trace_stream.specs.Asked.{events_in}
use Rattle.row_stream.specs.{Asking.{stays_off, with_cut}, Ending.rows_of}
use Rattle.stream_top.specs.{Calls.LentSource, Streams.{IsServed, is_off}}
use Rattle.stream_life.specs.CutOff.{IsUnworn}

-- what a bank that wore out nowhere is, by whether the power stays off behind the last row
abbrev pub IsAliveTo : Bool → {n m : ℕ} → ℕ → RawShape → ℕ → List (Row n) → ArrayState n m → BankEnd → ℕ → Type 0
IsAliveTo false e raw seed rows array end bank = IsAlive e raw seed rows array end bank
IsAliveTo true e raw seed rows array end bank = IsUnworn e raw seed rows array end bank

-- of a stream that was served to its end
module _ {S : Type 0} {n m e : ℕ} {job : StreamJob} {source : LentSource S} {array : ArrayState n m} {told : List (Told n)}
    (served : IsServed n m e job source array told) where
  -- its rows, a cut that was added behind them among them
  abbrev pub rows_served : List (Row n)
  rows_served = rows_of (events_in (with_cut (is_off job.end) served.asked)) (table_of served.places told)

  -- a bank of it wore out nowhere
  abbrev pub IsAliveIn : ℕ → Type 0
  IsAliveIn bank = IsAliveTo (stays_off (is_off job.end) served.asked) e job.shape job.seed rows_served array (served.ended.ends bank) bank

-- a stream of any length wears a bank out nowhere where its cells endure more changes than any slot's own line of the bank may take line
-- writes, by the stream's stores and cuts and the hot lines of each region
abbrev pub StreamLastingLaw : Type 0 → Type 0
StreamLastingLaw S =
    (n m e : ℕ) (job : StreamJob) (source : LentSource S) (array : ArrayState n m) (told : List (Told n))
    (served : IsServed n m e job source array told) (hot : ℕ → List ℕ) (bank : ℕ)
    → IsStreamJob job → IsLayout n m e → bank < job.shape.banks
    → Outlasts array.bounds e job.shape job.seed (rows_served served) bank hot
    → IsAliveIn served bank

-- so it does by the writes that its rows ask for, whatever becomes of them
abbrev pub AskedStreamLaw : Type 0 → Type 0
AskedStreamLaw S =
    (n m e : ℕ) (job : StreamJob) (source : LentSource S) (array : ArrayState n m) (told : List (Told n))
    (served : IsServed n m e job source array told) (hot : ℕ → List ℕ) (bank : ℕ)
    → IsStreamJob job → IsLayout n m e → bank < job.shape.banks
    → OutlastsAsked array.bounds e job.shape job.seed (rows_served served) bank hot
    → IsAliveIn served bank

-- a stream over the seeded array wears a bank out nowhere where `--lo` is above that, by its stores
abbrev pub SeededStreamLaw : Type 0 → Type 0
SeededStreamLaw S =
    (n m e : ℕ) (job : StreamJob) (source : LentSource S) (array : SeededArray n m) (told : List (Told n))
    (served : IsServed n m e job source (seeded_state array) told) (hot : ℕ → List ℕ) (bank : ℕ)
    → IsStreamJob job → IsLayout n m e → bank < job.shape.banks
    → Outlasts (bounds_of (Some job.wear)) e job.shape job.seed (rows_served served) bank hot
    → IsAliveIn served bank

-- or by the writes that its rows ask for
abbrev pub SeededAskedLaw : Type 0 → Type 0
SeededAskedLaw S =
    (n m e : ℕ) (job : StreamJob) (source : LentSource S) (array : SeededArray n m) (told : List (Told n))
    (served : IsServed n m e job source (seeded_state array) told) (hot : ℕ → List ℕ) (bank : ℕ)
    → IsStreamJob job → IsLayout n m e → bank < job.shape.banks
    → OutlastsAsked (bounds_of (Some job.wear)) e job.shape job.seed (rows_served served) bank hot
    → IsAliveIn served bank

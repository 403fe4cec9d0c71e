-- That a program's stream lost nothing behind any of its rows.
use Rattle.std.specs.Prelude.{ℕ, List}
use Rattle.cell_rows.specs.Device.{ArrayState}
use Rattle.row_printer.specs.declared.told.Told.{Told}
use Rattle.trace_stream.specs.declared.asked.Asked.{Asked}
use Rattle.row_stream.specs.Asking.{with_cut}
use Rattle.stream_words.specs.declared.job.StreamJob.{StreamJob}
use Rattle.stream_top.specs.{Calls.LentSource, Streams.{IsServed, IsServedInPart, is_off}}
use Rattle.moment_laws.specs.Moments.{LosesNothingAlong}

-- one that was served to its end
abbrev pub WholeStreamLaw : Type 0 → Type 0
WholeStreamLaw S =
    (n m e : ℕ) (job : StreamJob) (source : LentSource S) (array : ArrayState n m) (told : List (Told n))
    (served : IsServed n m e job source array told)
    → LosesNothingAlong e job.shape job.seed (with_cut (is_off job.end) served.asked) served.ended.history told

-- one of which only first rows were served
abbrev pub BegunStreamLaw : Type 0 → Type 0
BegunStreamLaw S =
    (n m e : ℕ) (job : StreamJob) (source : LentSource S) (array : ArrayState n m) (asked : List (Asked n)) (told : List (Told n))
    (served : IsServedInPart n m e job source array asked told)
    → LosesNothingAlong e job.shape job.seed asked served.history told

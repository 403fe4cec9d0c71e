-- Where results begin that stand behind a trace.
use Rattle.std.specs.Prelude.{◌≡◌, ℕ, List, ◌++◌, length, Ok}
use Rattle.trace_reader.specs.{Trace.trace_of, declared.event.Event.Event}
use Rattle.check_reader.specs.Splitting.{BeginsLine, BeginsWithHeader, BeginResultsAt}

-- the last line of a text is ended: what stands behind it begins a line
abbrev pub EndsItsLine : List ℕ → Type 0
EndsItsLine bytes = BeginsLine bytes (length bytes)

-- behind a trace whose last line is ended, results begin at their own first byte: no line of a trace is the header of results
abbrev pub SplitLaw : Type 0
SplitLaw =
    (n lines : ℕ) (trace results : List ℕ) (events : List (Event n)) → trace_of n lines trace ≡ Ok events → EndsItsLine trace → BeginsWithHeader results
    → BeginResultsAt (trace ++ results) (length trace)

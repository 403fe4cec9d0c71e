-- The table of a run: a row for each event, with its outcome.
use Rattle.std.specs.Prelude.{ℕ, List, reverse}
use Rattle.trace_reader.specs.declared.event.Event.{Event}
use Rattle.result_rows.specs.declared.Outcome.{Outcome}
use Rattle.row_rules.specs.declared.Row.{Row}
use Rattle.trace_rows.specs.Rows.{rows_with}

-- the newest row first
abbrev pub rows_of : {n : ℕ} → List (Event n) → List (Outcome n) → List (Row n)
rows_of events outcomes = reverse (rows_with events outcomes)

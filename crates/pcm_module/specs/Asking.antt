-- What an event of a trace asks of a module.
use Rattle.std.specs.Prelude.{ℕ, ◌+◌, List, [], ◌∷◌, length}
use Rattle.trace_reader.specs.declared.event.Event.{Event}
use Rattle.trace_rows.specs.Rows.{asks_of}
use Rattle.module_laws.specs.Asking.{Asked}

-- what the event of a row asks
abbrev pub asked_by : {n : ℕ} → ℕ → Event n → Asked n
asked_by row event = record { row = row; tick = event.tick; asks = asks_of event.op }

-- what all events ask, the newest first, where the rows are numbered from 1
abbrev pub asked_for : {n : ℕ} → List (Event n) → List (Asked n)
asked_for [] = []
asked_for (event ∷ below) = asked_by (length below + 1) event ∷ asked_for below

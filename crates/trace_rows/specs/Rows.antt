-- The rows of a table, as the code has them: an event and its outcome.
use Rattle.std.specs.Prelude.{ℕ, true, List, [], ◌∷◌, replicate}
use Rattle.trace_reader.specs.{declared.event.Event.Event, declared.event.EventOp.EventOp, declared.event.EventOp.TheVariants.{Read, Write, Mask, Cut}}
use Rattle.result_rows.specs.declared.Outcome.{Outcome}
use Rattle.row_rules.specs.{declared.Asks.Asks, declared.Asks.TheVariants.{Reads, Writes, Cuts}, declared.Row.Row}

module _ {n : ℕ} where
  -- what an operation asks: a whole write gives every byte
  abbrev pub asks_of : EventOp n → Asks n
  asks_of (Read line) = Reads line
  asks_of (Write line bytes) = Writes line bytes (replicate n true)
  asks_of (Mask line bytes given) = Writes line bytes given
  asks_of Cut = Cuts

  -- the row of an event with its outcome
  abbrev pub row_of : Event n → Outcome n → Row n
  row_of event outcome = record { tick = event.tick; asks = asks_of event.op; outcome = outcome }

  -- the rows of a trace with these outcomes, the oldest first
  abbrev pub rows_with : List (Event n) → List (Outcome n) → List (Row n)
  rows_with [] outcomes = []
  rows_with (event ∷ events) [] = []
  rows_with (event ∷ events) (outcome ∷ outcomes) = row_of event outcome ∷ rows_with events outcomes

-- The text of a run's results.
use Rattle.std.specs.Prelude.{◌≡◌, ℕ, ◌+◌, ◌≤◌, List, [], ◌∷◌, ◌++◌, length, Some, slice_get}
use Rattle.trace_reader.specs.{declared.event.Event.Event, declared.event.EventOp.EventOp}
use Rattle.trace_reader.specs.declared.event.EventOp.TheVariants as op
use Rattle.result_rows.specs.{Outcomes.op_of, RowText.{header_text, row_text}, declared.Op.Op, declared.Outcome.Outcome}
use Rattle.result_rows.specs.declared.Op.TheVariants as kind

module _ {n : ℕ} where
  -- what a row asks for, as its result shows it: a masked write is a write
  abbrev pub asked : EventOp n → Op
  asked (op.Read line) = kind.Read
  asked (op.Write line bytes) = kind.Write
  asked (op.Mask line bytes given) = kind.Write
  asked op.Cut = kind.Cut

  -- the line that a row names; a cut names none
  abbrev pub named_line : EventOp n → ℕ
  named_line (op.Read line) = line
  named_line (op.Write line bytes) = line
  named_line (op.Mask line bytes given) = line
  named_line op.Cut = 0

  -- the rows of the results, numbered from this one on
  unfoldable pub rows_text : ℕ → List (Event n) → List (Outcome n) → List ℕ
  rows_text row [] outcomes = []
  rows_text row (event ∷ events) [] = []
  rows_text row (event ∷ events) (outcome ∷ outcomes) =
      row_text row (asked event.op) (named_line event.op) outcome ++ rows_text (row + 1) events outcomes

  -- the header and one row for each event
  unfoldable pub results_text : List (Event n) → List (Outcome n) → List ℕ
  results_text events outcomes = header_text ++ rows_text 1 events outcomes

  -- the outcome is one of the row's operation, and a row has room for its line
  pub record IsPrintable (event : Event n) (outcome : Outcome n) : Type 0 where
    pub belongs : op_of outcome ≡ Some (asked event.op)
    pub line : named_line event.op ≤ 65535

  -- each row has an outcome with which it can be printed
  pub record ArePrintable (events : List (Event n)) (outcomes : List (Outcome n)) : Type 0 where
    pub one_each : length outcomes ≡ length events
    pub each : (row : ℕ) (event : Event n) (outcome : Outcome n) → slice_get events row ≡ Some event → slice_get outcomes row ≡ Some outcome
        → IsPrintable event outcome

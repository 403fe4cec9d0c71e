-- When a row gets its outcome.
use Rattle.std.specs.Prelude.{◌≡◌, ◌≢◌, ℕ, true, List, ◌++◌}
use Rattle.result_rows.specs.declared.Outcome.TheVariants.{Unset}
use Rattle.masked_bytes.specs.Entries.{has_row}
use Rattle.bank_shape.specs.{declared.BankShape.BankShape, declared.pace.Pace.Pace}
use Rattle.bank_model.specs.{Events.RowsBelow, History.{queue, waits}, Lawful.Lawful, Timing.{TimedEvent, core}}
use Rattle.bank_laws.specs.{Outcomes.outcome_of, Standing.has_wait}

-- a row has no outcome while it stands in the queue or waits, nor before it came
pub record AreOpen {n m : ℕ} (shape : BankShape) (xs : List (TimedEvent n m)) : Type 0 where
  pub queued : (row : ℕ) → has_row (queue shape (core xs)) row ≡ true → outcome_of shape xs row ≡ Unset
  pub waiting : (row : ℕ) → has_wait (waits shape (core xs)) row ≡ true → outcome_of shape xs row ≡ Unset
  pub coming : (row : ℕ) → RowsBelow (core xs) row → outcome_of shape xs row ≡ Unset

abbrev pub OpenLaw : Type 0
OpenLaw = (n m e : ℕ) (shape : BankShape) (pace : Pace) (xs : List (TimedEvent n m)) → Lawful shape pace e xs → AreOpen shape xs

-- an outcome is set once, and stays
abbrev pub SetOnceLaw : Type 0
SetOnceLaw =
    (n m e : ℕ) (shape : BankShape) (pace : Pace) (later xs : List (TimedEvent n m)) (row : ℕ) → Lawful shape pace e (later ++ xs)
    → outcome_of shape xs row ≢ Unset → outcome_of shape (later ++ xs) row ≡ outcome_of shape xs row

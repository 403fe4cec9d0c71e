-- What the events of a call make of the outcomes of all rows.
use Rattle.std.specs.Prelude.{◌≡◌, ℕ, List, [], ◌∷◌, ◌++◌, unwrap_or}
use Rattle.result_rows.specs.declared.Outcome.{Outcome}
use Rattle.bank_shape.specs.declared.BankShape.{BankShape}
use Rattle.bank_model.specs.Timing.{TimedEvent}
use Rattle.bank_laws.specs.Outcomes.{outcome_with, outcome_of}

-- the outcome of a row after these events, which came behind a history, where before them each row had this outcome
abbrev pub outcome_on : {n m : ℕ} → BankShape → List (TimedEvent n m) → List (TimedEvent n m) → (ℕ → Outcome n) → ℕ → Outcome n
outcome_on shape [] xs before row = before row
outcome_on shape (x ∷ added) xs before row =
    unwrap_or (outcome_with shape (added ++ xs) x.happens x.tick row) (outcome_on shape added xs before row)

-- the outcomes of a history's rows, and what later events make of them, are those of the whole history
abbrev pub WholeOutcomeLaw : Type 0
WholeOutcomeLaw =
    (n m : ℕ) (shape : BankShape) (added xs : List (TimedEvent n m)) (row : ℕ)
    → outcome_on shape added xs (outcome_of shape xs) row ≡ outcome_of shape (added ++ xs) row

-- what the events of two calls make of a row, the one after the other
abbrev pub BothRecordedLaw : Type 0
BothRecordedLaw =
    (n m : ℕ) (shape : BankShape) (newer older xs : List (TimedEvent n m)) (before : ℕ → Outcome n) (row : ℕ)
    → outcome_on shape (newer ++ older) xs before row ≡ outcome_on shape newer (older ++ xs) (outcome_on shape older xs before) row

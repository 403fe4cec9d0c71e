-- The laws that a bank's rows keep once it is drained.
use Rattle.std.specs.Prelude.{◌≡◌, ℕ, List, ◌++◌, All}
use Rattle.cell_rows.specs.{Device.ArrayState, declared.array.Sense.Sense}
use Rattle.row_rules.specs.Table.{KeepsRows}
use Rattle.bank_shape.specs.{declared.BankShape.BankShape, declared.pace.Pace.Pace}
use Rattle.bank_model.specs.{Adding.senses_of, Timing.TimedEvent}
use Rattle.right_runs.specs.{Banks.rules_of, KeepsLog.KeepsLog, KeepsPlaces.KeepsPlaces}
use Rattle.bank_laws.specs.{Laws.log_of, Outcomes.table_of}
use Rattle.tick_laws.specs.TickLaws.{WaitsForReads}

-- the table of a history keeps the laws of rows, over its array those of places, and with a log whose senses of the bank's lines
-- are those of the history, and then some of the array's last pulses, those of the log; and a read that found fewer cancels of the
-- present line write than it may have waited for the reads before it alone
pub record KeepsLaws {n m : ℕ} (e : ℕ) (shape : BankShape) (pace : Pace) (xs : List (TimedEvent n m)) (array : ArrayState n m) : Type 0 where
  pub rows : KeepsRows (rules_of e shape pace) (table_of shape xs)
  pub places : KeepsPlaces e shape array (rules_of e shape pace) (table_of shape xs)
  pub log : (log extra : List (Sense n m)) → log_of shape log ≡ senses_of xs ++ extra → All (λ s. s.pulses ≡ (array.line s.line).pulses) extra
      → KeepsLog e shape array (rules_of e shape pace) (table_of shape xs) log
  pub few_cancels : WaitsForReads shape pace xs

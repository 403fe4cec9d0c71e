-- That every run that was made can be printed.
use Rattle.std.specs.Prelude.{◌≡◌, ℕ, List, length}
use Rattle.cell_rows.specs.Device.{ArrayState}
use Rattle.trace_reader.specs.{Events.AreEventsFor, declared.event.Event.Event}
use Rattle.result_rows.specs.declared.Outcome.{Outcome}
use Rattle.module_shape.specs.{Limits.{IsShape, IsSmall, total_of}, declared.raw.RawShape.RawShape}
use Rattle.right_runs.specs.{Ends.BankEnd, Runs.RunsRight}
use Rattle.run_text.specs.ResultText.{ArePrintable}
use Rattle.pcm_top.specs.Rows.{rows_of}
use Rattle.module_prints.specs.WearReports.{HaveRoles}

-- each row of a right run can be printed, and each array line has a role
pub record CanBePrinted {n : ℕ} (raw : RawShape) (seed : ℕ)
    (events : List (Event n)) (outcomes : List (Outcome n)) (ends : ℕ → BankEnd) : Type 0 where
  pub rows : ArePrintable events outcomes
  pub roles : HaveRoles raw seed ends

abbrev pub PrintableLaw : Type 0
PrintableLaw =
    (n m e : ℕ) (raw : RawShape) (seed : ℕ) (events : List (Event n)) (outcomes : List (Outcome n))
    (array : ArrayState n m) (ends : ℕ → BankEnd)
    → IsShape raw → IsSmall raw → AreEventsFor (total_of raw) 0 events → length outcomes ≡ length events
    → RunsRight e raw seed (rows_of events outcomes) array ends → CanBePrinted raw seed events outcomes ends

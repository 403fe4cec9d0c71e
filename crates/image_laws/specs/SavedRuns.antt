-- What is saved of a finished run, and that its image says what that run was.
use Rattle.std.specs.Prelude.{◌≡◌, ℕ, ◌^◌, ◌<◌, Bool, true, false, List, map}
use Rattle.cell_rows.specs.Device.{ArrayState}
use Rattle.result_rows.specs.declared.Outcome.{Outcome}
use Rattle.row_rules.specs.declared.Row.{Row}
use Rattle.bank_model.specs.Timing.{TimedEvent}
use Rattle.module_shape.specs.{Limits.IsShape, declared.raw.RawShape.RawShape}
use Rattle.module_laws.specs.Asking.{Asked, row_with}
use Rattle.clock_laws.specs.State.{ClockState}
use Rattle.end_laws.specs.EndLaws.{IsEndOf}
use Rattle.right_runs.specs.{Ends.BankEnd, Runs.RunsRightTo}
use Rattle.run_laws.specs.Finishing.{IsFinishedTo}
use Rattle.pcm_image.specs.Saved.{Saved}
use Rattle.right_images.specs.{SavesRun.SavesRunTo, Saving.saved_of, SensedSince.SensedSince}

-- a saved module is what a finished run leaves: histories of its banks that asked for the rows and gave them their outcomes lead to
-- what it says that the banks keep, over an array of which only the first lines, so many, were sensed since
pub record IsLeftTo {n m : ℕ} (off : Bool) (e : ℕ) (raw : RawShape) (seed : ℕ) (rows : List (Row n)) (array : ArrayState n m) (s : Saved n m) : Type 0 where
  pub history : ℕ → List (TimedEvent n m)
  pub trace : List (Asked n)
  pub outcome : ℕ → Outcome n
  pub banks : ℕ → ClockState n m e
  pub before : ArrayState n m
  pub finished : IsFinishedTo raw seed off history trace banks before outcome
  pub rows_are : rows ≡ map (row_with outcome) trace
  pub saved : s ≡ saved_of raw seed (λ bank. (banks bank).bank.kept) before
  pub sensed : ℕ
  pub since : SensedSince sensed before array

abbrev pub IsLeft : {n m : ℕ} → ℕ → RawShape → ℕ → List (Row n) → ArrayState n m → Saved n m → Type 0
IsLeft e raw seed rows array s = IsLeftTo false e raw seed rows array s

-- what a run leaves that is over is saved as that of the run, by whichever ends of its banks the run is right
abbrev pub SavedToLaw : Bool → Type 0
SavedToLaw off =
    (n m e : ℕ) (raw : RawShape) (seed : ℕ) (rows : List (Row n)) (array : ArrayState n m) (ends : ℕ → BankEnd) (s : Saved n m) (left : IsLeftTo off e raw seed rows array s)
    → IsShape raw → seed < 2 ^ 64 → RunsRightTo e raw seed off rows array ends
    → ((bank : ℕ) → bank < raw.banks → IsEndOf (left.banks bank).bank.kept (ends bank))
    → SavesRunTo off e raw seed rows array ends s

-- what a finished run leaves
abbrev pub SavedLaw : Type 0
SavedLaw = SavedToLaw false

-- and what one leaves behind whose last row the power stays off
abbrev pub StoppedSavedLaw : Type 0
StoppedSavedLaw = SavedToLaw true

-- a right run stays right where its array is only sensed
abbrev pub StaysRightToLaw : Bool → Type 0
StaysRightToLaw off =
    (n m e : ℕ) (raw : RawShape) (seed : ℕ) (rows : List (Row n)) (array : ArrayState n m) (ends : ℕ → BankEnd) (s : Saved n m) (left : IsLeftTo off e raw seed rows array s)
    → IsShape raw → RunsRightTo e raw seed off rows left.before ends → RunsRightTo e raw seed off rows array ends

abbrev pub StaysRightLaw : Type 0
StaysRightLaw = StaysRightToLaw false

abbrev pub StaysStoppedLaw : Type 0
StaysStoppedLaw = StaysRightToLaw true

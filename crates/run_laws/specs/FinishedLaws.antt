-- What a finished run leaves, by the histories of its banks.
use Rattle.std.specs.Prelude.{◌≡◌, ℕ, ◌<◌, Bool, true, false, List, map}
use Rattle.cell_rows.specs.Device.{ArrayState}
use Rattle.result_rows.specs.declared.Outcome.{Outcome}
use Rattle.bank_model.specs.Timing.{TimedEvent, core}
use Rattle.module_shape.specs.{Addresses.{module_of, lines_of, bank_shape}, Limits.{IsShape, total_of}, declared.raw.RawShape.RawShape}
use Rattle.module_laws.specs.{Asking.{Asked, row_with}, Serves.AreLines}
use Rattle.clock_laws.specs.State.{ClockState}
use Rattle.end_laws.specs.EndLaws.{IsEndOf, end_of}
use Rattle.right_runs.specs.{Banks.{bank_of_line, line_in_bank, line_named}, Ends.BankEnd, Roles.HasOneRole, Runs.{RunsRight, RunsRightTo}}
use Rattle.row_rules.specs.declared.Row.{Row}
use Rattle.run_laws.specs.Finishing.{IsFinishedTo}

-- the lines of a module: each is of one of its banks, and no two have one number there
abbrev pub LinesLaw : Type 0
LinesLaw = (raw : RawShape) (seed : ℕ) → IsShape raw → AreLines raw.banks (total_of raw) (bank_of_line raw seed) (line_in_bank raw seed)

-- the end of each bank is that of what it keeps after its history
abbrev pub ends_of : {n m e : ℕ} → (ℕ → List (TimedEvent n m)) → (ℕ → ClockState n m e) → ℕ → BankEnd
ends_of h banks bank = end_of (banks bank).bank.kept (core (h bank))

-- a run that is over is right, and each end that it leaves is that of what the bank keeps
abbrev pub EndedLaw : Bool → Type 0
EndedLaw off =
    (n m e : ℕ) (raw : RawShape) (seed : ℕ) (h : ℕ → List (TimedEvent n m)) (trace : List (Asked n)) (banks : ℕ → ClockState n m e)
    (array : ArrayState n m) (outcome : ℕ → Outcome n)
    → IsShape raw → IsFinishedTo raw seed off h trace banks array outcome
    → RunsRightTo e raw seed off (map (row_with outcome) trace) array (ends_of h banks)
    × ((bank : ℕ) → bank < raw.banks → IsEndOf (banks bank).bank.kept (ends_of h banks bank))

-- so is a finished run
abbrev pub FinishedLaw : Type 0
FinishedLaw = EndedLaw false

-- and one behind whose last row the power stays off
abbrev pub StoppedLaw : Type 0
StoppedLaw = EndedLaw true

-- the line that is named by a bank and a number there: the name undoes the bank and the number, and each pair is of the line that it names
pub record AreNamed (raw : RawShape) (seed : ℕ) : Type 0 where
  pub named : (line : ℕ) → line_named raw seed (bank_of_line raw seed line) (line_in_bank raw seed line) ≡ line
  pub exists : (bank own : ℕ) → bank < raw.banks → own < lines_of (module_of raw) → line_named raw seed bank own < total_of raw
  pub bank : (bank own : ℕ) → own < lines_of (module_of raw) → bank_of_line raw seed (line_named raw seed bank own) ≡ bank
  pub number : (bank own : ℕ) → own < lines_of (module_of raw) → line_in_bank raw seed (line_named raw seed bank own) ≡ own

abbrev pub NamedLaw : Type 0
NamedLaw = (raw : RawShape) (seed : ℕ) → IsShape raw → AreNamed raw seed

-- after a right run each array line of a bank has one role: it holds one line of the module, or is a gap, a free spare,
-- retired or a control line
abbrev pub RolesLaw : Type 0
RolesLaw =
    (n m e : ℕ) (raw : RawShape) (seed : ℕ) (rows : List (Row n)) (array : ArrayState n m) (ends : ℕ → BankEnd) (bank at : ℕ)
    → IsShape raw → RunsRight e raw seed rows array ends → bank < raw.banks
    → HasOneRole (bank_shape (module_of raw) bank) (line_named raw seed bank) (ends bank) at

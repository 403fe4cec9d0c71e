-- When a run of a module is finished, told by the histories of its banks.
use Rattle.std.specs.Prelude.{◌≡◌, ℕ, ◌*◌, ◌<◌, Bool, true, false, List, Some, All}
use Rattle.cell_rows.specs.{Device.ArrayState, declared.array.Sense.Sense}
use Rattle.result_rows.specs.declared.Outcome.{Outcome}
use Rattle.bank_model.specs.{Adding.senses_of, Timing.TimedEvent}
use Rattle.bank_laws.specs.{Laws.log_of, Resting.EndsIn}
use Rattle.module_shape.specs.{Addresses.{module_of, array_lines_of, bank_shape}, Limits.total_of, declared.raw.RawShape.RawShape}
use Rattle.module_laws.specs.{Asking.{Asked, asked_of, AreAsked}, Serves.{AreRecorded, TicksFall}}
use Rattle.row_rules.specs.Lines.{IsOfLines}
use Rattle.clock_laws.specs.{Leads.Leads, State.ClockState}
use Rattle.right_runs.specs.Banks.{bank_of_line, line_in_bank, pacing_in}

module _ {n m e : ℕ} (raw : RawShape) (seed : ℕ) where
  -- each bank's history, which asked for the bank's rows, leads to what it is now, and nothing is left to do, or the power is off
  pub record IsFinishedTo (off : Bool) (h : ℕ → List (TimedEvent n m)) (trace : List (Asked n)) (banks : ℕ → ClockState n m e) (array : ArrayState n m) (outcome : ℕ → Outcome n) : Type 0 where
    pub size : array.lines ≡ raw.banks * array_lines_of (module_of raw)
    pub shapes : (bank : ℕ) → bank < raw.banks → (banks bank).bank.kept.shape ≡ bank_shape (module_of raw) bank
    pub paces : (bank : ℕ) → bank < raw.banks → (banks bank).pace ≡ pacing_in raw
    pub leads : (bank : ℕ) → bank < raw.banks → Leads (h bank) (banks bank) array
    pub idle : (bank : ℕ) → bank < raw.banks → EndsIn off (bank_shape (module_of raw) bank) (pacing_in raw) (h bank)
    pub asked : (bank : ℕ) → bank < raw.banks → AreAsked (h bank) (asked_of (bank_of_line raw seed) (line_in_bank raw seed) bank trace)
    pub recorded : (bank : ℕ) → bank < raw.banks
        → AreRecorded (bank_shape (module_of raw) bank) (h bank) outcome (asked_of (bank_of_line raw seed) (line_in_bank raw seed) bank trace)
    pub ticks : TicksFall trace
    pub exist : All (λ a. IsOfLines (total_of raw) a.asks) trace
    pub log : (log : List (Sense n m)) → array.log ≡ Some log → (bank : ℕ) → bank < raw.banks
        → log_of (bank_shape (module_of raw) bank) log ≡ senses_of (h bank)

  -- nothing is left to do
  abbrev pub IsFinished : (ℕ → List (TimedEvent n m)) → List (Asked n) → (ℕ → ClockState n m e) → ArrayState n m → (ℕ → Outcome n) → Type 0
  IsFinished = IsFinishedTo false

  -- the last row was a power cut
  abbrev pub IsStopped : (ℕ → List (TimedEvent n m)) → List (Asked n) → (ℕ → ClockState n m e) → ArrayState n m → (ℕ → Outcome n) → Type 0
  IsStopped = IsFinishedTo true

-- That the histories of a module's banks replay what was asked of it.
use Rattle.std.specs.Prelude.{◌≡◌, ℕ, ◌*◌, ◌<◌, ◌≤◌, false, List, [], ◌∷◌, All, Some, IsSomeAnd, slice_get}
use Rattle.cell_rows.specs.{Device.ArrayState, declared.array.Sense.Sense}
use Rattle.result_rows.specs.{Table.HasRow, declared.Outcome.Outcome}
use Rattle.result_rows.specs.declared.Outcome.TheVariants as out
use Rattle.row_rules.specs.{Lines.IsOfLines, declared.Asks.Asks, declared.Asks.TheVariants.{Reads, Writes, Cuts}}
use Rattle.bank_shape.specs.{declared.BankShape.BankShape, declared.pace.Pace.Pace}
use Rattle.bank_model.specs.{Adding.senses_of, Timing.TimedEvent}
use Rattle.bank_laws.specs.{Laws.log_of, Outcomes.outcome_of}
use Rattle.module_shape.specs.{Addresses.{module_of, bank_shape, array_lines_of}, Limits.total_of}
use Rattle.module_laws.specs.{Asking.{Asked, asked_of, AreAsked}, Serves.TicksFall}
use Rattle.clock_laws.specs.{Leads.Leads, State.ClockState}
use Rattle.bank_timing.specs.Extending.{AreOpen, outcome_in}
use Rattle.right_runs.specs.Banks.{pacing_in, bank_of_line, line_in_bank}
use Rattle.pcm_module.specs.State.{ModuleState}

-- the outcome so far of a row that asks this
abbrev pub outcome_so_far : {n m : ℕ} → BankShape → List (TimedEvent n m) → Asked n → Asks n → Outcome n
outcome_so_far shape xs a (Reads line) = outcome_of shape xs a.row
outcome_so_far shape xs a (Writes line bytes given) = outcome_of shape xs a.row
outcome_so_far shape xs a Cuts = out.Cut a.tick

-- the numbers of the rows, the newest first, fall
abbrev pub RowsFall : {n : ℕ} → List (Asked n) → Type 0
RowsFall [] = Unit {0}
RowsFall (a ∷ asked) = All (λ b. b.row < a.row) asked × RowsFall asked

-- where the array tells its log, the senses of a bank's lines there are those of its history
abbrev pub IsLogged : {n m : ℕ} → BankShape → List (TimedEvent n m) → ArrayState n m → Type 0
IsLogged {n} {m} shape xs array = (log : List (Sense n m)) → array.log ≡ Some log → log_of shape log ≡ senses_of xs

-- a history leads to a bank of this shape and pace, which is not past a tick and may still go on; its rows are what was asked of the
-- bank, below a bound, and these have the history's outcomes, none as long as they stand
pub record BankReplays {n m e : ℕ} (shape : BankShape) (pace : Pace) (tick rows : ℕ) (xs : List (TimedEvent n m)) (asked : List (Asked n)) (array : ArrayState n m) (results : List (Outcome n)) (clock : ClockState n m e) : Type 0 where
  pub shaped : clock.bank.kept.shape ≡ shape
  pub paced : clock.pace ≡ pace
  pub going : clock.drained ≡ false
  pub in_time : clock.tick ≤ tick
  pub below : clock.bank.rows_below ≤ rows
  pub leads : Leads xs clock array
  pub logged : IsLogged shape xs array
  pub open_rows : AreOpen clock.bank results
  pub arrived : AreAsked xs asked
  pub recorded : All (λ a. outcome_in results a.row ≡ outcome_so_far shape xs a a.asks) asked

module _ {n m e : ℕ} (module_ : ModuleState n m e) where
  -- what was asked of one bank, with the numbers that the lines have there
  abbrev pub asked_in_bank : ℕ → List (Asked n) → List (Asked n)
  asked_in_bank bank asked = asked_of (bank_of_line module_.shape module_.seed) (line_in_bank module_.shape module_.seed) bank asked

  -- a history replays what was asked of a bank of the module
  abbrev pub ReplaysIn : ℕ → List (TimedEvent n m) → List (Asked n) → ArrayState n m → List (Outcome n) → ClockState n m e → Type 0
  ReplaysIn bank xs asked array results clock =
      BankReplays (bank_shape (module_of module_.shape) bank) (pacing_in module_.shape) module_.tick module_.rows_below xs
      (asked_in_bank bank asked) array results clock

-- these histories of the banks, which asked for these rows, the newest first, lead to the module over the array, and the results
-- have their outcomes so far; the rows are of lines of the module, their ticks and numbers rise, and they are in the results
pub record Replays {n m e : ℕ} (h : ℕ → List (TimedEvent n m)) (asked : List (Asked n)) (module_ : ModuleState n m e) (array : ArrayState n m) (results : List (Outcome n)) : Type 0 where
  pub size : array.lines ≡ module_.shape.banks * array_lines_of (module_of module_.shape)
  pub banks : (bank : ℕ) → bank < module_.shape.banks
      → IsSomeAnd (slice_get module_.banks bank) (ReplaysIn module_ bank (h bank) asked array results)
  pub exist : All (λ a. IsOfLines (total_of module_.shape) a.asks) asked
  pub ticks : TicksFall asked
  pub in_time : All (λ a. a.tick ≤ module_.tick) asked
  pub rows : RowsFall asked
  pub below : All (λ a. a.row < module_.rows_below) asked
  pub in_table : All (λ a. HasRow results a.row) asked

-- some histories replay something that was asked
abbrev pub IsReplayed : {n m e : ℕ} → ModuleState n m e → ArrayState n m → List (Outcome n) → Type 0
IsReplayed {n} {m} module_ array results = (h : ℕ → List (TimedEvent n m)) × (asked : List (Asked n)) × Replays h asked module_ array results

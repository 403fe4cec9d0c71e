-- How far the banks of a module were drained.
use Rattle.std.specs.Prelude.{◌≡◌, ℕ, ◌*◌, ◌<◌, ◌≤◌, nat_lt, Bool, true, false, List, [], ◌∷◌, ◌++◌, length, IsSomeAnd, slice_get}
use Rattle.cell_rows.specs.Device.{ArrayState}
use Rattle.result_rows.specs.{Table.HasRow, declared.Outcome.Outcome}
use Rattle.bank_shape.specs.{declared.BankShape.BankShape, declared.pace.Pace.Pace}
use Rattle.bank_model.specs.Timing.{TimedEvent}
use Rattle.bank_laws.specs.Resting.{IsCutOff, EndsIn}
use Rattle.module_shape.specs.{Addresses.{module_of, bank_shape, array_lines_of}, Limits.IsShape}
use Rattle.row_rules.specs.declared.Asks.TheVariants.{Cuts}
use Rattle.module_laws.specs.{Asking.{Asked, AreAsked}, Serves.AreRecorded}
use Rattle.clock_laws.specs.{Leads.Leads, State.ClockState}
use Rattle.bank_timing.specs.Extending.{outcome_in, last_tick}
use Rattle.right_runs.specs.Banks.{pacing_in}
use Rattle.pcm_module.specs.{Replaying.{IsLogged, Replays, ReplaysIn, asked_in_bank}, State.{ModuleState, StandsNowhere}, Taking.StaysBeyond}

-- the last row that was asked for is a power cut, at this tick
abbrev pub IsLastCut : {n : ℕ} → ℕ → List (Asked n) → Type 0
IsLastCut tick [] = ⊥
IsLastCut tick (a ∷ asked) = (a.tick ≡ tick) × (a.asks ≡ Cuts)

-- the power may stay off only behind a power cut
abbrev pub MayEnd : {n : ℕ} → Bool → ℕ → List (Asked n) → Type 0
MayEnd false tick asked = Unit {0}
MayEnd true tick asked = IsLastCut tick asked

abbrev pub MayStop : {n m : ℕ} → Bool → List (TimedEvent n m) → Type 0
MayStop false xs = Unit {0}
MayStop true xs = IsCutOff xs

-- a whole history leads to a bank of this shape and pace with nothing left to do, or behind a power cut, and each row that was asked of
-- the bank has its last outcome
pub record IsDrainedTo {n m e : ℕ} (off : Bool) (shape : BankShape) (pace : Pace) (xs : List (TimedEvent n m)) (asked : List (Asked n)) (array : ArrayState n m) (results : List (Outcome n)) (clock : ClockState n m e) : Type 0 where
  pub shaped : clock.bank.kept.shape ≡ shape
  pub paced : clock.pace ≡ pace
  pub leads : Leads xs clock array
  pub idle : EndsIn off shape pace xs
  pub logged : IsLogged shape xs array
  pub arrived : AreAsked xs asked
  pub recorded : AreRecorded shape xs (outcome_in results) asked

module _ {n m e : ℕ} (off : Bool) (module_ : ModuleState n m e) where
  -- a module with these banks may be finished: its last row is in time, and some histories replay what was asked of it
  pub record MayFinish (banks : List (ClockState n m e)) (array : ArrayState n m) (results : List (Outcome n)) : Type 0 where
    pub same : module_.banks ≡ banks
    pub count : length banks ≡ module_.shape.banks
    pub in_time : module_.tick ≤ last_tick
    pub in_range : IsShape module_.shape
    pub led : (h : ℕ → List (TimedEvent n m)) × (asked : List (Asked n)) × Replays h asked module_ array results × MayEnd off module_.tick asked

  -- a bank was drained, or its history replays what was asked of it
  abbrev pub DrainedIf : Bool → ℕ → List (TimedEvent n m) → List (Asked n) → ArrayState n m → List (Outcome n) → ClockState n m e → Type 0
  DrainedIf true bank xs asked array results clock =
      IsDrainedTo off (bank_shape (module_of module_.shape) bank) (pacing_in module_.shape) xs (asked_in_bank module_ bank asked) array results clock
  DrainedIf false bank xs asked array results clock = ReplaysIn module_ bank xs asked array results clock

  -- the banks below this number were drained, and those from it on are as before; each bank's history goes on
  pub record AreDrained (reached : ℕ) (banks : List (ClockState n m e)) (before after : ArrayState n m) (results recorded : List (Outcome n)) : Type 0 where
    pub count : length banks ≡ module_.shape.banks
    pub ahead : (bank : ℕ) → reached ≤ bank → slice_get banks bank ≡ slice_get module_.banks bank
    pub rows : length recorded ≡ length results
    pub replays : (h : ℕ → List (TimedEvent n m)) (asked : List (Asked n)) → Replays h asked module_ before results → MayEnd off module_.tick asked
        → (added : ℕ → List (TimedEvent n m)) × ((bank : ℕ) → bank < module_.shape.banks
        → IsSomeAnd (slice_get banks bank) (DrainedIf (nat_lt bank reached) bank (added bank ++ h bank) asked after recorded))
    pub others : (row : ℕ) → HasRow results row → StandsNowhere module_ row → outcome_in recorded row ≡ outcome_in results row
    pub stays : StaysBeyond (module_.shape.banks * array_lines_of (module_of module_.shape)) before after

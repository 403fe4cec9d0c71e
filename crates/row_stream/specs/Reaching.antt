-- How far a settle goes until a row has its outcome, or until any row has.
use Rattle.std.specs.Prelude.{◌≡◌, ◌≢◌, ◌⊎◌, ℕ, ◌<◌, ◌≤◌, All, List, [], Some, None}
use Rattle.result_rows.specs.{Outcomes.tick_of, declared.Outcome.Outcome, declared.Outcome.TheVariants.Unset}
use Rattle.bank_timing.specs.Extending.{outcome_in}
use Rattle.trace_stream.specs.{declared.asked.Asked.Asked, declared.asked.Asked.TheVariants.{Happens, Settle, Query, Look, Peek, Until, UntilAny}, declared.asked.Until.Until as Waited}
use Rattle.trace_stream.specs.declared.asked.UntilAny.{UntilAny as Awaited}

module _ {n : ℕ} where
  -- a row has no outcome yet, or has it at this tick
  abbrev pub IsUnsetOrAt : ℕ → Outcome n → Type 0
  IsUnsetOrAt tick outcome = (tick_of outcome ≡ None) ⊎ (tick_of outcome ≡ Some tick)

  -- an outcome came by a tick
  abbrev pub CameBy : ℕ → Outcome n → Type 0
  CameBy high outcome = (tick : ℕ) × (tick ≤ high) × (tick_of outcome ≡ Some tick)

  -- an outcome came behind a tick, and by another one
  abbrev pub CameBetween : ℕ → ℕ → Outcome n → Type 0
  CameBetween low high outcome = (tick : ℕ) × ((low < tick) × (tick ≤ high)) × (tick_of outcome ≡ Some tick)

  -- a settle until went on to the first tick behind which its row has an outcome: none before the one at which the module stood; its own, where the row
  -- has no outcome yet; and where it went on at all, none behind the one at which the row has its outcome
  pub record HasReached (before : ℕ) (until : Waited) (outcome : Outcome n) : Type 0 where
    pub from : before ≤ until.reached
    pub within : until.reached ≤ until.limit
    pub known : (outcome ≢ Unset) ⊎ (until.reached ≡ until.limit)
    pub first : (until.reached ≡ before) ⊎ IsUnsetOrAt until.reached outcome

  -- a settle until any row has its outcome went on to the first tick behind which one has that had none, and told these outcomes: no tick before the one at
  -- which the module stood; its own, where none came; and where it went on at all, all of them came at the tick that it reached
  pub record HasFound (before : ℕ) (until : Awaited) (outcomes : List (ℕ × Outcome n)) : Type 0 where
    pub from : before ≤ until.reached
    pub within : until.reached ≤ until.limit
    pub known : (outcomes ≢ []) ⊎ (until.reached ≡ until.limit)
    pub first : (until.reached ≡ before) ⊎ All (λ one. tick_of one.1 ≡ Some until.reached) outcomes

  -- a settle until a row has its outcome goes so far, by the outcomes that are known behind it
  abbrev pub ReachesBy : ℕ → Asked n → List (Outcome n) → Type 0
  ReachesBy before (Happens event) outcomes = Unit {0}
  ReachesBy before (Settle tick) outcomes = Unit {0}
  ReachesBy before (Query tick) outcomes = Unit {0}
  ReachesBy before (Look tick) outcomes = Unit {0}
  ReachesBy before (Peek peek) outcomes = Unit {0}
  ReachesBy before (Until until) outcomes = HasReached before until (outcome_in outcomes until.row)
  ReachesBy before (UntilAny until) outcomes = Unit {0}

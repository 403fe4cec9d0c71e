-- In which order a bank tells outcomes.
use Rattle.std.specs.Prelude.{◌≡◌, ◌⊎◌, ℕ, zero, suc, ◌≤◌, Bool, true, false, List, Some}
use Rattle.result_rows.specs.{Outcomes.tick_of, Table.HasRow, declared.Outcome.Outcome}
use Rattle.row_rules.specs.Answers.{is_queued}
use Rattle.bank_timing.specs.Extending.{outcome_in}

-- an outcome of this tick, and not that of a write that stays queued
pub record IsKnownAt {n : ℕ} (tick : ℕ) (outcome : Outcome n) : Type 0 where
  pub at : tick_of outcome ≡ Some tick
  pub known : is_queued outcome ≡ false

module _ {n : ℕ} {R : Type 0} (goes_on : R → R → Type 0) (table : R → List (Outcome n)) where
  -- outcomes of this kind were told, no others
  pub record Tells (Are : Outcome n → Type 0) (old new : R) : Type 0 where
    pub on : goes_on old new
    pub rows : (row : ℕ) → HasRow (table old) row
        → (outcome_in (table new) row ≡ outcome_in (table old) row) ⊎ Are (outcome_in (table new) row)

  -- so many times outcomes of one tick were told, at ticks that never fall from one time to the next, up to this one
  abbrev pub TellsBy : ℕ → ℕ → R → R → Type 0
  TellsBy zero to old new = old ≡ new
  TellsBy (suc times) to old new =
      (between : R) × (tick : ℕ) × (tick ≤ to) × TellsBy times tick old between × Tells (λ outcome. IsKnownAt tick outcome) between new

  -- outcomes were told in the order of their ticks, up to this one
  pub record TellsUpTo (to : ℕ) (old new : R) : Type 0 where
    pub times : ℕ
    pub steps : TellsBy times to old new

  -- where nothing comes any more, outcomes of writes that stay queued were told, and else none
  abbrev pub TellsLeft : Bool → R → R → Type 0
  TellsLeft false old new = old ≡ new
  TellsLeft true old new = Tells (λ outcome. is_queued outcome ≡ true) old new

  -- outcomes were told in the order of their ticks, and where nothing comes any more those of writes that stay queued behind them
  pub record TellsInTurn (ends : Bool) (old new : R) : Type 0 where
    pub to : ℕ
    pub between : R
    pub first : TellsUpTo to old between
    pub left : TellsLeft ends between new

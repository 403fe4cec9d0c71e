-- Where a relation of what is told follows from another one, so do the orders in which outcomes are told.
use Rattle.std.proofs.Common.{ℕ, zero, suc, Bool, true, false, List}
use Rattle.result_rows.specs.declared.Outcome.{Outcome}
use Rattle.row_rules.specs.{declared.Asks.Asks, declared.Asks.TheVariants.{Reads, Writes, Cuts}}
use Rattle.bank_timing.specs.Telling.{IsKnownAt, Tells, TellsBy, TellsInTurn, TellsLeft}
use Rattle.pcm_module.specs.{State.ModuleState, Telling.{TellsByBanks, TellsFor, TellsOf, rows_at, rows_taking}}

module _ {n : ℕ} {R : Type 0} (First Second : R → R → Type 0) (so : (old new : R) → First old new → Second old new) (table : R → List (Outcome n)) where
  tells-so : (Are : Outcome n → Type 0) (old new : R) → Tells First table Are old new → Tells Second table Are old new
  tells-so Are old new had = record { on = so old new had.on; rows = had.rows }

  by-so : (times to : ℕ) (old new : R) → TellsBy First table times to old new → TellsBy Second table times to old new
  by-so zero to old new had = had
  by-so (suc times) to old new had = (had.0, had.1, had.2, by-so times had.1 old had.0 had.3, tells-so (λ outcome. IsKnownAt had.1 outcome) had.0 new had.4)

  left-so : (ends : Bool) (old new : R) → TellsLeft First table ends old new → TellsLeft Second table ends old new
  left-so false old new had = had
  left-so true old new had = tells-so _ old new had

  turn-so : (ends : Bool) (old new : R) → TellsInTurn First table ends old new → TellsInTurn Second table ends old new
  turn-so ends old new had = record {
    to = had.to;
    between = had.between;
    first = record { times = had.first.times; steps = by-so had.first.times had.to old had.between had.first.steps };
    left = left-so ends had.between new had.left;
  }

  of-so : (ends : Bool) (rows : ℕ → Bool) (old new : R) → TellsOf First table ends rows old new → TellsOf Second table ends rows old new
  of-so ends rows old new had = record { on = so old new had.on; others = had.others; in_turn = turn-so ends old new had.in_turn }

  pub banks-so : (ends : Bool) (rows : ℕ → ℕ → Bool) (banks : ℕ) (old new : R) → TellsByBanks First table ends rows banks old new → TellsByBanks Second table ends rows banks old new
  banks-so ends rows zero old new had = had
  banks-so ends rows (suc bank) old new had = (had.0, banks-so ends rows bank old had.0 had.1, of-so ends (rows bank) had.0 new had.2)

  pub for-so : {m e : ℕ} (module_ : ModuleState n m e) (row : ℕ) (asks : Asks n) (old new : R) → TellsFor First table module_ row asks old new → TellsFor Second table module_ row asks old new
  for-so module_ row (Reads line) old new had = of-so false (rows_taking module_ row line) old new had
  for-so module_ row (Writes line bytes given) old new had = of-so false (rows_taking module_ row line) old new had
  for-so module_ row Cuts old new had = (had.0, banks-so false (rows_at module_) module_.shape.banks old had.0 had.1, of-so false _ had.0 new had.2)

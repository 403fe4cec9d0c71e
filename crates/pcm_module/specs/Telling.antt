-- Which banks of a module tell outcomes, and in which order.
use Rattle.std.specs.Prelude.{◌≡◌, ℕ, zero, suc, ◌==◌, ◌||◌, ◌&&◌, Bool, false, List, [], ◌∷◌}
use Rattle.masked_bytes.specs.Entries.{has_row}
use Rattle.result_rows.specs.{Table.HasRow, declared.Outcome.Outcome}
use Rattle.row_rules.specs.{declared.Asks.Asks, declared.Asks.TheVariants.{Reads, Writes, Cuts}}
use Rattle.bank_invariant.specs.State.{BankState}
use Rattle.module_laws.specs.Asking.{Asked}
use Rattle.clock_laws.specs.Standing.{has_waiting}
use Rattle.bank_timing.specs.{Extending.outcome_in, Telling.TellsInTurn}
use Rattle.right_runs.specs.Banks.{bank_of_line}
use Rattle.pcm_module.specs.State.{ModuleState, bank_at}

-- whether a row stands in the queue of a bank, or waits there
abbrev pub has_standing : {n m e : ℕ} → BankState n m e → ℕ → Bool
has_standing bank row = has_row bank.kept.entries row || has_waiting bank.waiting row

-- whether what a row asks is of a line of a bank, where each line has its home: a cut is of none
abbrev pub comes_to : {n : ℕ} → (ℕ → ℕ) → ℕ → Asks n → Bool
comes_to home bank (Reads line) = home line == bank
comes_to home bank (Writes line bytes given) = home line == bank
comes_to home bank Cuts = false

-- whether a row is one of those that were asked of a bank
abbrev pub is_asked_of : {n : ℕ} → (ℕ → ℕ) → ℕ → List (Asked n) → ℕ → Bool
is_asked_of home bank [] row = false
is_asked_of home bank (a ∷ asked) row = (comes_to home bank a.asks && a.row == row) || is_asked_of home bank asked row

module _ {n m e : ℕ} (module_ : ModuleState n m e) where
  -- the rows of a bank: those that stand there
  abbrev pub rows_at : ℕ → ℕ → Bool
  rows_at bank = has_standing (bank_at module_ bank).bank

  -- the rows of a line's own bank as one of that line is taken: those that stand there, and that one
  abbrev pub rows_taking : ℕ → ℕ → ℕ → Bool
  rows_taking row line other = rows_at (bank_of_line module_.shape module_.seed line) other || row == other

module _ {n : ℕ} {R : Type 0} (goes_on : R → R → Type 0) (table : R → List (Outcome n)) where
  -- outcomes of these rows alone were told, in the order of their ticks, and where nothing comes any more those of writes that stay queued behind them
  pub record TellsOf (ends : Bool) (rows : ℕ → Bool) (old new : R) : Type 0 where
    pub on : goes_on old new
    pub others : (row : ℕ) → HasRow (table old) row → rows row ≡ false → outcome_in (table new) row ≡ outcome_in (table old) row
    pub in_turn : TellsInTurn goes_on table ends old new

  -- bank by bank, so many from the first on: with each, outcomes of its rows alone
  abbrev pub TellsByBanks : Bool → (ℕ → ℕ → Bool) → ℕ → R → R → Type 0
  TellsByBanks ends rows zero old new = old ≡ new
  TellsByBanks ends rows (suc bank) old new = (between : R) × TellsByBanks ends rows bank old between × TellsOf ends (rows bank) between new

  -- and behind the banks at most the outcome of a row that was taken
  abbrev pub TellsInOrder : (ℕ → ℕ → Bool) → ℕ → ℕ → R → R → Type 0
  TellsInOrder rows banks row old new = (between : R) × TellsByBanks false rows banks old between × TellsOf false (λ other. row == other) between new

  -- as a row is taken that asks this: one of a line makes the line's own bank alone tell; at a cut the banks tell one by one, and behind them the cut's own row
  abbrev pub TellsFor : {m e : ℕ} → ModuleState n m e → ℕ → Asks n → R → R → Type 0
  TellsFor module_ row (Reads line) old new = TellsOf false (rows_taking module_ row line) old new
  TellsFor module_ row (Writes line bytes given) old new = TellsOf false (rows_taking module_ row line) old new
  TellsFor module_ row Cuts old new = TellsInOrder (rows_at module_) module_.shape.banks row old new

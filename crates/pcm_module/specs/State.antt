-- What contracts see of a module.
use Rattle.std.specs.Prelude.{◌≡◌, ℕ, zero, suc, ◌<◌, Bool, false, List, [], ◌∷◌, IsSomeAnd, slice_get, unwrap_or}
use Rattle.masked_bytes.specs.Entries.{has_row}
use Rattle.cell_rows.specs.Device.{ArrayState}
use Rattle.power_recovery.specs.Kept.{KeptState, stands_at}
use Rattle.bank_invariant.specs.Holds.{stands_for}
use Rattle.module_shape.specs.{Addresses.{module_of, bank_shape}, declared.raw.RawShape.RawShape}
use Rattle.clock_laws.specs.{Standing.has_waiting, State.ClockState}
use Rattle.bank_timing.specs.Extending.{first_clock}
use Rattle.end_laws.specs.EndLaws.{IsEndOf}
use Rattle.right_runs.specs.{Banks.{pacing_in, bank_of_line, line_in_bank}, Ends.BankEnd}

-- a module: its sizes, the seed of its randomiser, its banks in order, the tick of the last row and a bound above the rows that were
-- handed in, and whether it was finished, so that nothing comes any more
pub record ModuleState (n m e : ℕ) : Type 0 where
  pub shape : RawShape
  pub seed : ℕ
  pub banks : List (ClockState n m e)
  pub tick : ℕ
  pub rows_below : ℕ
  pub finished : Bool

-- the bank of this number, just made
abbrev pub first_bank : {n m e : ℕ} → RawShape → ℕ → ClockState n m e
first_bank raw bank = first_clock (bank_shape (module_of raw) bank) (pacing_in raw)

-- so many banks that were just made, from the one of this number on
abbrev pub banks_from : {n m e : ℕ} → RawShape → ℕ → ℕ → List (ClockState n m e)
banks_from raw zero bank = []
banks_from raw (suc banks) bank = first_bank raw bank ∷ banks_from raw banks (suc bank)

module _ {n m e : ℕ} (module_ : ModuleState n m e) where
  -- the bank of this number; where there is none, one that was just made
  abbrev pub bank_at : ℕ → ClockState n m e
  bank_at bank = unwrap_or (slice_get module_.banks bank) (first_bank module_.shape bank)

  -- the array line of a line: where it stands in its bank
  abbrev pub stands_in : ℕ → ℕ
  stands_in line = stands_at (bank_at (bank_of_line module_.shape module_.seed line)).bank.kept (line_in_bank module_.shape module_.seed line)

  -- what the bank of a line keeps
  abbrev pub kept_for : ℕ → KeptState n
  kept_for line = (bank_at (bank_of_line module_.shape module_.seed line)).bank.kept

  -- the bytes that stand for a line now: those that its bank's queue gives, laid over what the array line is read as at which the bank's
  -- registers and remap table put it
  abbrev pub stand_now : ArrayState n m → ℕ → List ℕ
  stand_now array line = stands_for e (kept_for line) array (line_in_bank module_.shape module_.seed line)

  -- a row stands in the queue of no bank, and waits at none
  abbrev pub StandsNowhere : ℕ → Type 0
  StandsNowhere row =
      (bank : ℕ) → bank < module_.shape.banks
      → (has_row (bank_at bank).bank.kept.entries row ≡ false) × (has_waiting (bank_at bank).bank.waiting row ≡ false)

  -- each bank's end is that of what the bank keeps
  abbrev pub AreEndsOf : (ℕ → BankEnd) → Type 0
  AreEndsOf ends = (bank : ℕ) → bank < module_.shape.banks → IsSomeAnd (slice_get module_.banks bank) (λ clock. IsEndOf clock.bank.kept (ends bank))

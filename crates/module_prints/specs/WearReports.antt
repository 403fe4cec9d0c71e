-- What the wear report says of the array lines of a module.
use Rattle.std.specs.Prelude.{◌≡◌, ℕ, ◌/◌, ◌<◌, List, length, IsSomeAnd, slice_get, Option}
use Rattle.cell_rows.specs.{Device.ArrayState, Rows.cell, Told.wear_told}
use Rattle.ecp_line.specs.Layout.{active}
use Rattle.lines_report.specs.declared.row.LineCells.{LineCells}
use Rattle.bank_shape.specs.declared.Role.{Role}
use Rattle.module_shape.specs.{Addresses.{module_of, array_lines_of, bank_shape}, declared.raw.RawShape.RawShape}
use Rattle.right_runs.specs.{Banks.line_named, Ends.BankEnd, Roles.{HasOneRole, IsRole}}

-- the bank of an array line of a module of these sizes
abbrev pub bank_with : RawShape → ℕ → ℕ
bank_with raw line = line / array_lines_of (module_of raw)

-- over a module of these sizes, whose randomiser has this seed
module _ (raw : RawShape) (seed : ℕ) where
  -- by these ends each array line has one role
  abbrev pub HaveRoles : (ℕ → BankEnd) → Type 0
  HaveRoles ends =
      (bank at : ℕ) → bank < raw.banks
      → HasOneRole (bank_shape (module_of raw) bank) (line_named raw seed bank) (ends bank) at

module _ {n m : ℕ} (raw : RawShape) (seed : ℕ) where
  -- what the wear report says of an array line: its bank, its pulses, and the role that the end of its bank
  -- gives it
  pub record IsWearRow (ends : ℕ → BankEnd) (array : ArrayState n m) (line : ℕ) (row : ℕ × ℕ × Role)
      : Type 0 where
    pub bank : row.0 ≡ bank_with raw line
    pub pulses : row.1 ≡ (array.line line).pulses
    pub role : IsRole (bank_shape (module_of raw) (bank_with raw line))
        (line_named raw seed (bank_with raw line)) (ends (bank_with raw line)) line row.2

  -- it has one row for each
  pub record IsWearReport (ends : ℕ → BankEnd) (array : ArrayState n m) (rows : List (ℕ × ℕ × Role))
      : Type 0 where
    pub one_each : length rows ≡ array.lines
    pub each : (line : ℕ) → line < array.lines → IsSomeAnd (slice_get rows line) (IsWearRow ends array line)

-- what the cells of an array line say, which has e error-correcting pointers: those that are active by its check cells, and what the
-- array tells, which counts these changes of cells, and what it was driven and sensed
abbrev pub cells_at : {n m : ℕ} → ℕ → ArrayState n m → (ℕ → Option (ℕ → ℕ)) → ℕ → LineCells
cells_at {n} e array changes line = record {
  pointers = active n e (cell (array.line line).held);
  wear = wear_told (array.line line) (changes line);
  energy = array.energy line;
}

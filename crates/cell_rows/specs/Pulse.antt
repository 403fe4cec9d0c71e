-- When a pulse is lawful.
use Rattle.std.specs.Prelude.{ℕ, ◌≡◌, ◌≢◌, ◌+◌, ◌*◌, ◌<◌, true}
use Rattle.cell_rows.specs.{Rows.cell, declared.row.Cells.Cells}

-- the mask is not empty, and each masked cell differs from what is wanted
pub record IsPulse {B M : ℕ} (mask want held : Cells B M) : Type 0 where
  pub some : (n : ℕ) × (n < 8 * (B + M)) × (cell mask n ≡ true)
  pub differs : (n : ℕ) → cell mask n ≡ true → cell held n ≢ cell want n

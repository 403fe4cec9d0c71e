-- What the lines of an array are read as, and which of them are worn.
use Rattle.std.specs.Prelude.{ℕ, List, Bool}
use Rattle.cell_rows.specs.Device.{ArrayState}
use Rattle.ecp_line.specs.Reading.{decode, is_worn_line}

-- what an array line is read as
abbrev pub decoded : {n m : ℕ} → ℕ → ArrayState n m → ℕ → List ℕ
decoded e array line = decode e (array.line line).held

-- whether an array line is worn
abbrev pub is_worn_at : {n m : ℕ} → ℕ → ArrayState n m → ℕ → Bool
is_worn_at e array line = is_worn_line e (array.line line).held (array.line line).stuck

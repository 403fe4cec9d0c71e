-- The unused check cells of a line, those behind the cell `full`, as they are powered up.
use Rattle.std.specs.Prelude.{◌≡◌, ℕ, false, ◌<◌, ◌+◌}
use Rattle.cell_rows.specs.{Device.{LineState, ArrayState}, Rows.cell}
use Rattle.ecp_line.specs.Layout.{full_cell}

module _ {n m : ℕ} where
  -- a cell as it is powered up: it holds 0, is live, and has no miss. A pulse of it, which would want a 1, ends one of these
  pub record IsUntouched (line : LineState n m) (number : ℕ) : Type 0 where
    pub held : cell line.held number ≡ false
    pub live : line.stuck number ≡ false
    pub unmissed : line.misses number ≡ 0

  -- every unused check cell of a line with e entries is untouched
  abbrev pub HasUntouched : ℕ → LineState n m → Type 0
  HasUntouched e line = (number : ℕ) → full_cell n e < number → IsUntouched line number

  -- and of so many lines of an array, from one on
  abbrev pub AreUntouched : ℕ → ArrayState n m → ℕ → ℕ → Type 0
  AreUntouched e array from lines = (line : ℕ) → line < lines → HasUntouched e (array.line (from + line))

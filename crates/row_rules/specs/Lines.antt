-- The lines that rows may ask for.
use Rattle.std.specs.Prelude.{ℕ, ◌<◌}
use Rattle.row_rules.specs.{declared.Asks.Asks, declared.Asks.TheVariants.{Reads, Writes, Cuts}}

-- what is asked is of one of so many lines, or of none
abbrev pub IsOfLines : {n : ℕ} → ℕ → Asks n → Type 0
IsOfLines lines (Reads line) = line < lines
IsOfLines lines (Writes line bytes given) = line < lines
IsOfLines lines Cuts = Unit {0}

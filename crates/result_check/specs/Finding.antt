-- The line that is asked for, and the line that is written.
use Rattle.std.specs.Prelude.{ℕ, Option, Some, None}
use Rattle.row_rules.specs.{declared.Asks.Asks, declared.Asks.TheVariants.{Reads, Writes, Cuts}}

-- the line that is asked for
abbrev pub line_asked : {n : ℕ} → Asks n → Option ℕ
line_asked (Reads line) = Some line
line_asked (Writes line bytes given) = Some line
line_asked Cuts = None

-- the line that is written
abbrev pub line_written : {n : ℕ} → Asks n → Option ℕ
line_written (Reads line) = None
line_written (Writes line bytes given) = Some line
line_written Cuts = None

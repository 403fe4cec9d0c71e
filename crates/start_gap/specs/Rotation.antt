-- Start-Gap: a region of n lines in n+1 places, by its two registers and in closed form.
use Rattle.std.specs.Prelude.{◌≡◌, ℕ, ◌+◌, ◌-◌, ◌*◌, ◌/◌, ◌%◌, ◌<◌, ◌≤◌, ◌==◌, nat_lt, if◌then◌else◌}
use Rattle.start_gap.specs.declared.Move.{Move}

-- what the registers hold: how many lines rotate, and the two registers
pub record Rotation : Type 0 where
  pub lines : ℕ
  pub start : ℕ
  pub gap : ℕ

-- the most lines that a region may have: 2 to the power 26
abbrev pub most_lines : ℕ
most_lines = 67108864

-- the registers are in range
pub record IsRotation (r : Rotation) : Type 0 where
  pub some_lines : 1 ≤ r.lines
  pub few_lines : r.lines ≤ most_lines
  pub start_below : r.start < r.lines
  pub gap_within : r.gap ≤ r.lines

-- the registers at the beginning: every line in its own place, and the gap behind them
abbrev pub first_rotation : ℕ → Rotation
first_rotation n = record { lines = n; start = 0; gap = n }

-- how many moves make a full turn of n lines
abbrev pub turn : ℕ → ℕ
turn n = n * (n + 1)

-- the registers stand for t gap moves since the beginning
pub record StandsFor (r : Rotation) (t : ℕ) : Type 0 where
  pub moves : t % turn r.lines ≡ r.start * (r.lines + 1) + (r.lines - r.gap)

-- the place of a line after t moves
abbrev pub place_after : ℕ → ℕ → ℕ → ℕ
place_after n line t = (line + (t + line) / n) % (n + 1)

-- the place of the gap after t moves
abbrev pub gap_after : ℕ → ℕ → ℕ
gap_after n t = n - t % (n + 1)

-- the line that the move after t moves copies
abbrev pub moved_line : ℕ → ℕ → ℕ
moved_line n t = n - 1 - t % n

-- the place below a gap, round the end
abbrev pub below_gap : ℕ → ℕ → ℕ
below_gap n gap = if gap == 0 then n else gap - 1

-- the move after t moves: a line goes from the place below the gap into the gap
abbrev pub move_after : ℕ → ℕ → Move
move_after n t = record { line = moved_line n t; from = below_gap n (gap_after n t); to = gap_after n t }

-- the place of a line by the registers
abbrev pub place_by : Rotation → ℕ → ℕ
place_by r line = let p = (line + r.start) % r.lines in if nat_lt p r.gap then p else p + 1

-- the next move by the registers
abbrev pub move_by : Rotation → Move
move_by r = record { line = r.lines - 1 - (r.start + r.lines - r.gap) % r.lines; from = below_gap r.lines r.gap; to = r.gap }

-- the registers after one more move
abbrev pub advanced : Rotation → Rotation
advanced r = record {
  lines = r.lines;
  start = if r.gap == 0 then (r.start + 1) % r.lines else r.start;
  gap = below_gap r.lines r.gap;
}

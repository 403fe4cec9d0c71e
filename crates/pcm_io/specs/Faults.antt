-- Counts that stop at the greatest u64, and when such a count of faults rose.
use Rattle.std.specs.Prelude.{ℕ, ◌+◌, ◌-◌, ◌^◌, ◌≤◌, min, max}

-- a count raised by n, but not past the greatest u64
abbrev pub raised_by : ℕ → ℕ → ℕ
raised_by count n = max count (min (count + n) (2 ^ 64 - 1))

-- a count of faults is greater than before, or stands at the greatest u64
abbrev pub Rose : ℕ → ℕ → Type 0
Rose before now = min (before + 1) (2 ^ 64 - 1) ≤ now

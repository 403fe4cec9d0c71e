use Rattle.std.proofs.Common.{ℕ, ◌-◌, ◌<◌, ◌≤◌, length, get_or}
use Rattle.large_reader.specs.Giving.{no_row}
use Rattle.large_reader.proofs.rows.place_of.Given as goal

-- the rows before `low` are of lower lines, and those from `high` on of others
abbrev pub invariant-loop-low : goal.invariant-loop-low
invariant-loop-low g l = record {
  order : l.low ≤ l.high;
  within : l.high ≤ length l.rows;
  below : (k : ℕ) → k < l.low → (get_or l.rows k (no_row g.row.B g.row.M)).line < l.line;
  above : (k : ℕ) → l.high ≤ k → k < length l.rows → l.line ≤ (get_or l.rows k (no_row g.row.B g.row.M)).line;
}

abbrev pub decreases-loop-low : goal.decreases-loop-low
decreases-loop-low g l = l.high - l.low

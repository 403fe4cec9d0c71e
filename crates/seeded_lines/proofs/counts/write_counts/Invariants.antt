use Rattle.std.proofs.Common.{◌≡◌, ◌≢◌, ℕ, ◌+◌, ◌*◌, ◌/◌, ◌<◌, slice_index}
use Rattle.seeded_lines.specs.Counts.{count_in}
use Rattle.seeded_lines.proofs.counts.write_counts.Given as goal

-- the rows so far are written
abbrev pub invariant-loop-index : goal.invariant-loop-index
invariant-loop-index l = record {
  done : (i : ℕ) → i < 8 * l.index → count_in l.rows (64 * l.block + i) ≡ slice_index l.counts i;
  others : (n : ℕ) → n / 64 ≢ l.block → count_in l.rows n ≡ count_in l.initial.rows n;
}

-- Cells that stick only after many pulses of their line, and miss only so often.
use Rattle.std.specs.Prelude.{ℕ, ◌+◌, ◌*◌, ◌^◌, ◌<◌, ◌≤◌, List, length, slice_index_or, IsTrue, IsFalse}
use Rattle.seeded_lines.specs.{Seeded.{LifeLine, seeded_cell, lifeless}, declared.seeded.SeededCell.SeededCell}
use Rattle.cell_rows.specs.Device.{CellBounds}

-- a cell whose line had so many pulses: a live one has enough changes left, and a stuck one's line had enough; it has missed no more often
-- than its limit, which is none above the bound
pub record IsBounded (bounds : CellBounds) (pulses : ℕ) (cell : SeededCell) : Type 0 where
  pub live : IsFalse cell.state.stuck → bounds.endures ≤ cell.left + pulses
  pub stuck : IsTrue cell.state.stuck → bounds.endures ≤ pulses
  pub missed : cell.state.misses ≤ cell.limit
  pub limit : cell.limit ≤ bounds.misses

-- each cell of each line is
unfoldable pub AreBounded : {B M : ℕ} → CellBounds → List (LifeLine B M) → Type 0
AreBounded {B} {M} bounds lines =
    (line n : ℕ) → line < length lines → n < 8 * (B + M)
    → IsBounded bounds (slice_index_or lines line (lifeless B M)).line.pulses (seeded_cell (slice_index_or lines line (lifeless B M)) n)

-- bounds that an array may have: its greatest count reaches the one, and the other is at most seven
pub record IsInRange (bounds : CellBounds) : Type 0 where
  pub endures : bounds.endures < 2 ^ 64
  pub misses : bounds.misses ≤ 7

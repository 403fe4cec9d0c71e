-- The array whose cells wear out as a seed says.
use Rattle.std.specs.Prelude.{ℕ, ◌≡◌, ◌≢◌, ◌+◌, ◌-◌, ◌*◌, Bool, nat_lt, if◌then◌else◌, List, length, slice_index, slice_index_or, Option, None, Some}
use Rattle.cell_rows.specs.{Device.{ArrayState, LineState, CellBounds, counted}, Rows.cell, declared.array.LineEnergy.LineEnergy, declared.array.Wear.Wear}
use Rattle.cell_rows.specs.declared.row.Cells.{Cells}
use Rattle.pcm_cells.specs.Energies.{energy_told}
use Rattle.seeded_lines.specs.{Drawn.changes_with, Follows.Follows, Planes.digit, Seeded.{LifeLine, lifeless, seeded, seeded_cell}}

-- the array: its lines, how often it was torn, the wear that it was last powered up with, and the counts of its energy, where it keeps any
pub record SeededArray (B M : ℕ) : Type 0 where
  pub lines : List (LifeLine B M)
  pub tears : ℕ
  pub wear : Option Wear
  pub energies : Option (List (Option LineEnergy))

-- the line with this number
abbrev pub seeded_line : {B M : ℕ} → SeededArray B M → ℕ → LifeLine B M
seeded_line {B} {M} array number = slice_index_or array.lines number (lifeless B M)

-- what the cells of an array with this wear keep to; before it is powered up it has no cell
abbrev pub bounds_of : Option Wear → CellBounds
bounds_of None = record { endures = 0; misses = 7 }
bounds_of (Some wear) = record { endures = wear.lo; misses = wear.misses }

-- what a controller may know of a line whose cells keep to these bounds: of the changes that all cells endure, each has spent those that
-- it no longer has left
abbrev pub life_state : {B M : ℕ} → CellBounds → LifeLine B M → LineState B M
life_state {B} {M} bounds row = record {
  held = row.line.held;
  stuck = cell row.line.stuck;
  misses = digit row.line.misses;
  spent = λ n. if nat_lt n (8 * (B + M)) then bounds.endures - slice_index row.left n else 0;
  pulses = row.line.pulses;
}

-- what a controller may know of the array; it tells no log
abbrev pub seeded_state : {B M : ℕ} → SeededArray B M → ArrayState B M
seeded_state array = record {
  line = λ number. life_state (bounds_of array.wear) (seeded_line array number);
  lines = length array.lines;
  tears = array.tears;
  log = None;
  wear = array.wear;
  bounds = bounds_of array.wear;
  energy = energy_told array.energies;
}

-- how often each cell of a line changed
abbrev pub seeded_changes : {B M : ℕ} → SeededArray B M → ℕ → Option (ℕ → ℕ)
seeded_changes array line = changes_with array.wear line (seeded_line array line)

-- a pulse or a tear of the line: each masked cell wears as its life says, the pulse is counted, and all else stays
pub record Wears {B M : ℕ} (line : ℕ) (tearing : Bool) (mask want : Cells B M) (old new : SeededArray B M) : Type 0 where
  pub cells : Follows (cell mask) (seeded tearing (cell want)) (seeded_cell (seeded_line old line)) (seeded_cell (seeded_line new line))
  pub pulses : (seeded_line new line).line.pulses ≡ counted (seeded_line old line).line.pulses
  pub others : (n : ℕ) → n ≢ line → seeded_line new n ≡ seeded_line old n
  pub lines : length new.lines ≡ length old.lines

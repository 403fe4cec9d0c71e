-- The array whose cells miss and stick as a script says.
use Rattle.std.specs.Prelude.{ℕ, ◌≡◌, ◌≢◌, ◌+◌, ◌-◌, ◌*◌, ◌^◌, min, Bool, true, false, ◌&&◌, nat_eq, nat_lt, if◌then◌else◌, List, [], ◌∷◌, length, replicate, slice_index}
use Rattle.std.specs.{Prelude.{slice_index_or, Option, Some, None, Vec}, declared.alloc.Global.Global}
use Rattle.cell_rows.specs.{Device.{ArrayState, CellBounds, counted}, Rows.cell, declared.array.LineEnergy.LineEnergy, declared.array.Wear.Wear, declared.row.Cells.Cells}
use Rattle.pcm_cells.specs.{Cell.{CellLine, line_state, cell_state, blank_line}, declared.script.Act.Act, declared.script.Act.TheVariants.{Miss, Stick}}
use Rattle.pcm_cells.specs.declared.script.Script.{Script}
use Rattle.line_pages.specs.Counting.{energy_at}
use Rattle.seeded_lines.specs.{Follows.Follows, declared.cell.CellState.CellState}

-- what the script says of a cell at a turn: the first item that names them
abbrev pub act_at : List Script → ℕ → ℕ → ℕ → Option Act
act_at [] line number turn = None
act_at (item ∷ rest) line number turn =
    if nat_eq item.line line && nat_eq item.cell number && nat_eq item.turn turn then Some item.act else act_at rest line number turn

-- what comes of a live cell, in a tear or in a pulse: with seven misses no pulse misses
abbrev pub acted : Bool → Option Act → Bool → CellState → CellState
acted tearing None want old = record { value = want; stuck = false; misses = 0 }
acted true (Some Miss) want old = old
acted false (Some Miss) want old =
    if nat_lt old.misses 7 then record old { misses = old.misses + 1 } else record { value = want; stuck = false; misses = 0 }
acted tearing (Some (Stick value)) want old = record { value = value; stuck = true; misses = old.misses }

-- one more turn, up to the greatest u32
abbrev pub next_turn : ℕ → ℕ
next_turn turns = min (turns + 1) (2 ^ 32 - 1)

-- a cell, and how many pulses and tears had it in their mask
pub record ScriptedCell : Type 0 where
  pub state : CellState
  pub turns : ℕ

-- a masked cell takes its next turn; a stuck cell stays
abbrev pub scripted : List Script → ℕ → Bool → (ℕ → Bool) → ℕ → ScriptedCell → ScriptedCell
scripted script line tearing want number old = record {
  state = if old.state.stuck then old.state else acted tearing (act_at script line number (next_turn old.turns)) (want number) old.state;
  turns = next_turn old.turns;
}

-- a line, with the turns of each cell
pub record ScriptedLine (B M : ℕ) : Type 0 where
  pub line : CellLine B M
  pub turns : List ℕ

abbrev pub scripted_cell : {B M : ℕ} → ScriptedLine B M → ℕ → ScriptedCell
scripted_cell row number = record { state = cell_state (line_state row.line) number; turns = slice_index row.turns number }

-- a line that was never pulsed
abbrev pub blank_scripted : (B M : ℕ) → ScriptedLine B M
blank_scripted B M = record { line = blank_line B M; turns = replicate (8 * (B + M)) 0 }

-- the lines, of which there are none before the array is powered up
abbrev pub scripted_lines : {B M : ℕ} → Option (Vec (ScriptedLine B M) Global) → List (ScriptedLine B M)
scripted_lines None = []
scripted_lines (Some lines) = lines.items

-- the array: its lines, its script, how often it was torn, the wear that it was last powered up with, and the counts of its energy
pub record ScriptedArray (B M : ℕ) : Type 0 where
  pub lines : List (ScriptedLine B M)
  pub script : List Script
  pub tears : ℕ
  pub wear : Option Wear
  pub energies : List (Option LineEnergy)

-- the line with this number
abbrev pub scripted_line : {B M : ℕ} → ScriptedArray B M → ℕ → ScriptedLine B M
scripted_line {B} {M} array number = slice_index_or array.lines number (blank_scripted B M)

-- what its cells keep to: they may stick at once
abbrev pub scripted_bounds : CellBounds
scripted_bounds = record { endures = 0; misses = 7 }

-- what a controller may know of the array; it tells no log
abbrev pub scripted_state : {B M : ℕ} → ScriptedArray B M → ArrayState B M
scripted_state array = record {
  line = λ number. line_state (scripted_line array number).line;
  lines = length array.lines;
  tears = array.tears;
  log = None;
  wear = array.wear;
  bounds = scripted_bounds;
  energy = λ number. Some (energy_at array.energies number);
}

-- a pulse or a tear of the line: each masked cell takes its next turn, the pulse is counted, and all else stays
pub record Turns {B M : ℕ} (line : ℕ) (tearing : Bool) (mask want : Cells B M) (old new : ScriptedArray B M) : Type 0 where
  pub cells : Follows (cell mask) (scripted old.script line tearing (cell want)) (scripted_cell (scripted_line old line)) (scripted_cell (scripted_line new line))
  pub pulses : (scripted_line new line).line.pulses ≡ counted (scripted_line old line).line.pulses
  pub others : (n : ℕ) → n ≢ line → scripted_line new n ≡ scripted_line old n
  pub lines : length new.lines ≡ length old.lines
  pub script : new.script ≡ old.script

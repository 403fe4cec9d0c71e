-- The report on array lines: a header, and one row for each array line, from 0 on.
use Rattle.std.specs.{List.join_with_byte, Prelude.{ℕ, ◌+◌, List, [], ◌∷◌, ◌++◌, codes, decimal, Option, None, Some}}
use Rattle.cell_rows.specs.declared.tells.CellWear.{CellWear}
use Rattle.run_text.specs.WearText.{role_text}
use Rattle.bank_shape.specs.declared.Role.{Role}
use Rattle.energy_report.specs.EnergyText.{energy_text}
use Rattle.lines_report.specs.declared.row.LineCells.{LineCells}

-- the first line of the report
abbrev pub lines_header_text : List ℕ
lines_header_text = codes "array,bank,pulses,role,pointers,stuck,changes,senses,set,reset\n"

-- how many cells are stuck, where that is told
abbrev pub stuck_text : Option CellWear → List ℕ
stuck_text None = []
stuck_text (Some wear) = decimal wear.stuck

-- the most changes that a cell has spent, where that is told
abbrev pub changes_text : Option CellWear → List ℕ
changes_text None = []
changes_text (Some wear) = decimal wear.changes

-- one row: an array line, its bank, its pulses, its role, its active pointers, its stuck cells, the most changes that one of its cells
-- has spent, and the counts of its energy, with commas between, and LF at the end
abbrev pub lines_row_text : ℕ → ℕ → ℕ → Role → LineCells → List ℕ
lines_row_text array_line bank pulses role cells =
    join_with_byte 44
    (decimal array_line ∷ decimal bank ∷ decimal pulses ∷ role_text role ∷ decimal cells.pointers
    ∷ stuck_text cells.wear ∷ changes_text cells.wear ∷ energy_text cells.energy ∷ [])
    ++ codes "\n"

-- the rows of these banks, pulses and roles, from an array line on, each with what the cells of its line say
abbrev pub lines_rows_text : (ℕ → LineCells) → ℕ → List (ℕ × ℕ × Role) → List ℕ
lines_rows_text cells array_line [] = []
lines_rows_text cells array_line ((bank, pulses, role) ∷ rest) =
    lines_row_text array_line bank pulses role (cells array_line) ++ lines_rows_text cells (array_line + 1) rest

-- the whole report
abbrev pub lines_text : (ℕ → LineCells) → List (ℕ × ℕ × Role) → List ℕ
lines_text cells rows = lines_header_text ++ lines_rows_text cells 0 rows

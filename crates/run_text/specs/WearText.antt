-- The wear report: a header, and one row for each array line, from 0 on.
use Rattle.std.specs.{List.join_with_byte, Prelude.{ℕ, ◌+◌, List, [], ◌∷◌, ◌++◌, codes, decimal}}
use Rattle.bank_shape.specs.{declared.Role.Role, declared.Role.TheVariants.{Line, Gap, Free, Retired, Control}}

-- the first line of the report
abbrev pub wear_header_text : List ℕ
wear_header_text = codes "array,bank,pulses,role\n"

-- the word of a role, and for a line of the module its number
abbrev pub role_text : Role → List ℕ
role_text (Line line) = codes "line " ++ decimal line
role_text Gap = codes "gap"
role_text Free = codes "free"
role_text Retired = codes "retired"
role_text Control = codes "control"

-- one row: an array line, its bank, its pulses and its role, with commas between, and LF at the end
abbrev pub wear_row_text : ℕ → ℕ → ℕ → Role → List ℕ
wear_row_text array_line bank pulses role =
    join_with_byte 44 (decimal array_line ∷ decimal bank ∷ decimal pulses ∷ role_text role ∷ []) ++ codes "\n"

-- the rows of these banks, pulses and roles, from an array line on
abbrev pub wear_rows_text : ℕ → List (ℕ × ℕ × Role) → List ℕ
wear_rows_text array_line [] = []
wear_rows_text array_line ((bank, pulses, role) ∷ rest) =
    wear_row_text array_line bank pulses role ++ wear_rows_text (array_line + 1) rest

-- the whole report
abbrev pub wear_text : List (ℕ × ℕ × Role) → List ℕ
wear_text rows = wear_header_text ++ wear_rows_text 0 rows

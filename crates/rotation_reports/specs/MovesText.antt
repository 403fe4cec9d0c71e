-- The text of `moves`: a full turn of gap moves of one region.
use Rattle.std.specs.Prelude.{ℕ, List, [], ◌∷◌, ◌++◌, codes, decimal}
use Rattle.start_gap.specs.Rotation.{turn, move_after}
use Rattle.rotation_reports.specs.Rows.{row_of, rows_from}

abbrev pub moves_header : List ℕ
moves_header = codes "move,line,from,to\n"

-- the row of the move after t moves of a region of n lines
abbrev pub move_row : ℕ → ℕ → List ℕ
move_row n t = let move = move_after n t in row_of (decimal t ∷ decimal move.line ∷ decimal move.from ∷ decimal move.to ∷ [])

-- the rows of a full turn, from the move after `first` moves on
abbrev pub moves_text : ℕ → ℕ → List ℕ
moves_text n first = moves_header ++ rows_from (move_row n) first (turn n)

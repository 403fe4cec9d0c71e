-- Worked gap moves of a region of four lines, computed. The newest move is first.
use Rattle.std.proofs.Common.{◌≡◌, ℕ, [], ◌∷◌, refl}
use Rattle.std.specs.Prelude.{count_by, map}
use Rattle.start_gap.specs.declared.Move.{Move}
use Rattle.bank_model.specs.Timing.{core}
use Rattle.worked_tables.specs.HistoryExamples.{whole, copied_as}
use Rattle.place_laws.specs.GapMoves.{moves_of, first_moves, copies_into}

abbrev move : ℕ → ℕ → ℕ → Move
move line from to = record { line = line; from = from; to = to }

-- the move that a worked history ends with, which is the first one
worked_move : moves_of 4 (core (copied_as (whole 0x11))) 0 ≡ move 3 3 4 ∷ []
worked_move = refl

first_is : first_moves 4 1 ≡ move 3 3 4 ∷ []
first_is = refl

-- no move of another region
none_elsewhere : moves_of 4 (core (copied_as (whole 0x11))) 1 ≡ []
none_elsewhere = refl

-- the moves over the end: line 3 goes once more into place 4, but only after all other pairs
six_moves : first_moves 4 6 ≡ move 2 3 4 ∷ move 3 4 0 ∷ move 0 0 1 ∷ move 1 1 2 ∷ move 2 2 3 ∷ move 3 3 4 ∷ []
six_moves = refl

how_often : map (λ t. count_by (copies_into 3 4) (first_moves 4 t)) (0 ∷ 1 ∷ 20 ∷ 21 ∷ []) ≡ 0 ∷ 1 ∷ 1 ∷ 2 ∷ []
how_often = refl

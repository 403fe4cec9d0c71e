-- The gap moves of a history, one by one, and what any full turn of them copies.
use Rattle.std.specs.Prelude.{◌≡◌, ℕ, zero, suc, ◌/◌, ◌<◌, ◌≤◌, ◌==◌, ◌&&◌, Bool, if◌then◌else◌, List, [], ◌∷◌, ◌++◌, length, count_by}
use Rattle.start_gap.specs.{Rotation.{move_after, turn}, declared.Move.Move}
use Rattle.bank_shape.specs.declared.BankShape.{BankShape}
use Rattle.bank_shape.specs.declared.answer.Step.TheVariants as did
use Rattle.bank_model.specs.{Answers.MayAll, Events.{BankEvent, Begin, Iterate}, History.{first_or, stores, moved_in}}

-- the gap moves of a region of so many lines, as the events that end them name them, the newest first. A move is of the region of
-- the last store
abbrev pub moves_of : {n : ℕ} → ℕ → List (BankEvent n) → ℕ → List Move
moves_of lines [] region = []
moves_of lines (Begin (did.Moved step) ∷ h) region =
    if first_or 0 (stores h) / lines == region then step ∷ moves_of lines h region else moves_of lines h region
moves_of lines (Iterate (did.Moved step) ∷ h) region =
    if first_or 0 (stores h) / lines == region then step ∷ moves_of lines h region else moves_of lines h region
moves_of lines (_ ∷ h) region = moves_of lines h region

-- the first so many moves of the rotation in its closed form, the newest first
abbrev pub first_moves : ℕ → ℕ → List Move
first_moves lines zero = []
first_moves lines (suc t) = move_after lines t ∷ first_moves lines t

-- the gap moves of a region are as many as are counted, and each is that of its number in the closed form
abbrev pub GapMovesLaw : Type 0
GapMovesLaw =
    (n most region : ℕ) (shape : BankShape) (h : List (BankEvent n))
    → MayAll shape most h → moves_of shape.lines h region ≡ first_moves shape.lines (moved_in shape.lines h region)

-- whether a move copies this line of its region into this place
abbrev pub copies_into : ℕ → ℕ → Move → Bool
copies_into line place step = step.line == line && step.to == place

-- of any lines*(lines+1) successive gap moves of a region exactly one copies a line into a place
abbrev pub FullTurnLaw : Type 0
FullTurnLaw =
    (n most region line place : ℕ) (shape : BankShape) (h : List (BankEvent n)) (later during earlier : List Move)
    → MayAll shape most h → moves_of shape.lines h region ≡ later ++ (during ++ earlier) → length during ≡ turn shape.lines
    → line < shape.lines → place ≤ shape.lines → count_by (copies_into line place) during ≡ 1

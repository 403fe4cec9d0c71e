-- Worked examples: four lines, and the registers of one full turn.
use Rattle.std.proofs.Common.{◌≡◌, ℕ, List, [], ◌∷◌, refl}
use Rattle.std.specs.Prelude.{map}
use Rattle.start_gap.specs.Rotation.{Rotation, place_after, gap_after, place_by, advanced, first_rotation, moved_line}

abbrev places_after : ℕ → List ℕ
places_after t = map (λ line. place_after 4 line t) (0 ∷ 1 ∷ 2 ∷ 3 ∷ [])

abbrev places_by : Rotation → List ℕ
places_by r = map (place_by r) (0 ∷ 1 ∷ 2 ∷ 3 ∷ [])

at_first : places_after 0 ≡ 0 ∷ 1 ∷ 2 ∷ 3 ∷ []
at_first = refl

after_one : places_after 1 ≡ 0 ∷ 1 ∷ 2 ∷ 4 ∷ []
after_one = refl

after_four : places_after 4 ≡ 1 ∷ 2 ∷ 3 ∷ 4 ∷ []
after_four = refl

after_five : places_after 5 ≡ 1 ∷ 2 ∷ 3 ∷ 0 ∷ []
after_five = refl

after_nineteen : places_after 19 ≡ 4 ∷ 1 ∷ 2 ∷ 3 ∷ []
after_nineteen = refl

after_a_turn : places_after 20 ≡ places_after 0
after_a_turn = refl

gaps : map (gap_after 4) (0 ∷ 1 ∷ 4 ∷ 5 ∷ 19 ∷ 20 ∷ []) ≡ 4 ∷ 3 ∷ 0 ∷ 4 ∷ 0 ∷ 4 ∷ []
gaps = refl

lines_moved : map (moved_line 4) (7 ∷ 8 ∷ 9 ∷ 10 ∷ 25 ∷ 26 ∷ []) ≡ 0 ∷ 3 ∷ 2 ∷ 1 ∷ 2 ∷ 1 ∷ []
lines_moved = refl

-- the registers go the same way
by_registers_after_one : places_by (advanced (first_rotation 4)) ≡ 0 ∷ 1 ∷ 2 ∷ 4 ∷ []
by_registers_after_one = refl

use Rattle.std.proofs.Common.{ℕ, List, [], ◌∷◌, ◌++◌, ◌*◌, ◌+◌, refl, arith}
use lib.Lanes.{pick_l}
use Rattle.trace_reader.proofs.HexLanes.{picked, two_digits}
use Rattle.trace_reader.proofs.digits.bytes_of_values.Goals as goal

abbrev evens : List ℕ
evens = 0 ∷ 2 ∷ 4 ∷ 6 ∷ 8 ∷ 10 ∷ 12 ∷ 14 ∷ 16 ∷ 18 ∷ 20 ∷ 22 ∷ 24 ∷ 26 ∷ 28 ∷ 30 ∷ []

abbrev odds : List ℕ
odds = 1 ∷ 3 ∷ 5 ∷ 7 ∷ 9 ∷ 11 ∷ 13 ∷ 15 ∷ 17 ∷ 19 ∷ 21 ∷ 23 ∷ 25 ∷ 27 ∷ 29 ∷ 31 ∷ []

pub returns-clause-bytes : goal.returns-clause-bytes
returns-clause-bytes c = λ k low.
    let v = c.args.values in
    let long = c.fits-values.0 in
    two_digits (pick_l 0 (v ++ v) evens) (pick_l 0 (v ++ v) odds) k _ _ refl refl low (picked v evens (λ k. 2 * k) 16 refl refl k low (omega arith)) (picked v odds (λ k. 2 * k + 1) 16 refl refl k low (omega arith))
    (c.requires (2 * k) (omega arith)) (c.requires (2 * k + 1) (omega arith))

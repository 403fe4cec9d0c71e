-- Outcomes in a table.
use Rattle.std.proofs.Common.{◌≡◌, ◌≢◌, ℕ, zero, suc, ◌-◌, ◌<◌, ◌≤◌, ◌==◌, true, false, List, [], ◌∷◌, length, Option, Some, slice_get, refl, sym, ap, ◌∙◌, arith, inl, inr, eq-eqb}
use Rattle.std.{specs.Prelude.unwrap_or, proofs.Math.ListN.{set, length-set}, proofs.lemmas.Bool.{cases_eq, ne_eqb}}
use Rattle.result_rows.specs.{Table.{HasRow, outcome_at, with_outcome}, declared.Outcome.Outcome, declared.Outcome.TheVariants.Unset}
use Rattle.bank_laws.specs.Outcomes.{on_row}
use Rattle.bank_timing.specs.Extending.{outcome_in, IsOpen}

slice_get-set_same : {A : Type 0} (xs : List A) (i : ℕ) (x : A) → i < length xs → slice_get (set xs i x) i ≡ Some x
slice_get-set_same [] i x h = absurd (omega arith)
slice_get-set_same (y ∷ xs) zero x h = refl
slice_get-set_same (y ∷ xs) (suc i) x h = slice_get-set_same xs i x (omega arith)

slice_get-set_other : {A : Type 0} (xs : List A) (i j : ℕ) (x : A) → j ≢ i → slice_get (set xs i x) j ≡ slice_get xs j
slice_get-set_other [] i j x h = refl
slice_get-set_other (y ∷ xs) zero zero x h = absurd (h refl)
slice_get-set_other (y ∷ xs) zero (suc j) x h = refl
slice_get-set_other (y ∷ xs) (suc i) zero x h = refl
slice_get-set_other (y ∷ xs) (suc i) (suc j) x h = slice_get-set_other xs i j x (omega arith)

module _ {n : ℕ} where
  pub rows-set : (results : List (Outcome n)) (at : ℕ) (o : Outcome n) → length (with_outcome results at o) ≡ length results
  rows-set results at o = length-set results (at - 1) o

  pub has-set : (results : List (Outcome n)) (at : ℕ) (o : Outcome n) (row : ℕ) → HasRow results row → HasRow (with_outcome results at o) row
  has-set results at o row has = let same = rows-set results at o in record { above = has.above; within = omega (arith, same, has.within) }

  pub at-set : (results : List (Outcome n)) (at : ℕ) (o : Outcome n) → HasRow results at → outcome_at (with_outcome results at o) at ≡ Some o
  at-set results at o has = slice_get-set_same results (at - 1) o (omega (arith, has.above, has.within))

  pub other-set : (results : List (Outcome n)) (at : ℕ) (o : Outcome n) (row : ℕ) → 1 ≤ at → 1 ≤ row → row ≢ at → outcome_at (with_outcome results at o) row ≡ outcome_at results row
  other-set results at o row one some other = slice_get-set_other results (at - 1) (row - 1) o (apart row at one some other)
    where
      apart : (row at : ℕ) → 1 ≤ at → 1 ≤ row → row ≢ at → row - 1 ≢ at - 1
      apart row at one some other = λ same. other (omega (arith, one, some, same))

  -- a row's outcome after one was set
  pub in-set : (results : List (Outcome n)) (at : ℕ) (o : Outcome n) (row : ℕ) → HasRow results at → HasRow results row
      → outcome_in (with_outcome results at o) row ≡ unwrap_or (on_row at row o) (outcome_in results row)
  in-set results at o row has there =
      elim (cases_eq row at) [
        | inl same ↦
            let hit : (at == row) ≡ true = eq-eqb at row (sym same) in
            rw hit (rw same (ap (λ (found : Option (Outcome n)). unwrap_or found Unset) (at-set results at o has)))
        | inr other ↦
            let miss : (at == row) ≡ false = ne_eqb at row (λ same. other (sym same)) in
            rw miss (ap (λ (found : Option (Outcome n)). unwrap_or found Unset) (other-set results at o row has.above there.above other))
      ]

  -- a row that has no outcome has none still where another is set
  pub open-set : (results : List (Outcome n)) (at : ℕ) (o : Outcome n) (row : ℕ) → HasRow results at → row ≢ at → IsOpen results row → IsOpen (with_outcome results at o) row
  open-set results at o row has other unset = record {
    exists = has-set results at o row unset.exists;
    unset = other-set results at o row has.above unset.exists.above other ∙ unset.unset;
  }

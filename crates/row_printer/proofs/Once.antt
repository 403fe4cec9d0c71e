-- That each row is told once, where each was open as it was told.
use Rattle.std.proofs.Common.{◌≡◌, ◌≢◌, ℕ, ◌≤◌, ◌==◌, ◌||◌, Bool, true, false, List, [], ◌∷◌, ◌++◌, length, Option, Some, None, refl, sym, ap, subst, ◌∙◌, eqb-true, eq-eqb}
use Rattle.std.specs.Prelude.{IsTrue, is_some}
use Rattle.result_rows.specs.{Outcomes.op_of, Table.{HasRow, outcome_at, with_outcome}, declared.Outcome.Outcome, declared.Outcome.TheVariants.Unset}
use Rattle.result_rows.proofs.TableLemmas.{length-with_outcome, outcome_at-with_outcome, outcome_at-other}
use Rattle.row_printer.specs.Telling.{recorded, tells, TellsOnce}

pub or_false : (a b : Bool) → (a || b) ≡ false → (a ≡ false) × (b ≡ false)
or_false true b is = absurd (cc is)
or_false false b is = (refl, is)

both_false : (a b : Bool) → a ≡ false → b ≡ false → (a || b) ≡ false
both_false true b first second = absurd (cc first)
both_false false b first second = second

pub differs : (a b : ℕ) → (a == b) ≡ false → a ≢ b
differs a b unlike same =
    let both : true ≡ false = sym (eq-eqb a b same) ∙ unlike in
    cc both

unequal : (a b : ℕ) → a ≢ b → (a == b) ≡ false
unequal a b other = by (a == b) (eqb-true a b)
  where
    by : (t : Bool) → (t ≡ true → a ≡ b) → t ≡ false
    by true is = absurd (other (is refl))
    by false is = refl

module _ {n : ℕ} where
  tells-other : (told : List (ℕ × Outcome n)) (r : ℕ) (outcome : Outcome n) (row : ℕ) → tells told row ≡ false → r ≢ row → tells (told ++ (r, outcome) ∷ []) row ≡ false
  tells-other [] r outcome row none other = both_false (r == row) false (unequal r row other) refl
  tells-other (one ∷ told) r outcome row none other =
      let parts = or_false (one.0 == row) (tells told row) none in
      both_false (one.0 == row) (tells (told ++ (r, outcome) ∷ []) row) parts.0 (tells-other told r outcome row parts.1 other)

  -- one row more that wasn't told
  pub once-more : (most : ℕ) (told : List (ℕ × Outcome n)) (r : ℕ) (outcome : Outcome n) → 1 ≤ r → r ≤ most → IsTrue (is_some (op_of outcome)) → tells told r ≡ false
      → TellsOnce most told → TellsOnce most (told ++ (r, outcome) ∷ [])
  once-more most [] r outcome above within is none once = (above, within, is, refl, tt)
  once-more most (one ∷ told) r outcome above within is none once =
      let parts = or_false (one.0 == r) (tells told r) none in
      let other : r ≢ one.0 = λ same. differs one.0 r parts.0 (sym same) in
      (once.0, once.1, once.2, tells-other told r outcome one.0 once.3 other, once-more most told r outcome above within is parts.1 once.4)

  has-row : (most : ℕ) (table : List (Outcome n)) (row : ℕ) → length table ≡ most → 1 ≤ row → row ≤ most → HasRow table row
  has-row most table row size above within = record { above = above; within = rw size within }

  still-row : (table : List (Outcome n)) (row at : ℕ) (outcome : Outcome n) → HasRow table row → HasRow (with_outcome table at outcome) row
  still-row table row at outcome there = record { above = there.above; within = rw (length-with_outcome table at outcome) there.within }

  -- a row that isn't told stays as it is
  pub stays-told : (most : ℕ) (told : List (ℕ × Outcome n)) (table : List (Outcome n)) (row : ℕ) → TellsOnce most told → length table ≡ most → HasRow table row → tells told row ≡ false
      → outcome_at (recorded told table) row ≡ outcome_at table row
  stays-told most [] table row once size there none = refl
  stays-told most (one ∷ told) table row once size there none =
      let parts = or_false (one.0 == row) (tells told row) none in
      let other : row ≢ one.0 = λ same. differs one.0 row parts.0 (sym same) in
      stays-told most told (with_outcome table one.0 one.1) row once.4 (length-with_outcome table one.0 one.1 ∙ size) (still-row table row one.0 one.1 there) parts.1
      ∙ outcome_at-other table one.0 row one.1 (has-row most table one.0 size once.0 once.1) there other

  abbrev is_set : Option (Outcome n) → Bool
  is_set None = false
  is_set (Some outcome) = is_some (op_of outcome)

  -- a row that is open wasn't told
  pub open-untold : (most : ℕ) (told : List (ℕ × Outcome n)) (table : List (Outcome n)) (row : ℕ) → TellsOnce most told → length table ≡ most → HasRow table row
      → outcome_at (recorded told table) row ≡ Some Unset → tells told row ≡ false
  open-untold most [] table row once size there open_row = refl
  open-untold most (one ∷ told) table row once size there open_row =
      by (one.0 == row) (eqb-true one.0 row)
      (open-untold most told (with_outcome table one.0 one.1) row once.4 (length-with_outcome table one.0 one.1 ∙ size) (still-row table row one.0 one.1 there) open_row)
    where
      clash : one.0 ≡ row → ⊥
      clash same =
          let none : tells told row ≡ false = subst (λ (r : ℕ). tells told r ≡ false) same once.3 in
          let here : HasRow table one.0 = has-row most table one.0 size once.0 once.1 in
          let set : outcome_at (with_outcome table one.0 one.1) row ≡ Some one.1 = subst (λ (r : ℕ). outcome_at (with_outcome table one.0 one.1) r ≡ Some one.1) same (outcome_at-with_outcome table one.0 one.1 here) in
          let still = stays-told most told (with_outcome table one.0 one.1) row once.4 (length-with_outcome table one.0 one.1 ∙ size) (still-row table row one.0 one.1 there) none in
          let both : false ≡ true = ap is_set (sym open_row ∙ still ∙ set) ∙ once.2 in
          cc both

      by : (b : Bool) → (b ≡ true → one.0 ≡ row) → tells told row ≡ false → (b || tells told row) ≡ false
      by true is rest = absurd (clash (is refl))
      by false is rest = rest

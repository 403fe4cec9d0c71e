-- What was heard of a row more.
use Rattle.std.proofs.Common.{◌≡◌, ℕ, ◌+◌, ◌≤◌, ◌==◌, cond, List, [], ◌∷◌, ◌++◌, length, sym, ap, ◌∙◌, arith, inl, inr}
use Rattle.std.{specs.Prelude.unwrap_or, proofs.lemmas.Bool.{cases_eq, cond-false, cond-true, eq-eqb, ne_eqb}}
use Rattle.result_rows.specs.{Table.{HasRow, with_outcome}, declared.Outcome.Outcome, declared.Outcome.TheVariants.Unset}
use Rattle.result_rows.proofs.TableLemmas.{outcome_at-other, outcome_at-with_outcome}
use Rattle.bank_timing.specs.Extending.{outcome_in}
use Rattle.row_stream.proofs.Growing.{longer, open-last}
use Rattle.disk_lines.specs.Hearing.{refuses_by}

module _ {n : ℕ} where
  -- the outcome of the last place, where a table got one more
  pub outcome-last : (table : List (Outcome n)) (rows : ℕ) → length table ≡ rows → outcome_in (table ++ Unset ∷ []) (rows + 1) ≡ Unset
  outcome-last table rows size =
      ap (λ (row : ℕ). outcome_in (longer table) (row + 1)) (sym size) ∙ ap (λ o. unwrap_or o Unset) (open-last table).unset

  module _ (table : List (Outcome n)) (rows row : ℕ) (outcome last : Outcome n) (size : length table ≡ rows) (was : outcome_in table rows ≡ last) (exists : HasRow table row) where
    -- the outcome of the last row, where one was set
    pub outcome-set : outcome_in (with_outcome table row outcome) rows ≡ cond (row == rows) outcome last
    outcome-set = elim (cases_eq row rows) [
      | inl same ↦
          ap (λ (k : ℕ). outcome_in (with_outcome table row outcome) k) (sym same) ∙ ap (λ o. unwrap_or o Unset) (outcome_at-with_outcome table row outcome exists)
          ∙ sym (cond-true (row == rows) outcome last (eq-eqb row rows same))
      | inr other ↦
          ap (λ o. unwrap_or o Unset) (outcome_at-other table row rows outcome exists (record { above = omega (arith, exists.above, exists.within, size); within = omega (arith, size) }) (λ same. other (sym same)))
          ∙ was ∙ sym (cond-false (row == rows) outcome last (ne_eqb row rows other))
    ]

    -- and whether it is refused now
    pub refuses-set : refuses_by (cond (row == rows) outcome last) ≤ refuses_by outcome + refuses_by last
    refuses-set = elim (cases_eq row rows) [
      | inl same ↦ omega (arith, ap refuses_by (cond-true (row == rows) outcome last (eq-eqb row rows same)))
      | inr other ↦ omega (arith, ap refuses_by (cond-false (row == rows) outcome last (ne_eqb row rows other)))
    ]

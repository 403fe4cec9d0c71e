-- What setting one row of a table changes and keeps.
use Rattle.std.proofs.Common.{ℕ, ◌-◌, ◌<◌, ◌≡◌, ◌≢◌, List, length, Some, ap, sym, ◌∙◌, arith}
use Rattle.std.proofs.{lemmas.Grind.common_steps, lemmas.List.{get_or-set_same, get_or-set_other}, lemmas.Option.slice_get-get_or}
use Rattle.result_rows.specs.Table.{HasRow, outcome_at, with_outcome}

-- the number of rows stays
pub length-with_outcome : {A : Type 0} (outcomes : List A) (row : ℕ) (outcome : A) → length (with_outcome outcomes row outcome) ≡ length outcomes
length-with_outcome outcomes row outcome = grind (arith, common_steps)

-- the row has the outcome
pub outcome_at-with_outcome : {A : Type 0} (outcomes : List A) (row : ℕ) (outcome : A) → HasRow outcomes row → outcome_at (with_outcome outcomes row outcome) row ≡ Some outcome
outcome_at-with_outcome outcomes row outcome has =
    let within : row - 1 < length outcomes = omega (arith, has.above, has.within) in
    let still : row - 1 < length (with_outcome outcomes row outcome) = rw (length-with_outcome outcomes row outcome) within in
    slice_get-get_or (with_outcome outcomes row outcome) (row - 1) outcome still
    ∙ ap (λ x. Some x) (get_or-set_same outcomes (row - 1) outcome outcome within)

-- every other row keeps its outcome
pub outcome_at-other : {A : Type 0} (outcomes : List A) (row other : ℕ) (outcome : A) → HasRow outcomes row → HasRow outcomes other → other ≢ row → outcome_at (with_outcome outcomes row outcome) other ≡ outcome_at outcomes other
outcome_at-other {A = A} outcomes row other outcome has has_other differs =
    let within : other - 1 < length outcomes = omega (arith, has_other.above, has_other.within) in
    let still : other - 1 < length (with_outcome outcomes row outcome) = rw (length-with_outcome outcomes row outcome) within in
    let apart : other - 1 ≢ row - 1 = omega (arith, has.above, has_other.above, differs) in
    slice_get-get_or (with_outcome outcomes row outcome) (other - 1) outcome still
    ∙ ap (λ x. Some x) (get_or-set_other outcomes (row - 1) (other - 1) outcome outcome apart)
    ∙ sym (slice_get-get_or outcomes (other - 1) outcome within)

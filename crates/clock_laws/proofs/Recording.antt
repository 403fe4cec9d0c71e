-- What events make of the outcomes of all rows.
use Rattle.std.proofs.Common.{◌≡◌, ℕ, List, [], ◌∷◌, ◌++◌, refl, ap, ◌∙◌, append_assoc}
use Rattle.std.specs.Prelude.{unwrap_or}
use Rattle.result_rows.specs.declared.Outcome.{Outcome}
use Rattle.bank_shape.specs.declared.BankShape.{BankShape}
use Rattle.bank_model.specs.Timing.{TimedEvent}
use Rattle.bank_laws.specs.Outcomes.{outcome_with, outcome_of}
use Rattle.clock_laws.specs.Recording.{outcome_on, WholeOutcomeLaw, BothRecordedLaw}

whole : {n m : ℕ} (shape : BankShape) (added xs : List (TimedEvent n m)) (row : ℕ) → outcome_on shape added xs (outcome_of shape xs) row ≡ outcome_of shape (added ++ xs) row
whole shape [] xs row = refl
whole shape (x ∷ added) xs row = ap (λ outcome. unwrap_or (outcome_with shape (added ++ xs) x.happens x.tick row) outcome) (whole shape added xs row)

both : {n m : ℕ} (shape : BankShape) (newer older xs : List (TimedEvent n m)) (before : ℕ → Outcome n) (row : ℕ)
    → outcome_on shape (newer ++ older) xs before row ≡ outcome_on shape newer (older ++ xs) (outcome_on shape older xs before) row
both shape [] older xs before row = refl
both {n = n} {m = m} shape (x ∷ newer) older xs before row =
    ap (λ outcome. unwrap_or (outcome_with shape ((newer ++ older) ++ xs) x.happens x.tick row) outcome) (both shape newer older xs before row)
    ∙ ap (λ (events : List (TimedEvent n m)). unwrap_or (outcome_with shape events x.happens x.tick row) (outcome_on shape newer (older ++ xs) (outcome_on shape older xs before) row))
    (append_assoc newer older xs)

pub whole_outcome_law : WholeOutcomeLaw
whole_outcome_law n m shape added xs row = whole shape added xs row

pub both_recorded_law : BothRecordedLaw
both_recorded_law n m shape newer older xs before row = both shape newer older xs before row

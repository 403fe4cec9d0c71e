-- The rule on worn rows, by what is kept.
use Rattle.std.proofs.Common.{◌≡◌, ℕ, ◌&&◌, ◌||◌, Bool, true, false, List, [], ◌∷◌, Some, refl, ap, ◌∙◌, cond}
use Rattle.std.specs.{List.list_any, Prelude.{nat_le, not}}
use Rattle.result_rows.specs.declared.Outcome.{Outcome}
use Rattle.result_rows.specs.declared.Outcome.TheVariants as out
use Rattle.row_rules.specs.{Answers.is_worn, Wearing.worn_row, declared.Row.Row}
use Rattle.check_judging.{specs.Worn.{first_worn_by, store_precedes}, proofs.FirstWorn.worn_law}
use Rattle.check_verdict.specs.{Keeping.{before_worn, stored_early}, Worn.{first_worn, WornKeptLaw}}

module _ {n : ℕ} where
  early : (u : ℕ) (rows : List (Row n)) → not (first_worn_by u rows) ≡ before_worn u (first_worn rows)
  early u [] = refl
  early u (q ∷ rows) = by (worn_row q) (early u rows)
    where
      by : (b : Bool) → not (first_worn_by u rows) ≡ before_worn u (first_worn rows)
          → not (cond b (nat_le q.tick u) (first_worn_by u rows)) ≡ before_worn u (cond b (Some q.tick) (first_worn rows))
      by true ih = refl
      by false ih = ih

  precedes : (after : List (Row n)) (o : Outcome n) → store_precedes o after ≡ stored_early (first_worn after) o
  precedes after (out.Stored u place) = early u after
  precedes after _ = refl

pub worn_kept_law : WornKeptLaw
worn_kept_law n t before r after later writes =
    worn_law n t before r after later
    ∙ ap (λ b. not b || (is_worn r.outcome || (not (list_any worn_row before) && store_precedes r.outcome after))) writes
    ∙ ap (λ b. is_worn r.outcome || (not (list_any worn_row before) && b)) (precedes after r.outcome)

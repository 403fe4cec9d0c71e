-- Outcomes that fall short of what their rows asked for.
use Rattle.std.specs.{List.list_any, Prelude.{ℕ, Bool, ◌||◌, List}}
use Rattle.result_rows.specs.declared.Outcome.{Outcome}
use Rattle.row_rules.specs.Answers.{is_queued, is_full, is_worn, is_busy, is_lost}

module _ {n : ℕ} where
  -- a write that was refused or still stands in the queue, or a read that was refused or lost
  abbrev pub is_short : Outcome n → Bool
  is_short outcome = is_full outcome || (is_worn outcome || (is_busy outcome || (is_lost outcome || is_queued outcome)))

  -- some outcome falls short
  abbrev pub any_short : List (Outcome n) → Bool
  any_short outcomes = list_any is_short outcomes

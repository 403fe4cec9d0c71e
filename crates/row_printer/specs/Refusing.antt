-- Rows that were refused.
use Rattle.std.specs.{List.list_any, Prelude.{ℕ, Bool, ◌||◌, List}}
use Rattle.result_rows.specs.declared.Outcome.{Outcome}
use Rattle.row_rules.specs.Answers.{is_full, is_worn}

module _ {n : ℕ} where
  -- a write that was refused at its arrival: its bank's queue was full, or a worn line of the bank had found no spare
  abbrev pub is_refused : Outcome n → Bool
  is_refused outcome = is_full outcome || is_worn outcome

  -- some row was refused
  abbrev pub any_refused : List (Outcome n) → Bool
  any_refused outcomes = list_any is_refused outcomes

-- The rule on worn rows, by what is kept.
use Rattle.std.specs.{List.list_any, Prelude.{◌≡◌, ℕ, ◌&&◌, ◌||◌, not, true, IsTrue, if◌then◌else◌, List, [], ◌∷◌, Option, Some, None}}
use Rattle.row_rules.specs.{Answers.is_worn, Rows.asks_write, Wearing.{worn_row, is_wear_final}, declared.Row.Row}
use Rattle.check_judging.specs.Rising.{rising}
use Rattle.check_verdict.specs.Keeping.{stored_early}

-- the tick of the first worn row of these
abbrev pub first_worn : {n : ℕ} → List (Row n) → Option ℕ
first_worn [] = None
first_worn (q ∷ rows) = if worn_row q then Some q.tick else first_worn rows

abbrev pub WornKeptLaw : Type 0
WornKeptLaw =
    (n t : ℕ) (before : List (Row n)) (r : Row n) (after : List (Row n)) → IsTrue (rising t after) → asks_write r.asks ≡ true
    → is_wear_final before r after ≡ (is_worn r.outcome || (not (list_any worn_row before) && stored_early (first_worn after) r.outcome))

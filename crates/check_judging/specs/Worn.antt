-- What follows from the first worn row.
use Rattle.std.specs.{List.list_any, Prelude.{◌≡◌, ℕ, not, ◌&&◌, ◌||◌, Bool, true, false, IsTrue, if◌then◌else◌, List, [], ◌∷◌, nat_le}}
use Rattle.result_rows.specs.declared.Outcome.{Outcome}
use Rattle.result_rows.specs.declared.Outcome.TheVariants as out
use Rattle.row_rules.specs.{Answers.is_worn, Rows.asks_write, Wearing.{worn_row, is_wear_final}, declared.Row.Row}
use Rattle.check_judging.specs.Rising.{rising}

module _ {n : ℕ} where
  -- the first worn row of these came at tick u or below
  abbrev pub first_worn_by : ℕ → List (Row n) → Bool
  first_worn_by u [] = false
  first_worn_by u (q ∷ rows) = if worn_row q then nat_le q.tick u else first_worn_by u rows

  -- a write that is stored is so below the tick of the first worn row of these
  abbrev pub store_precedes : Outcome n → List (Row n) → Bool
  store_precedes (out.Stored u place) after = not (first_worn_by u after)
  store_precedes _ after = true

-- a write is worn, or stands before each worn row, and is stored before the first of them came
abbrev pub WornLaw : Type 0
WornLaw =
    (n t : ℕ) (before : List (Row n)) (r : Row n) (after : List (Row n)) → IsTrue (rising t after)
    → is_wear_final before r after
    ≡ (not (asks_write r.asks) || (is_worn r.outcome || (not (list_any worn_row before) && store_precedes r.outcome after)))

-- What the rows show of a bank that found no spare.
use Rattle.std.specs.{List.list_any, Prelude.{ℕ, List, Bool, true, not, ◌&&◌, ◌||◌, nat_le}}
use Rattle.result_rows.specs.declared.Outcome.{Outcome}
use Rattle.result_rows.specs.declared.Outcome.TheVariants as out
use Rattle.row_rules.specs.{Answers.is_worn, Rows.{RowTest, asks_write, accepted}, declared.Row.Row}

module _ {n : ℕ} where
  -- a write that was refused, since a worn line had found no spare
  abbrev pub worn_row : Row n → Bool
  worn_row r = asks_write r.asks && is_worn r.outcome

  -- one of these rows is worn and came at this tick or below
  abbrev pub worn_by : ℕ → List (Row n) → Bool
  worn_by tick rows = list_any (λ q. worn_row q && nat_le q.tick tick) rows

  -- a write is stored below the tick of every worn row
  abbrev pub store_fits : Outcome n → List (Row n) → List (Row n) → Bool
  store_fits (out.Stored tick place) before after = not (worn_by tick before) && not (worn_by tick after)
  store_fits _ before after = true

  -- wearing out is final: every write behind a worn row is worn, and no write is stored at a worn row's tick or later
  abbrev pub is_wear_final : RowTest n
  is_wear_final before r after =
      not (asks_write r.asks) || ((not (list_any worn_row before) || is_worn r.outcome) && store_fits r.outcome before after)

  -- wearing out is earned: a worn row has an accepted write before it
  abbrev pub is_wear_earned : RowTest n
  is_wear_earned before r after = not (worn_row r) || list_any accepted before

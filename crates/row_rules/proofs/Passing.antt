-- Rows that pass tests; for the crates above.
use Rattle.std.proofs.Common.{◌≡◌, ℕ, ◌&&◌, true, List, [], ◌∷◌, refl}
use Rattle.std.proofs.lemmas.Bool.{and_from}
use Rattle.masked_bytes.proofs.Truth.{and_first, and_second}
use Rattle.row_rules.specs.{Rows.{RowTest, each_row}, declared.Row.Row}

module _ {n : ℕ} where
  -- a row that passes two tests passes both at once
  pub passes_both : (test other : RowTest n) (rows after : List (Row n)) → each_row test rows after ≡ true → each_row other rows after ≡ true
      → each_row (λ before r after. test before r after && other before r after) rows after ≡ true
  passes_both test other [] after h k = refl
  passes_both test other (r ∷ before) after h k =
      and_from (test before r after && other before r after) _
      (and_from (test before r after) (other before r after) (and_first (test before r after) (each_row test before (r ∷ after)) h) (and_first (other before r after) (each_row other before (r ∷ after)) k))
      (passes_both test other before (r ∷ after) (and_second (test before r after) _ h) (and_second (other before r after) _ k))

-- What the rows behind a row bring.
use Rattle.std.specs.Prelude.{◌≡◌, ℕ, List, [], ◌∷◌, ◌++◌, length, Option, Some, None, slice_get, min}
use Rattle.row_rules.specs.{Table.of_bank, declared.Asks.Asks, declared.Row.Row}
use Rattle.check_verdict.specs.{Covering.soonest, QueueLaws.next_accepted, RowVerdicts.coming_to, Verdicts.bank_in, Worn.first_worn, declared.known.Coming.Coming}
use Rattle.result_check.specs.Finding.{line_asked}

-- what the rows behind a row bring to it, if it has a line
abbrev pub coming_for : {n : ℕ} → List ℕ → Option ℕ → List (Row n) → Coming
coming_for banks (Some line) after = coming_to banks line after
coming_for banks None after = record { next = None; soonest = None; worn = None }

abbrev pub coming_at : {n : ℕ} → List ℕ → Asks n → List (Row n) → Coming
coming_at banks asks after = coming_for banks (line_asked asks) after

-- that of each of these rows, the last row's first
abbrev pub coming_of : {n : ℕ} → List ℕ → List (Row n) → List Coming
coming_of banks [] = []
coming_of banks (r ∷ after) = coming_of banks after ++ coming_at banks r.asks after ∷ []

-- the lesser of a tick and another, if there is one
abbrev pub sooner_of : ℕ → Option ℕ → Option ℕ
sooner_of u None = Some u
sooner_of u (Some v) = Some (min u v)

-- the same of the rows from an index on of each line and each bank
pub record IsOutlook {n : ℕ} (banks : List ℕ) (rows : List (Row n)) (next soon worn : List (Option ℕ)) : Type 0 where
  pub next_is : (line : ℕ) (found : Option ℕ) → slice_get next line ≡ Some found → found ≡ next_accepted line rows
  pub soonest_is : (line : ℕ) (found : Option ℕ) → slice_get soon line ≡ Some found → found ≡ soonest line rows
  pub worn_is : (bank : ℕ) (found : Option ℕ) → slice_get worn bank ≡ Some found → found ≡ first_worn (of_bank (bank_in banks) bank rows)
  pub next_size : length next ≡ length banks
  pub soonest_size : length soon ≡ length banks
  pub worn_size : length worn ≡ 256

-- What a verdict says.
use Rattle.std.specs.Prelude.{◌≡◌, ℕ, ◌+◌, List, ◌∷◌, ◌++◌, length, reverse, Some, true}
use Rattle.row_rules.specs.{Rows.each_row, declared.Row.Row, declared.Rules.Rules}
use Rattle.check_verdict.specs.{Verdicts.{all_rules, broken_by, keeps_all, verdict_of, RowsOk}, declared.Rule.Rule, declared.Verdict.TheVariants.{Yes, No}}

-- Yes comes exactly where each row keeps each rule
pub record IsYesExactly {n : ℕ} (rules : Rules) (banks : List ℕ) (rows : List (Row n)) : Type 0 where
  pub ok : verdict_of rules banks rows ≡ Yes → RowsOk rules banks rows
  pub yes : RowsOk rules banks rows → verdict_of rules banks rows ≡ Yes

-- where the verdict is No, these rows keep all rules, and the one behind them breaks this one first
pub record IsLowest {n : ℕ} (rules : Rules) (banks : List ℕ) (rows : List (Row n)) (row : ℕ) (one : Rule) : Type 0 where
  pub below : List (Row n)
  pub broken : Row n
  pub above : List (Row n)
  pub split : rows ≡ below ++ broken ∷ above
  pub number : row ≡ length below + 1
  pub kept : each_row (keeps_all rules banks) (reverse below) (broken ∷ above) ≡ true
  pub first : broken_by rules banks all_rules (reverse below) broken above ≡ Some one

abbrev pub VerdictLaw : Type 0
VerdictLaw =
    (n : ℕ) (rules : Rules) (banks : List ℕ) (rows : List (Row n))
    → IsYesExactly rules banks rows × ((row : ℕ) (one : Rule) → verdict_of rules banks rows ≡ No row one → IsLowest rules banks rows row one)

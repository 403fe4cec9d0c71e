-- The first clause of a rule that a row breaks.
use Rattle.std.specs.Prelude.{ℕ, Bool, if◌then◌else◌, List, [], ◌∷◌, Option, Some, None}
use Rattle.row_rules.specs.{declared.Row.Row, declared.Rules.Rules}
use Rattle.check_verdict.specs.declared.Rule.{Rule}
use Rattle.check_telling.specs.{Clauses.{clauses_of, holds}, declared.Clause.Clause}

-- the first of these clauses that doesn't hold
abbrev pub first_broken : (Clause → Bool) → List Clause → Option Clause
first_broken keeps [] = None
first_broken keeps (c ∷ rest) = if keeps c then first_broken keeps rest else Some c

-- the first clause of a rule that a row breaks
abbrev pub first_clause : {n : ℕ} → Rules → List ℕ → Rule → List (Row n) → Row n → List (Row n) → Option Clause
first_clause rules banks one before r after = first_broken (λ c. holds rules banks c before r after) (clauses_of one)

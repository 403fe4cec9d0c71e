-- By when the outcomes of rows have come.
use Rattle.std.specs.{Option.ForSome, Prelude.{ℕ, ◌+◌, ◌*◌, ◌≤◌, List, All, length, max}}
use Rattle.result_rows.specs.Outcomes.{tick_of}
use Rattle.row_rules.specs.{Ticking.{attempt, longest}, declared.Row.Row, declared.Rules.Rules}
use Rattle.check_verdict.specs.Verdicts.{RowsOk}

-- the longest time until the row of a table of so many is read, stored or lost
abbrev pub longest_among : Rules → ℕ → ℕ
longest_among rules count = longest rules count count count + (attempt rules + max rules.read_ticks rules.iter_ticks + (count + 1) * rules.read_ticks)

-- where each row keeps each rule, no outcome comes later than that after the last row
abbrev pub SoonLaw : Type 0
SoonLaw =
    (n : ℕ) (rules : Rules) (banks : List ℕ) (rows : List (Row n)) (last : ℕ) → RowsOk rules banks rows → All (λ r. r.tick ≤ last) rows
    → All (λ r. ForSome (tick_of r.outcome) (λ tick. tick ≤ last + longest_among rules (length rows))) rows

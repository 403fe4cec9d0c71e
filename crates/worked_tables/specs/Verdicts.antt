-- Tables beside the worked run, the newest row first.
use Rattle.std.specs.Prelude.{ℕ, List, [], ◌∷◌, reverse}
use Rattle.result_rows.specs.declared.Outcome.TheVariants as out
use Rattle.row_rules.specs.declared.Row.{Row}
use Rattle.worked_tables.specs.{Runs.small, TableExamples.{W, R, whole}}
use Rattle.check_verdict.specs.{Verdicts.verdict_of, declared.Verdict.Verdict}
use Rattle.right_runs.specs.Banks.{rules_in, banks_of}

-- the verdict on rows of the small module
abbrev pub verdict_on : List (Row 2) → Verdict
verdict_on rows = verdict_of (rules_in 1 small 0) (banks_of small 0) (reverse rows)

-- the worked run, but that line 8 is read at this tick
abbrev pub read_at : ℕ → List (Row 2)
read_at tick = R 100 0 (out.Read 105 6 (whole 0)) ∷ R 100 8 (out.Read tick 17 (whole 0x11)) ∷ W 0 8 0x11 (out.Stored 15 17) ∷ []

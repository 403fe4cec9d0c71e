-- The verdict on the rows of a right run.
use Rattle.std.specs.Prelude.{◌≡◌, ℕ, Bool, List, reverse}
use Rattle.cell_rows.specs.Device.{ArrayState}
use Rattle.row_rules.specs.declared.Row.{Row}
use Rattle.check_verdict.specs.{Verdicts.{verdict_of, RowsOk}, declared.Verdict.TheVariants.Yes}
use Rattle.module_shape.specs.{Limits.IsShape, declared.raw.RawShape.RawShape}
use Rattle.right_runs.specs.{Banks.{rules_in, banks_of}, Ends.BankEnd, Runs.{RunsRight, ServesTo}}
use Rattle.run_laws.specs.RowsOfRuns.{LinesExist}

-- rows that are served as those of a run are, or as those behind whose last one the power stays off, keep each rule by which results are judged
abbrev pub ServedRulesLaw : Type 0
ServedRulesLaw =
    (off : Bool) (n m e : ℕ) (raw : RawShape) (seed : ℕ) (rows : List (Row n)) (array : ArrayState n m)
    → IsShape raw → LinesExist raw rows → ServesTo e raw seed off rows array
    → RowsOk (rules_in e raw 0) (banks_of raw seed) (reverse rows)

-- so the verdict on them, the oldest first, is Yes
abbrev pub ServedYesLaw : Type 0
ServedYesLaw =
    (off : Bool) (n m e : ℕ) (raw : RawShape) (seed : ℕ) (rows : List (Row n)) (array : ArrayState n m)
    → IsShape raw → LinesExist raw rows → ServesTo e raw seed off rows array
    → verdict_of (rules_in e raw 0) (banks_of raw seed) (reverse rows) ≡ Yes

-- so each row of a right run keeps each rule
abbrev pub RulesKeptLaw : Type 0
RulesKeptLaw =
    (n m e : ℕ) (raw : RawShape) (seed : ℕ) (rows : List (Row n)) (array : ArrayState n m) (ends : ℕ → BankEnd)
    → IsShape raw → LinesExist raw rows → RunsRight e raw seed rows array ends
    → RowsOk (rules_in e raw 0) (banks_of raw seed) (reverse rows)

-- and the verdict on its rows is Yes
abbrev pub YesLaw : Type 0
YesLaw =
    (n m e : ℕ) (raw : RawShape) (seed : ℕ) (rows : List (Row n)) (array : ArrayState n m) (ends : ℕ → BankEnd)
    → IsShape raw → LinesExist raw rows → RunsRight e raw seed rows array ends
    → verdict_of (rules_in e raw 0) (banks_of raw seed) (reverse rows) ≡ Yes

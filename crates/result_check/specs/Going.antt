-- The pass over all rows.
use Rattle.std.specs.Prelude.{◌≡◌, ℕ, ◌+◌, ◌<◌, ◌≤◌, true, List, All, Option, length, take, drop, reverse}
use Rattle.row_rules.specs.{declared.Row.Row, declared.Rules.Rules}
use Rattle.check_judging.specs.{Cutting.cut_ticks, Rising.rising}
use Rattle.check_verdict.specs.{States.Facts, Verdicts.{verdict_from, verdict_of}, declared.lines.CheckedLine.CheckedLine}
use Rattle.result_check.specs.{Keeping.{Knows, KnowsLines}, declared.found.Found.Found}

-- some rows have passed
pub record GoesOn {n : ℕ} (rules : Rules) (banks : List ℕ) (rows : List (Row n)) (i : ℕ) (found : Found)
    (cuts : ℕ) (kept : List Facts) (joined : Option ℕ) (lines : List (CheckedLine n)) : Type 0 where
  pub from : ℕ
  pub rises : rising from (drop i rows) ≡ true
  pub knows : Knows rules banks from kept joined (reverse (take i rows))
  pub lines_known : KnowsLines banks from lines (reverse (take i rows))
  pub exist : All (λ bank. bank < length kept) banks
  pub size : length lines ≡ length banks
  pub cuts_left : drop cuts found.cuts.items ≡ cut_ticks (drop i rows)
  pub cuts_within : cuts ≤ length found.cuts.items
  pub so_far : verdict_of rules banks rows ≡ verdict_from rules banks (i + 1) (reverse (take i rows)) (drop i rows)

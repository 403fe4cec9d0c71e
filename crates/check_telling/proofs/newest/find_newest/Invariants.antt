use Rattle.std.proofs.Common.{◌≡◌, ℕ, List}
use Rattle.std.specs.Prelude.{drop, replicate}
use Rattle.row_rules.specs.declared.Row.{Row}
use Rattle.check_telling.proofs.Folds.{newest_on, givers_on}
use Rattle.check_telling.proofs.newest.find_newest.Given as goal

pub record IsFound {n : ℕ} (line i : ℕ) (bytes numbers : List ℕ) (rows : List (Row n)) : Type 0 where
  pub bytes_left : newest_on line bytes (drop i rows) ≡ newest_on line (replicate n 0) rows
  pub numbers_left : givers_on line i numbers (drop i rows) ≡ givers_on line 0 (replicate n 0) rows

abbrev pub invariant-loop-i : goal.invariant-loop-i
invariant-loop-i g l = IsFound l.line l.i l.found.bytes l.found.givers l.rows

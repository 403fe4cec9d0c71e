-- A whole table, as a checker goes over it.
use Rattle.std.specs.{List.Sorted.IsNonDecreasing, Prelude.{◌≡◌, ℕ, ◌<◌, ◌≤◌, IsTrue, List, All, length, IsPermutation}}
use Rattle.row_rules.specs.{Lines.IsOfLines, declared.Row.Row}
use Rattle.check_judging.specs.{Cutting.cut_ticks, Keys.{reach, store_keys, read_keys}, Rising.rising, Runs.GivesSized}
use Rattle.check_verdict.specs.{Fitting.all_brief, Verdicts.bank_in}
use Rattle.result_check.specs.declared.found.Found.{Found}

-- a row comes below the reach, of one of so many lines or of none
pub record IsRowOf {n : ℕ} (lines : ℕ) (r : Row n) : Type 0 where
  pub line : IsOfLines lines r.asks
  pub reached : r.tick < reach

-- rows of a table over so many lines, the oldest first
pub record IsTable {n : ℕ} (lines : ℕ) (rows : List (Row n)) : Type 0 where
  pub rises : IsTrue (rising 0 rows)
  pub brief : IsTrue (all_brief rows)
  pub sized : All (λ r. GivesSized r) rows
  pub each : All (λ r. IsRowOf lines r) rows
  pub few : length rows ≤ 400000

-- these are the sorted keys of a table, and its cuts
pub record IsFound {n : ℕ} (banks : List ℕ) (rows : List (Row n)) (found : Found) : Type 0 where
  pub stores : IsPermutation (store_keys (bank_in banks) rows) found.keys.stores.items
  pub stores_sorted : IsNonDecreasing found.keys.stores.items
  pub reads : IsPermutation (read_keys (bank_in banks) rows) found.keys.reads.items
  pub reads_sorted : IsNonDecreasing found.keys.reads.items
  pub lines : IsPermutation (store_keys (λ line. line) rows) found.keys.lines.items
  pub lines_sorted : IsNonDecreasing found.keys.lines.items
  pub cuts : found.cuts.items ≡ cut_ticks rows

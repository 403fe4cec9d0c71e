-- How many reads wait: those that are read later, and those that a cut will lose.
use Rattle.std.specs.{List.{list_all, list_any}, Prelude.{◌≡◌, ℕ, ◌+◌, ◌&&◌, not, IsTrue, if◌then◌else◌, List, [], ◌∷◌, length}}
use Rattle.row_rules.specs.{Answers.is_lost, Queueing.waiting, Rows.{asks_read, is_cut}, declared.Row.Row}
use Rattle.check_judging.specs.{Distances.waits_above, Standing.is_own}

-- how many of these reads are lost, and no cut has come since
abbrev pub lost_since : {n : ℕ} → List (Row n) → List (Row n) → ℕ
lost_since between [] = 0
lost_since between (q ∷ rows) =
    (if asks_read q.asks && (is_lost q.outcome && not (list_any is_cut between)) then 1 else 0) + lost_since (q ∷ between) rows

abbrev pub WaitingLaw : Type 0
WaitingLaw = (n t : ℕ) (rows : List (Row n)) → IsTrue (list_all is_own rows) → length (waiting t [] rows) ≡ length (waits_above t rows) + lost_since [] rows

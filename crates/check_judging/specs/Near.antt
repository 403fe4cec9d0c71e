-- The writes in a queue but for the newest.
use Rattle.std.specs.Prelude.{ℕ, IsTrue, List, [], drop}
use Rattle.row_rules.specs.{Queueing.{pending, pairs_few}, declared.Row.Row}

-- but for the newest write in the queue, pairs are in order
abbrev pub NearRoom : {n : ℕ} → ℕ → List (Row n) → Type 0
NearRoom t rows = IsTrue (pairs_few (drop 1 (pending t [] rows)) (drop 1 (pending t [] rows)))

-- What ties the counts of a table to its rows.
use Rattle.std.specs.{List.list_any, Prelude.{ℕ, ◌≡◌, ◌+◌, Bool, true, false, List, length, nat_lt}}
use Rattle.result_rows.specs.declared.Outcome.{Outcome}
use Rattle.result_rows.specs.declared.Outcome.TheVariants as out
use Rattle.run_text.specs.{Counting.counts_of, Shortfall.any_short, declared.counts.OutcomeCounts.OutcomeCounts}

-- a row that was never set
abbrev pub is_unset : {n : ℕ} → Outcome n → Bool
is_unset out.Unset = true
is_unset _ = false

-- all rows that are counted
abbrev pub rows_counted : OutcomeCounts → ℕ
rows_counted c = c.stored + c.merged + c.queued + c.full + c.worn + c.read + c.forwarded + c.busy + c.lost + c.cut

-- the rows that are counted as refused, lost or still in the queue
abbrev pub rows_short : OutcomeCounts → ℕ
rows_short c = c.queued + c.full + c.worn + c.busy + c.lost

-- where every row is set, the ten counts add up to the rows
abbrev pub EachRowIsCountedOnce : Type 0
EachRowIsCountedOnce = (n : ℕ) → (outcomes : List (Outcome n)) → list_any is_unset outcomes ≡ false → rows_counted (counts_of outcomes) ≡ length outcomes

-- some row falls short exactly where one is counted as refused, lost or still in the queue
abbrev pub ShortRowsAreCounted : Type 0
ShortRowsAreCounted = (n : ℕ) → (outcomes : List (Outcome n)) → any_short outcomes ≡ nat_lt 0 (rows_short (counts_of outcomes))

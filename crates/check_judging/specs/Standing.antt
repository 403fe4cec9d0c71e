-- What is told by the writes that stand and the reads that wait, where each row has an outcome of its own operation.
use Rattle.std.specs.{List.list_all, Prelude.{◌≡◌, ℕ, Bool, true, IsTrue, not, ◌&&◌, ◌||◌, List, []}}
use Rattle.result_rows.specs.declared.Outcome.{Outcome}
use Rattle.result_rows.specs.declared.Outcome.TheVariants as out
use Rattle.row_rules.specs.{Answers.{is_stored, is_answered}, Queueing.{pending, waiting}, Rows.{asks_write, asks_read}, declared.Row.Row}
use Rattle.check_judging.specs.Distances.{ends_above, waits_above}

module _ {n : ℕ} where
  -- what is stored is a write, and what is read a read
  abbrev pub is_own : Row n → Bool
  is_own q = (not (is_stored q.outcome) || asks_write q.asks) && (not (is_answered q.outcome) || asks_read q.asks)

  -- a test of the tick at which a row is stored, if it is
  abbrev pub at_end : (ℕ → Bool) → Outcome n → Bool
  at_end test (out.Stored u place) = test u
  at_end test _ = true

  -- and of that at which it is read
  abbrev pub at_read : (ℕ → Bool) → Outcome n → Bool
  at_read test (out.Read u place bytes) = test u
  at_read test _ = true

-- a test of all ticks above t at which rows are stored, or read, is one of the writes that stand, or of the reads that wait
pub record Stand {n : ℕ} (t : ℕ) (test : ℕ → Bool) (rows : List (Row n)) : Type 0 where
  pub writes : list_all test (ends_above t rows) ≡ list_all (λ q. at_end test q.outcome) (pending t [] rows)
  pub reads : list_all test (waits_above t rows) ≡ list_all (λ q. at_read test q.outcome) (waiting t [] rows)

abbrev pub StandLaw : Type 0
StandLaw = (n t : ℕ) (test : ℕ → Bool) (rows : List (Row n)) → IsTrue (list_all is_own rows) → Stand t test rows

-- The rule on the queue, by what is kept of a bank.
use Rattle.std.specs.Prelude.{◌≡◌, ℕ, ◌+◌, List, [], Option, length}
use Rattle.row_rules.specs.{Queueing.{pending, waiting}, declared.Row.Row}
use Rattle.check_verdict.specs.{Kept.KeptBank, declared.members.Member.Member}

-- the numbers of the writes that stand and of the reads that wait are those of what is kept
pub record NumbersTold {n : ℕ} (t : ℕ) (rows : List (Row n)) (members : List Member) (waits : List ℕ) (lost : ℕ) : Type 0 where
  pub writes : length (pending t [] rows) ≡ length members
  pub reads : length (waiting t [] rows) ≡ length waits + lost

abbrev pub NumbersLaw : Type 0
NumbersLaw =
    (n t : ℕ) (rows : List (Row n)) (members : List Member) (waits : List ℕ) (lost : ℕ) (last_answer last_store : Option ℕ)
    → KeptBank t rows members waits lost last_answer last_store → NumbersTold t rows members waits lost

-- What contracts see of a bank.
use Rattle.std.specs.{List.list_any, Prelude.{ℕ, Bool, true, false, List, [], Option, Some, None, not, ◌&&◌, is_some, ◌==◌}}
use Rattle.bank_shape.specs.{Kinds.is_store, declared.BankShape.BankShape, declared.Work.Work, declared.Work.TheVariants.{Nothing, Store, Copy}, declared.waiting.Waiting.Waiting}
use Rattle.line_writer.specs.declared.writer.LineWriter.{LineWriter}
use Rattle.power_recovery.specs.{Events.first_kept, Kept.{KeptState, array_line, target_slot, next_work}}

-- a line write in progress: what it is for, the array line that it writes, and how far it has come
pub record Operation (n m e : ℕ) : Type 0 where
  pub work : Work
  pub target : ℕ
  pub writer : LineWriter n m e

-- what survives a cut, the line write in progress, the reads that wait and the rows of lost ones, the oldest first,
-- and a bound above the rows that were handed in
pub record BankState (n m e : ℕ) : Type 0 where
  pub kept : KeptState n
  pub running : Option (Operation n m e)
  pub waiting : List (Waiting n)
  pub lost : List ℕ
  pub rows_below : ℕ

-- a bank that was just made
abbrev pub first_bank : {n m e : ℕ} → BankShape → BankState n m e
first_bank shape = record { kept = first_kept shape; running = None; waiting = []; lost = []; rows_below = 0 }

-- the array line that a work writes
abbrev pub target_of : {n : ℕ} → KeptState n → Work → ℕ
target_of kept work = array_line kept (target_slot kept work)

-- whether a work may be begun while these reads wait: a store may not while one of its line waits
abbrev pub is_free : {n : ℕ} → List (Waiting n) → Work → Bool
is_free ws Nothing = false
is_free ws (Store line slot) = not (list_any (λ w. w.line == line) ws)
is_free ws (Copy region step) = true

-- no line write is in progress, and one may be begun
abbrev pub may_begin : {n m e : ℕ} → BankState n m e → Bool
may_begin bank = not (is_some bank.running) && is_free bank.waiting (next_work bank.kept)

-- a store is in progress
abbrev pub is_storing : {n m e : ℕ} → Option (Operation n m e) → Bool
is_storing None = false
is_storing (Some op) = is_store op.work

-- What a bank answers, and what each of its calls leaves.
use Rattle.std.specs.Prelude.{ℕ, ◌+◌, ◌≤◌, ◌<◌, Bool, true, false, ◌||◌, if◌then◌else◌, drop, length, nat_lt, is_some}
use Rattle.cell_rows.specs.Device.{ArrayState, IsBlank}
use Rattle.protected_queue.specs.Queue.{accept_answer}
use Rattle.masked_bytes.specs.declared.entry.Entry.{Entry}
use Rattle.bank_shape.specs.{Shape.lines_in, declared.BankShape.BankShape, declared.Work.Work, declared.Work.TheVariants.{Nothing, Store, Copy}}
use Rattle.bank_shape.specs.{declared.answer.ReadAnswer.ReadAnswer, declared.answer.WriteAnswer.WriteAnswer}
use Rattle.bank_shape.specs.declared.answer.ReadAnswer.TheVariants as came
use Rattle.bank_shape.specs.declared.answer.WriteAnswer.TheVariants as wrote
use Rattle.power_recovery.specs.Kept.{next_work}
use Rattle.bank_invariant.specs.{Serving.waits_too, State.{BankState, is_storing}, Steps.answered, WriteAnswers.written, Writes.taken}

-- the array lines of a bank were just powered up
pub record IsFreshFor {n m : ℕ} (shape : BankShape) (array : ArrayState n m) : Type 0 where
  pub lines : shape.base + lines_in shape ≤ array.lines
  pub blank : (line : ℕ) → line < lines_in shape → IsBlank (array.line (shape.base + line))

-- whether a work is to be done
abbrev pub is_some_work : Work → Bool
is_some_work Nothing = false
is_some_work (Store line slot) = true
is_some_work (Copy region step) = true

module _ {n m e : ℕ} where
  -- a line write is in progress, a read waits, or a line write is due
  abbrev pub has_work : BankState n m e → Bool
  has_work bank = is_some bank.running || (nat_lt 0 (length bank.waiting) || is_some_work (next_work bank.kept))

  -- the bank after a read of this row and line was answered
  abbrev pub after_read : BankState n m e → ℕ → ℕ → ReadAnswer n → BankState n m e
  after_read bank row line (came.Forwarded bytes) = answered bank row
  after_read bank row line came.Waiting = waits_too bank row line
  after_read bank row line came.Busy = answered bank row

  -- what a write of a line is answered: a bank that found no spare takes none, and else its queue decides
  abbrev pub write_from : BankState n m e → ℕ → WriteAnswer
  write_from bank line =
      if bank.kept.exhausted then wrote.Exhausted
      else written (accept_answer bank.kept.shape.writes (is_storing bank.running) bank.kept.entries line)

  -- the bank after this write was answered
  abbrev pub after_write : BankState n m e → Entry n → WriteAnswer → BankState n m e
  after_write bank entry wrote.Accepted = taken (is_storing bank.running) entry bank
  after_write bank entry (wrote.Merged old) = taken (is_storing bank.running) entry bank
  after_write bank entry wrote.Full = answered bank entry.row
  after_write bank entry wrote.Exhausted = answered bank entry.row

  -- the bank after its first lost row was taken
  abbrev pub lost_taken : BankState n m e → BankState n m e
  lost_taken bank = record { kept = bank.kept; running = bank.running; waiting = bank.waiting; lost = drop 1 bank.lost; rows_below = bank.rows_below }

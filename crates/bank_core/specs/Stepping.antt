-- What an iteration of the line write in progress answers, and what it leaves.
use Rattle.std.specs.Prelude.{◌≡◌, ℕ, ◌+◌, ◌<◌, if◌then◌else◌, nat_lt}
use Rattle.cell_rows.specs.Device.{ArrayState}
use Rattle.masked_bytes.specs.Entries.{head_row}
use Rattle.program_verify.specs.{Programming.IsRound, declared.prog.Prog.Prog}
use Rattle.spare_pool.specs.Table.{used_by}
use Rattle.bank_shape.specs.{Shape.slots_of, declared.Work.Work, declared.Work.TheVariants.{Nothing, Store, Copy}, declared.answer.Step.Step}
use Rattle.bank_shape.specs.declared.answer.Step.TheVariants as did
use Rattle.line_writer.specs.{Untouched.LeavesUnused, Writing.{Writes, IsWorn, steps_left}, declared.writer.Progress.Progress}
use Rattle.line_writer.specs.declared.writer.Progress.TheVariants as progress
use Rattle.power_recovery.specs.{Events.{stored_kept, moved_kept, retired_kept, exhausted_kept}, Kept.{KeptState, target_slot}}
use Rattle.bank_invariant.specs.{Iterating.going_on, Retiring.ended, State.{BankState, Operation}}
use Rattle.ecp_line.specs.Reading.{IsSoundLine, IsWornLine}

module _ {n : ℕ} where
  -- the answer once a work is done: the row of the head and its array line, or the gap move
  abbrev pub done_from : KeptState n → Work → ℕ → Step
  done_from kept Nothing place = did.More
  done_from kept (Store line slot) place = did.Stored (head_row kept.entries) place
  done_from kept (Copy region step) place = did.Moved step

  -- what is kept then: the head is gone, or the gap has moved
  abbrev pub done_kept : KeptState n → Work → KeptState n
  done_kept kept Nothing = kept
  done_kept kept (Store line slot) = stored_kept kept
  done_kept kept (Copy region step) = moved_kept kept

  -- the answer once the line of a slot is worn: the next spare line, or that none was left
  abbrev pub worn_from : KeptState n → ℕ → Step
  worn_from kept slot =
      if nat_lt (used_by kept.table) kept.shape.spares then did.Retired slot (slots_of kept.shape + used_by kept.table) else did.Exhausted

  -- what is kept then: the slot has that spare, or the mark is set
  abbrev pub worn_kept : KeptState n → ℕ → KeptState n
  worn_kept kept slot = if nat_lt (used_by kept.table) kept.shape.spares then retired_kept slot kept else exhausted_kept kept

module _ {n m e : ℕ} where
  -- a bank that keeps this instead
  abbrev pub with_kept : BankState n m e → KeptState n → BankState n m e
  with_kept bank kept = record { kept = kept; running = bank.running; waiting = bank.waiting; lost = bank.lost; rows_below = bank.rows_below }

  -- the answer where a step of this line write comes so far
  abbrev pub step_from : KeptState n → Operation n m e → Progress → Step
  step_from kept op progress.More = did.More
  step_from kept op progress.Stored = done_from kept op.work op.target
  step_from kept op (progress.Worn cause) = worn_from kept (target_slot kept op.work)

  -- a step of the writer: one pulse, of no unused check cell, and one sense of the line, after which the writer is this
  pub record IsWriterStep (tick : ℕ) (old new : Operation n m e) (before after : ArrayState n m) : Type 0 where
    pub work : new.work ≡ old.work
    pub target : new.target ≡ old.target
    pub round : (prog : Prog n m) × IsRound old.target tick old.writer.prog prog before after × ((after.line old.target).held ≡ prog.seen)
    pub unused : LeavesUnused e old.writer.prog
    pub writes : Writes new.writer (after.line old.target)
    pub sound : IsSoundLine e (after.line old.target)
    pub worn : IsWorn new.writer.progress → IsWornLine e (after.line old.target)
    pub bytes : new.writer.bytes ≡ old.writer.bytes
    pub fewer : steps_left new.writer < steps_left old.writer

  -- what a step of this line write that comes so far leaves of a bank, with the line write as it is then
  abbrev pub left_by : BankState n m e → Operation n m e → Operation n m e → Progress → BankState n m e
  left_by bank old new progress.More = going_on bank new
  left_by bank old new progress.Stored = ended bank (done_kept bank.kept old.work)
  left_by bank old new (progress.Worn cause) = ended bank (worn_kept bank.kept (target_slot bank.kept old.work))

  -- an iteration: one step of the writer, by which the answer and the bank then go
  pub record IsIteration (tick : ℕ) (op : Operation n m e) (old new : BankState n m e) (answer : Step) (before after : ArrayState n m) : Type 0 where
    pub now : Operation n m e
    pub step : IsWriterStep tick op now before after
    pub is : answer ≡ step_from old.kept op now.writer.progress
    pub leaves : new ≡ left_by old op now now.writer.progress

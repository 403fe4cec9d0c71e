-- How many actions a bank still takes at most, if nothing arrives.
use Rattle.std.specs.Prelude.{◌≡◌, ℕ, ◌+◌, ◌-◌, ◌*◌, ◌<◌, ◌≤◌, Bool, true, false, IsTrue, List, length, Option, Some, None, is_some}
use Rattle.cell_rows.specs.Device.{ArrayState}
use Rattle.spare_pool.specs.Table.{used_by}
use Rattle.line_writer.specs.{Writing.{steps_left, most_steps}, declared.writer.LineWriter.LineWriter}
use Rattle.power_recovery.specs.{Events.{completed_kept, stored_kept, retired_kept, exhausted_kept}, Kept.{KeptState, IsKept, due_region, next_work}}
use Rattle.bank_invariant.specs.{Beginning.begun_with, Iterating.going_on, Moving.moved, Retiring.ended, Serving.served, State.{BankState, Operation}, Storing.resting}
use Rattle.bank_model.specs.{After.due_moves, Timing.TimedEvent}
use Rattle.bank_shape.specs.Kinds.{is_store, is_copy}
use Rattle.bank_shape.specs.declared.answer.Keep.TheVariants as keep
use Rattle.reg_lines.specs.{Keeping.kept_on, Regs.RegsState}
use Rattle.register_laws.specs.Telling.{item_of}
use Rattle.clock_laws.specs.{Leads.Leads, State.ClockState}

-- one, if no line has yet found no spare
abbrev pub last_attempts : Bool → ℕ
last_attempts true = 0
last_attempts false = 1

-- how many line writes a bank still begins at most: two for each write that stands, its store and a gap move; a gap move that is
-- due; one for each spare that is left, and one that finds none
abbrev pub attempts_left : {n : ℕ} → KeptState n → ℕ
attempts_left kept =
    2 * length kept.entries + due_moves (due_region kept) + (kept.table.spares - used_by kept.table) + last_attempts kept.exhausted

module _ {n m e : ℕ} where
  -- how many actions the line write in progress still takes, or one that is begun
  abbrev pub attempt_left : Option (Operation n m e) → ℕ
  attempt_left None = most_steps e + 1
  attempt_left (Some op) = steps_left op.writer

  -- so with that of the change
  abbrev pub keeping_left : Option (LineWriter n m e) → ℕ
  keeping_left None = most_steps e + 1
  keeping_left (Some writer) = steps_left writer

  -- what is left of the present line write: that of the change that stands, behind which one more may be begun, or else that of the
  -- bank's work. None is begun once the writing of a change has halted
  abbrev pub present_left : Option ℕ → Bool → Option (LineWriter n m e) → Option (Operation n m e) → ℕ
  present_left None halted writer running = attempt_left running
  present_left (Some item) true writer running = 0
  present_left (Some item) false writer running = most_steps e + 2 + keeping_left writer

  -- how many actions a bank still takes: each line write that it begins may bring a change, which is one line write more
  abbrev pub actions_left : BankState n m e → RegsState n m e → ℕ
  actions_left bank regs =
      length bank.waiting + (most_steps e + 2) * (2 * attempts_left bank.kept) + present_left (item_of regs.change) regs.halted regs.writer bank.running

  -- each action leaves fewer. An action that ends a line write of the bank may put a change
  pub record Falls (bank : BankState n m e) (regs : RegsState n m e) : Type 0 where
    pub after_serve : 0 < length bank.waiting → actions_left (served bank) regs < actions_left bank regs
    pub after_begin_of_store : (under : List ℕ) (op : Operation n m e) → regs.change ≡ None → bank.running ≡ None → steps_left op.writer ≤ most_steps e
        → actions_left (begun_with (completed_kept under bank.kept) op bank) regs < actions_left bank regs
    pub after_begin_of_copy : (op : Operation n m e) → regs.change ≡ None → bank.running ≡ None → steps_left op.writer ≤ most_steps e
        → actions_left (begun_with bank.kept op bank) regs < actions_left bank regs
    pub after_iteration : (op later : Operation n m e) → regs.change ≡ None → bank.running ≡ Some op → steps_left later.writer < steps_left op.writer
        → actions_left (going_on bank later) regs < actions_left bank regs
    pub after_store : (later : RegsState n m e) → later.writer ≡ None → is_store (next_work bank.kept) ≡ true
        → actions_left (resting (stored_kept bank.kept) bank) later < actions_left bank regs
    pub after_store_at_once : (later : RegsState n m e) (under : List ℕ) → later.writer ≡ None → is_store (next_work bank.kept) ≡ true
        → actions_left (resting (stored_kept (completed_kept under bank.kept)) bank) later < actions_left bank regs
    pub after_copy : (later : RegsState n m e) → later.writer ≡ None → IsKept bank.kept → is_copy (next_work bank.kept) ≡ true
        → actions_left (moved bank) later < actions_left bank regs
    pub after_retirement : (later : RegsState n m e) (slot : ℕ) → later.writer ≡ None → used_by bank.kept.table < bank.kept.table.spares
        → actions_left (ended bank (retired_kept slot bank.kept)) later < actions_left bank regs
    pub after_exhaustion : (later : RegsState n m e) → later.writer ≡ None → bank.kept.exhausted ≡ false
        → actions_left (ended bank (exhausted_kept bank.kept)) later < actions_left bank regs
    pub after_keep_begin : (writer : LineWriter n m e) → IsTrue (is_some regs.change) → regs.halted ≡ false → regs.writer ≡ None → steps_left writer ≤ most_steps e
        → actions_left bank (kept_on keep.More writer regs) < actions_left bank regs
    pub after_keep_iteration : (writer later : LineWriter n m e) → IsTrue (is_some regs.change) → regs.halted ≡ false → regs.writer ≡ Some writer
        → steps_left later < steps_left writer → actions_left bank (kept_on keep.More later regs) < actions_left bank regs
    pub after_done : (writer : LineWriter n m e) → IsTrue (is_some regs.change) → regs.halted ≡ false → bank.running ≡ None
        → actions_left bank (kept_on keep.Done writer regs) < actions_left bank regs
    pub after_halted : (writer : LineWriter n m e) → IsTrue (is_some regs.change) → regs.halted ≡ false
        → actions_left bank (kept_on keep.Halted writer regs) < actions_left bank regs

abbrev pub FallingLaw : Type 0
FallingLaw = (n m e : ℕ) (bank : BankState n m e) (regs : RegsState n m e) → Falls bank regs

-- while a change stands, no line write of the bank is in progress
abbrev pub OneWriteLaw : Type 0
OneWriteLaw =
    (n m e : ℕ) (xs : List (TimedEvent n m)) (clock : ClockState n m e) (array : ArrayState n m)
    → Leads xs clock array → IsTrue (is_some clock.regs.change) → clock.bank.running ≡ None

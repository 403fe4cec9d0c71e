-- That each answer to a write keeps the invariant.
use Rattle.std.specs.Prelude.{◌≡◌, ℕ, ◌+◌, ◌≤◌, Bool, List, ◌∷◌}
use Rattle.cell_rows.specs.Device.{ArrayState}
use Rattle.masked_bytes.specs.{Entries.RowsApart, declared.entry.Entry.Entry}
use Rattle.line_writer.specs.Writing.{most_steps}
use Rattle.power_recovery.specs.Events.{accepted_kept}
use Rattle.bank_shape.specs.declared.answer.WriteAnswer.TheVariants as wrote
use Rattle.bank_model.specs.{Answers.{MayHappen, head_busy_after}, Events.{BankEvent, Write}, History.queue}
use Rattle.bank_invariant.specs.{Holds.Holds, State.{BankState, is_storing}, Steps.answered}

module _ {n m e : ℕ} where
  -- the bank after its queue took a write: what it keeps is as `accepted_kept` says, and the bound above its rows has risen
  abbrev pub taken : Bool → Entry n → BankState n m e → BankState n m e
  taken busy entry bank = record {
    kept = accepted_kept busy entry bank.kept;
    running = bank.running;
    waiting = bank.waiting;
    lost = bank.lost;
    rows_below = entry.row + 1;
  }

-- a write that is refused since the queue is full keeps the invariant
abbrev pub FullLaw : Type 0
FullLaw =
    (n m e row line : ℕ) (bytes : List ℕ) (given : List Bool) (h : List (BankEvent n)) (bank : BankState n m e) (array : ArrayState n m)
    → Holds h bank array → bank.rows_below ≤ row → MayHappen bank.kept.shape h (most_steps e) (Write row line bytes given wrote.Full)
    → Holds (Write row line bytes given wrote.Full ∷ h) (answered bank row) array

-- so does one that is refused since no spare was left
abbrev pub ExhaustedWriteLaw : Type 0
ExhaustedWriteLaw =
    (n m e row line : ℕ) (bytes : List ℕ) (given : List Bool) (h : List (BankEvent n)) (bank : BankState n m e) (array : ArrayState n m)
    → Holds h bank array → bank.rows_below ≤ row → MayHappen bank.kept.shape h (most_steps e) (Write row line bytes given wrote.Exhausted)
    → Holds (Write row line bytes given wrote.Exhausted ∷ h) (answered bank row) array

-- so does one that is accepted, where the bank tells its queue whether a store is in progress.
-- That the history tells the same is a law of its own: here a premise
abbrev pub AcceptedLaw : Type 0
AcceptedLaw =
    (n m e row line : ℕ) (bytes : List ℕ) (given : List Bool) (busy : Bool) (h : List (BankEvent n)) (bank : BankState n m e) (array : ArrayState n m)
    → Holds h bank array → bank.rows_below ≤ row → MayHappen bank.kept.shape h (most_steps e) (Write row line bytes given wrote.Accepted)
    → busy ≡ is_storing bank.running → busy ≡ head_busy_after bank.kept.shape h
    → Holds (Write row line bytes given wrote.Accepted ∷ h) (taken busy (record { row = row; line = line; bytes = bytes; given = given }) bank) array

-- and one that is merged. That the history tells the same, and that no two entries of its queue have one row,
-- since the rows of its writes rise, are laws of their own: here premises
abbrev pub MergedLaw : Type 0
MergedLaw =
    (n m e row line old : ℕ) (bytes : List ℕ) (given : List Bool) (busy : Bool) (h : List (BankEvent n)) (bank : BankState n m e) (array : ArrayState n m)
    → Holds h bank array → bank.rows_below ≤ row → MayHappen bank.kept.shape h (most_steps e) (Write row line bytes given (wrote.Merged old))
    → busy ≡ is_storing bank.running → busy ≡ head_busy_after bank.kept.shape h → RowsApart (queue bank.kept.shape h)
    → Holds (Write row line bytes given (wrote.Merged old) ∷ h) (taken busy (record { row = row; line = line; bytes = bytes; given = given }) bank) array

-- so a write that is accepted keeps the invariant
abbrev pub AcceptedWriteLaw : Type 0
AcceptedWriteLaw =
    (n m e row line : ℕ) (bytes : List ℕ) (given : List Bool) (h : List (BankEvent n)) (bank : BankState n m e) (array : ArrayState n m)
    → Holds h bank array → bank.rows_below ≤ row → MayHappen bank.kept.shape h (most_steps e) (Write row line bytes given wrote.Accepted)
    → Holds (Write row line bytes given wrote.Accepted ∷ h) (taken (is_storing bank.running) (record { row = row; line = line; bytes = bytes; given = given }) bank) array

-- and so does one that is merged
abbrev pub MergedWriteLaw : Type 0
MergedWriteLaw =
    (n m e row line old : ℕ) (bytes : List ℕ) (given : List Bool) (h : List (BankEvent n)) (bank : BankState n m e) (array : ArrayState n m)
    → Holds h bank array → bank.rows_below ≤ row → MayHappen bank.kept.shape h (most_steps e) (Write row line bytes given (wrote.Merged old))
    → Holds (Write row line bytes given (wrote.Merged old) ∷ h) (taken (is_storing bank.running) (record { row = row; line = line; bytes = bytes; given = given }) bank) array

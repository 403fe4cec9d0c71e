-- That what a bank keeps is what its history says it keeps.
use Rattle.std.specs.Prelude.{◌≡◌, ℕ, ◌*◌, ◌<◌, List}
use Rattle.cell_rows.specs.Device.{ArrayState}
use Rattle.power_recovery.specs.Kept.{slot_of, array_line, stands_at, due_region, next_work}
use Rattle.bank_model.specs.{After.{slot_after, array_line_after, stands_at_after, work_after, target_after, may_begin_after}, Answers.head_busy_after, Events.BankEvent}
use Rattle.bank_model.specs.History.{due_after}
use Rattle.bank_invariant.specs.{Holds.Holds, State.{BankState, target_of, may_begin, is_storing}}

-- what follows from the state of a bank is what follows from this history
pub record AgreesWith {n m e : ℕ} (h : List (BankEvent n)) (bank : BankState n m e) : Type 0 where
  -- each line has the slot that the moves of its region give it
  pub slots : (line : ℕ) → line < bank.kept.shape.regions * bank.kept.shape.lines → slot_of bank.kept line ≡ slot_after bank.kept.shape h line
  -- each slot has the array line that the retirements give it
  pub lines : (slot : ℕ) → array_line bank.kept slot ≡ array_line_after bank.kept.shape h slot
  -- so each line stands where the history puts it
  pub stands : (line : ℕ) → line < bank.kept.shape.regions * bank.kept.shape.lines → stands_at bank.kept line ≡ stands_at_after bank.kept.shape h line
  -- a region's counter is at psi exactly where the history makes its move due
  pub due : due_region bank.kept ≡ due_after bank.kept.shape h
  -- the next work is that of the history
  pub work : next_work bank.kept ≡ work_after bank.kept.shape h
  -- and so is the array line that it writes
  pub target : target_of bank.kept (next_work bank.kept) ≡ target_after bank.kept.shape h
  -- a store is in progress exactly where the history has one
  pub storing : is_storing bank.running ≡ head_busy_after bank.kept.shape h
  -- a line write may be begun exactly where the history lets one begin
  pub ready : may_begin bank ≡ may_begin_after bank.kept.shape h

-- a bank to which a history leads agrees with it
abbrev pub AgreeLaw : Type 0
AgreeLaw =
    (n m e : ℕ) (h : List (BankEvent n)) (bank : BankState n m e) (array : ArrayState n m)
    → Holds h bank array → AgreesWith h bank

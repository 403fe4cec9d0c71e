-- How a store ends, by an iteration or as it is begun, and that the invariant is kept.
use Rattle.std.specs.Prelude.{◌≡◌, ℕ, List, ◌∷◌, Some, None, IsTrue, slice_get}
use Rattle.masked_bytes.specs.{Entries.head_row, Masked.laid, declared.entry.Entry.Entry}
use Rattle.cell_rows.specs.Device.{ArrayState}
use Rattle.bank_shape.specs.declared.Work.TheVariants.{Store}
use Rattle.bank_shape.specs.declared.answer.Step.TheVariants as did
use Rattle.power_recovery.specs.{Events.{completed_kept, stored_kept}, Kept.{KeptState, array_line, next_work}}
use Rattle.bank_model.specs.Events.{BankEvent, Begin, Iterate}
use Rattle.bank_invariant.specs.{Holds.Holds, State.{BankState, Operation, may_begin}, Tearing.DiffersAt, Tied.StandsAs}
use Rattle.ecp_line.specs.ArrayLines.{decoded}

module _ {n m e : ℕ} where
  -- the bank with no line write in progress that keeps this
  abbrev pub resting : KeptState n → BankState n m e → BankState n m e
  resting kept bank = record { kept = kept; running = None; waiting = bank.waiting; lost = bank.lost; rows_below = bank.rows_below }

-- an iteration after which the line of a store reads as its bytes keeps the invariant: the head is gone, and its region counts
-- one write more. That the line then reads so, that it is sound, and that the other lines are as they were, is what the line
-- writer ensures
abbrev pub StoredLaw : Type 0
StoredLaw =
    (n m e line slot : ℕ) (h : List (BankEvent n)) (bank : BankState n m e) (old new : ArrayState n m) (op : Operation n m e)
    → Holds h bank old → bank.running ≡ Some op → op.work ≡ Store line slot → DiffersAt e op.target old new
    → decoded e new op.target ≡ op.writer.bytes
    → Holds (Iterate (did.Stored (head_row bank.kept.entries) op.target) ∷ h) (resting (stored_kept bank.kept) bank) new

-- so does a begin of a store whose line reads already as the head does, once that was completed from it. The array stands as it was
abbrev pub BegunStoredLaw : Type 0
BegunStoredLaw =
    (n m e line slot : ℕ) (h : List (BankEvent n)) (bank : BankState n m e) (old new : ArrayState n m) (head : Entry n)
    → Holds h bank old → IsTrue (may_begin bank) → next_work bank.kept ≡ Store line slot → slice_get bank.kept.entries 0 ≡ Some head
    → StandsAs old new
    → let under = decoded e old (array_line bank.kept slot) in
    laid head.bytes head.given under ≡ under
    → Holds (Begin (did.Stored (head_row bank.kept.entries) (array_line bank.kept slot)) ∷ h) (resting (stored_kept (completed_kept under bank.kept)) bank) new

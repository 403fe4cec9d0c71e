-- How a line write begins, and that the invariant is kept.
use Rattle.std.specs.Prelude.{◌≡◌, ℕ, ◌≤◌, List, [], ◌∷◌, ◌++◌, Some, IsTrue, IsSomeAnd, slice_get}
use Rattle.masked_bytes.specs.Masked.{laid}
use Rattle.cell_rows.specs.Device.{ArrayState}
use Rattle.start_gap.specs.declared.Move.{Move}
use Rattle.bank_shape.specs.{Shape.slot_at, declared.Work.Work, declared.Work.TheVariants.{Nothing, Store, Copy}}
use Rattle.bank_shape.specs.declared.answer.Step.TheVariants as did
use Rattle.line_writer.specs.Writing.{steps_left, most_steps}
use Rattle.power_recovery.specs.{Events.completed_kept, Kept.{KeptState, array_line, next_work}}
use Rattle.bank_model.specs.Events.{BankEvent, Begin}
use Rattle.bank_invariant.specs.{Holds.Holds, State.{BankState, Operation, may_begin, target_of}, Tied.{StandsAs, IsUnderWay}}
use Rattle.ecp_line.specs.ArrayLines.{decoded}

module _ {n : ℕ} where
  -- the array line that a work copies
  abbrev pub sources : KeptState n → Work → List ℕ
  sources kept Nothing = []
  sources kept (Store line slot) = []
  sources kept (Copy region step) = array_line kept (slot_at kept.shape region step.from) ∷ []

  -- the array lines that the begin of a work senses, in this order: a copy's source, and the target
  abbrev pub lines_sensed : KeptState n → Work → List ℕ
  lines_sensed kept work = sources kept work ++ target_of kept work ∷ []

module _ {n m e : ℕ} where
  -- the bank that keeps this, with this line write in progress
  abbrev pub begun_with : KeptState n → Operation n m e → BankState n m e → BankState n m e
  begun_with kept op bank = record { kept = kept; running = Some op; waiting = bank.waiting; lost = bank.lost; rows_below = bank.rows_below }

-- a begin of a store that goes on keeps the invariant: the head is completed from what its line is read as, and those bytes are
-- written. The array stands as it was; that a step is left, and not too many, is what the line writer ensures
abbrev pub BegunStoreLaw : Type 0
BegunStoreLaw =
    (n m e line slot : ℕ) (h : List (BankEvent n)) (bank : BankState n m e) (old new : ArrayState n m) (op : Operation n m e)
    → Holds h bank old → IsTrue (may_begin bank) → next_work bank.kept ≡ Store line slot
    → StandsAs old new
    → op.work ≡ Store line slot → op.target ≡ array_line bank.kept slot
    → let under = decoded e old (array_line bank.kept slot) in
    IsSomeAnd (slice_get bank.kept.entries 0) (λ head. op.writer.bytes ≡ laid head.bytes head.given under)
    → IsUnderWay op.writer (new.line op.target) → steps_left op.writer ≤ most_steps e
    → Holds (Begin did.More ∷ h) (begun_with (completed_kept under bank.kept) op bank) new

-- so does a begin of a copy that goes on, which writes what the line below the gap is read as
abbrev pub BegunCopyLaw : Type 0
BegunCopyLaw =
    (n m e region : ℕ) (step : Move) (h : List (BankEvent n)) (bank : BankState n m e) (old new : ArrayState n m) (op : Operation n m e)
    → Holds h bank old → IsTrue (may_begin bank) → next_work bank.kept ≡ Copy region step
    → StandsAs old new
    → op.work ≡ Copy region step → op.target ≡ target_of bank.kept op.work
    → op.writer.bytes ≡ decoded e old (array_line bank.kept (slot_at bank.kept.shape region step.from))
    → IsUnderWay op.writer (new.line op.target) → steps_left op.writer ≤ most_steps e
    → Holds (Begin did.More ∷ h) (begun_with bank.kept op bank) new

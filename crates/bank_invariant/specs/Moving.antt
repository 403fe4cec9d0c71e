-- The laws of a gap move that ends: by an iteration, or at once as it begins.
use Rattle.std.specs.Prelude.{◌≡◌, ℕ, List, ◌∷◌, Some, None}
use Rattle.cell_rows.specs.Device.{ArrayState}
use Rattle.start_gap.specs.declared.Move.{Move}
use Rattle.bank_shape.specs.{Shape.slot_at, declared.Work.TheVariants.Copy}
use Rattle.bank_shape.specs.declared.answer.Step.TheVariants as did
use Rattle.power_recovery.specs.{Events.moved_kept, Kept.{array_line, next_work}}
use Rattle.bank_model.specs.Events.{BankEvent, Begin, Iterate}
use Rattle.bank_invariant.specs.{Holds.Holds, State.{BankState, Operation, target_of}, Tearing.DiffersAt, Tied.StandsAs}
use Rattle.ecp_line.specs.ArrayLines.{decoded}

-- the bank after the gap move that was due: nothing is in progress
abbrev pub moved : {n m e : ℕ} → BankState n m e → BankState n m e
moved bank = record { kept = moved_kept bank.kept; running = None; waiting = bank.waiting; lost = bank.lost; rows_below = bank.rows_below }

-- an iteration that ends a gap move keeps the invariant; that the last step leaves its line sound, read as the line that was
-- copied, and the other lines as they were, is what the line writer ensures
abbrev pub MovedLaw : Type 0
MovedLaw =
    (n m e region : ℕ) (step : Move) (h : List (BankEvent n)) (bank : BankState n m e) (old new : ArrayState n m) (op : Operation n m e)
    → Holds h bank old → bank.running ≡ Some op → next_work bank.kept ≡ Copy region step → DiffersAt e op.target old new
    → decoded e new op.target ≡ decoded e old (array_line bank.kept (slot_at bank.kept.shape region step.from))
    → Holds (Iterate (did.Moved step) ∷ h) (moved bank) new

-- and so does a gap move that ends as it begins, since the line of the gap is read so already: no line is pulsed
abbrev pub MovedAtOnceLaw : Type 0
MovedAtOnceLaw =
    (n m e region : ℕ) (step : Move) (h : List (BankEvent n)) (bank : BankState n m e) (old new : ArrayState n m)
    → Holds h bank old → bank.running ≡ None → next_work bank.kept ≡ Copy region step
    → StandsAs old new
    → decoded e new (target_of bank.kept (Copy region step)) ≡ decoded e old (array_line bank.kept (slot_at bank.kept.shape region step.from))
    → Holds (Begin (did.Moved step) ∷ h) (moved bank) new

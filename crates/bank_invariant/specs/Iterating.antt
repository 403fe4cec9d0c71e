-- The law of an iteration that goes on.
use Rattle.std.specs.Prelude.{◌≡◌, ℕ, ◌<◌, List, ◌∷◌, Some}
use Rattle.cell_rows.specs.Device.{ArrayState}
use Rattle.line_writer.specs.Writing.{steps_left}
use Rattle.bank_shape.specs.declared.answer.Step.TheVariants as did
use Rattle.bank_model.specs.Events.{BankEvent, Iterate}
use Rattle.bank_invariant.specs.{Holds.Holds, State.{BankState, Operation}, Tearing.DiffersAt, Tied.IsUnderWay}

module _ {n m e : ℕ} where
  -- the bank with this line write in progress
  abbrev pub going_on : BankState n m e → Operation n m e → BankState n m e
  going_on bank op = record { kept = bank.kept; running = Some op; waiting = bank.waiting; lost = bank.lost; rows_below = bank.rows_below }

  -- a line write is another, some steps later
  pub record IsLater (new old : Operation n m e) : Type 0 where
    pub work : new.work ≡ old.work
    pub target : new.target ≡ old.target
    pub bytes : new.writer.bytes ≡ old.writer.bytes
    pub fewer : steps_left new.writer < steps_left old.writer

-- an iteration after which the line write in progress goes on keeps the invariant; that a step leaves its line sound, the
-- other lines as they were, and fewer steps, is what the line writer ensures
abbrev pub IteratedLaw : Type 0
IteratedLaw =
    (n m e : ℕ) (h : List (BankEvent n)) (bank : BankState n m e) (old new : ArrayState n m) (op after : Operation n m e)
    → Holds h bank old → bank.running ≡ Some op → DiffersAt e op.target old new
    → IsLater after op → IsUnderWay after.writer (new.line op.target) → Holds (Iterate did.More ∷ h) (going_on bank after) new

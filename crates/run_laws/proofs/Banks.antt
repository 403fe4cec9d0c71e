-- What one bank of a finished run leaves.
use Rattle.std.proofs.Common.{◌≡◌, ℕ, Bool, List, refl, sym, subst}
use Rattle.cell_rows.specs.Device.{ArrayState}
use Rattle.bank_shape.specs.{declared.BankShape.BankShape, declared.pace.Pace.Pace}
use Rattle.bank_model.specs.{Lawful.Lawful, Timing.{TimedEvent, core}}
use Rattle.bank_laws.specs.{Laws.{IsSized, LeavesArray}, Outcomes.table_of, Resting.EndsIn}
use Rattle.ecp_line.specs.ArrayLines.{is_worn_at, decoded}
use Rattle.clock_laws.specs.{Ending.LeavingLaw, Leads.Leads, State.ClockState}
use Rattle.end_laws.specs.EndLaws.{IsHaltedWorn, IsEndOf, RemappedLaw, GapsLaw, KeptLaw, QueueLaw, StillThereLaw, end_of}
use Rattle.right_runs.specs.Ends.{EndsWithTo}

module _ {n m e : ℕ} (xs : List (TimedEvent n m)) (clock : ClockState n m e) (array : ArrayState n m) (leads : Leads xs clock array) where
  -- the end of a bank is that of what it keeps
  pub is_end : IsEndOf clock.bank.kept (end_of clock.bank.kept (core xs))
  is_end = record {
    table = λ slot exists. refl;
    moves = λ region exists. (leads.holds.regions region exists).registers;
    queue = refl;
  }

  module _ (shape : BankShape) (pace : Pace) (same : clock.bank.kept.shape ≡ shape) (paced : clock.pace ≡ pace) where
    -- its history is lawful by its shape and pacing
    pub is_lawful : Lawful shape pace e xs
    is_lawful =
        subst (λ (s : BankShape). Lawful s pace e xs) same
        (subst (λ (p : Pace). Lawful clock.bank.kept.shape p e xs) paced leads.lawful)

    pub leaves : LeavingLaw → LeavesArray e shape xs array
    leaves law = subst (λ (s : BankShape). LeavesArray e s xs array) same (law n m e xs clock array leads)

    pub ends_right : LeavingLaw → RemappedLaw → GapsLaw → KeptLaw → QueueLaw → StillThereLaw → IsSized shape pace → (off : Bool) → EndsIn off shape pace xs
        → EndsWithTo off shape (is_worn_at e array) (decoded e array) (table_of shape xs) (end_of clock.bank.kept (core xs))
    ends_right leaving remapped gaps kept queue still sized off idle =
        subst (λ (s : BankShape). EndsWithTo off s (is_worn_at e array) (decoded e array) (table_of s xs) (end_of clock.bank.kept (core xs))) same
        (record {
          lines = remapped n m e (core xs) clock.bank array leads.holds;
          moved = λ region exists. gaps off n m e pace xs clock.bank array region sized' lawful' idle' leads.holds halted;
          queue = queue off n m e pace xs clock.bank array sized' lawful' idle' leads.holds halted;
          kept = λ line exists. kept n m e pace xs clock.bank array line lawful' leads.holds exists;
          stored = still n m e pace xs clock.bank array sized' lawful' leads.holds halted;
        })
      where
        sized' : IsSized clock.bank.kept.shape pace
        sized' = subst (λ (s : BankShape). IsSized s pace) (sym same) sized

        lawful' : Lawful clock.bank.kept.shape pace e xs
        lawful' = subst (λ (p : Pace). Lawful clock.bank.kept.shape p e xs) paced leads.lawful

        -- where the writing of a change has halted, its control line is worn
        halted : IsHaltedWorn e clock.bank.kept.shape xs array
        halted = (leaving n m e xs clock array leads).halted

        idle' : EndsIn off clock.bank.kept.shape pace xs
        idle' = subst (λ (s : BankShape). EndsIn off s pace xs) (sym same) idle

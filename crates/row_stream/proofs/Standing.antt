-- What a snapshot finds: ends of the banks as they stand.
use Rattle.std.proofs.Common.{ℕ, List, Option, Some, None, refl}
use Rattle.std.specs.Prelude.{IsSomeAnd, slice_get, unwrap_or}
use Rattle.cell_rows.specs.Device.{ArrayState}
use Rattle.result_rows.specs.declared.Outcome.{Outcome}
use Rattle.bank_model.specs.Timing.{TimedEvent, core}
use Rattle.clock_laws.specs.State.{ClockState}
use Rattle.module_laws.specs.Asking.{Asked}
use Rattle.end_laws.specs.EndLaws.{IsEndOf, end_of}
use Rattle.right_runs.specs.Ends.{BankEnd}
use Rattle.pcm_module.specs.{Replaying.{Replays, ReplaysIn}, State.{AreEndsOf, ModuleState, bank_at, first_bank}}

module _ {n m e : ℕ} (h : ℕ → List (TimedEvent n m)) (asked : List (Asked n)) (module_ : ModuleState n m e) (array : ArrayState n m) (results : List (Outcome n))
    (had : Replays h asked module_ array results) where
  -- an end of what a bank keeps, by its history
  abbrev end_in : ℕ → ClockState n m e → BankEnd
  end_in bank clock = end_of clock.bank.kept (core (h bank))

  end-there : (bank : ℕ) (o : Option (ClockState n m e)) (other : ClockState n m e) → IsSomeAnd o (ReplaysIn module_ bank (h bank) asked array results)
      → IsSomeAnd o (λ clock. IsEndOf clock.bank.kept (end_in bank (unwrap_or o other)))
  end-there bank None other is = is
  end-there bank (Some clock) other is = record {
    table = λ slot exists. refl;
    moves = λ region exists. (is.leads.holds.regions region exists).registers;
    queue = refl;
  }

  -- the banks of a module that was led to have ends
  pub ends-now : (ends : ℕ → BankEnd) × AreEndsOf module_ ends
  ends-now = (λ bank. end_in bank (bank_at module_ bank), λ bank exists. end-there bank (slice_get module_.banks bank) (first_bank module_.shape bank) (had.banks bank exists))

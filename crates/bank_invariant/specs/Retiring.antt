-- The laws of an iteration that finds its line worn.
use Rattle.std.specs.Prelude.{◌≡◌, ℕ, ◌<◌, List, ◌∷◌, None, Some}
use Rattle.cell_rows.specs.Device.{ArrayState}
use Rattle.spare_pool.specs.Table.{used_by}
use Rattle.line_writer.specs.Writing.{most_steps}
use Rattle.power_recovery.specs.{Events.{retired_kept, exhausted_kept}, Kept.{KeptState, target_slot}}
use Rattle.bank_shape.specs.declared.answer.Step.TheVariants as did
use Rattle.bank_model.specs.{Answers.MayHappen, Events.{BankEvent, Iterate}}
use Rattle.ecp_line.specs.Reading.{IsWornLine}
use Rattle.bank_invariant.specs.{Holds.Holds, State.{BankState, Operation}, Tearing.DiffersAt}

module _ {n m e : ℕ} where
  -- the bank once its line write has ended, with what it keeps then
  abbrev pub ended : BankState n m e → KeptState n → BankState n m e
  ended bank kept = record { kept = kept; running = None; waiting = bank.waiting; lost = bank.lost; rows_below = bank.rows_below }

-- an iteration that finds its line worn while every spare is used keeps the invariant, for the bank with the mark of that;
-- that a step leaves its line sound, and worn where it says so, is what the line writer ensures
abbrev pub ExhaustedLaw : Type 0
ExhaustedLaw =
    (n m e : ℕ) (h : List (BankEvent n)) (bank : BankState n m e) (old new : ArrayState n m) (op : Operation n m e)
    → Holds h bank old → bank.running ≡ Some op → DiffersAt e op.target old new → IsWornLine e (new.line op.target)
    → used_by bank.kept.table ≡ bank.kept.table.spares
    → Holds (Iterate did.Exhausted ∷ h) (ended bank (exhausted_kept bank.kept)) new

-- one that finds its line worn while a spare is left keeps it too, for the bank in which its slot has that spare;
-- that the answer may be given is another law's to say: the slot of the next work by the registers is that by the history
abbrev pub RetiredLaw : Type 0
RetiredLaw =
    (n m e line : ℕ) (h : List (BankEvent n)) (bank : BankState n m e) (old new : ArrayState n m) (op : Operation n m e)
    → Holds h bank old → bank.running ≡ Some op → DiffersAt e op.target old new → IsWornLine e (new.line op.target)
    → used_by bank.kept.table < bank.kept.table.spares
    → MayHappen bank.kept.shape h (most_steps e) (Iterate (did.Retired (target_slot bank.kept op.work) line))
    → Holds (Iterate (did.Retired (target_slot bank.kept op.work) line) ∷ h) (ended bank (retired_kept (target_slot bank.kept op.work) bank.kept)) new

-- What a step or a tear of the line write in progress does to the array, and the law of a cut that tears one.
use Rattle.std.specs.Prelude.{◌≡◌, ◌≢◌, ℕ, true, List, ◌∷◌, Some}
use Rattle.cell_rows.specs.Device.{ArrayState}
use Rattle.line_writer.specs.Orderly.{IsOrderly}
use Rattle.ecp_line.specs.{Reading.IsSoundLine, Untouched.HasUntouched}
use Rattle.bank_model.specs.Events.{BankEvent, Cut}
use Rattle.bank_invariant.specs.{Holds.Holds, State.{BankState, Operation}, Steps.cut_off}

-- an array differs from an older one at most at this line, which is sound, whose stuck cells are stuck still, which is orderly if it was,
-- and whose unused check cells stay untouched; its cells keep to the same bounds
pub record DiffersAt {n m : ℕ} (e target : ℕ) (old new : ArrayState n m) : Type 0 where
  pub others : (line : ℕ) → line ≢ target → new.line line ≡ old.line line
  pub lines : new.lines ≡ old.lines
  pub bounds : new.bounds ≡ old.bounds
  pub sound : IsSoundLine e (new.line target)
  pub stuck : (number : ℕ) → (old.line target).stuck number ≡ true → (new.line target).stuck number ≡ true
  pub unused : HasUntouched e (old.line target) → HasUntouched e (new.line target)
  pub orderly : IsOrderly old.bounds.misses (old.line target) → IsOrderly new.bounds.misses (new.line target)

-- a cut that tears the line write in progress keeps the invariant, for the bank that it leaves; that a tear leaves its line
-- sound, and the other lines as they were, is what the line writer ensures
abbrev pub TornLaw : Type 0
TornLaw =
    (n m e : ℕ) (h : List (BankEvent n)) (bank : BankState n m e) (old new : ArrayState n m) (op : Operation n m e)
    → Holds h bank old → bank.running ≡ Some op → DiffersAt e op.target old new → Holds (Cut true ∷ h) (cut_off bank) new

-- How events lead from one bank to the next, and that the invariant is kept.
use Rattle.std.specs.Prelude.{ℕ, ◌+◌, ◌≤◌, false, List, [], ◌∷◌, map, None}
use Rattle.cell_rows.specs.Device.{ArrayState}
use Rattle.line_writer.specs.Writing.{most_steps}
use Rattle.bank_shape.specs.declared.answer.ReadAnswer.TheVariants as came
use Rattle.bank_model.specs.{Answers.MayHappen, Events.{BankEvent, Read, Cut}}
use Rattle.bank_invariant.specs.{Holds.Holds, State.BankState}

module _ {n m e : ℕ} where
  -- the bank after a read that was answered at once: only the bound above its rows has risen
  abbrev pub answered : BankState n m e → ℕ → BankState n m e
  answered bank row = record { kept = bank.kept; running = bank.running; waiting = bank.waiting; lost = bank.lost; rows_below = row + 1 }

  -- the bank after a cut: what it keeps is as before, nothing is in progress, and each read that waited is lost
  abbrev pub cut_off : BankState n m e → BankState n m e
  cut_off bank = record { kept = bank.kept; running = None; waiting = []; lost = map (λ w. w.row) bank.waiting; rows_below = bank.rows_below }

-- a read that is forwarded keeps the invariant
abbrev pub ForwardedLaw : Type 0
ForwardedLaw =
    (n m e row line : ℕ) (bytes : List ℕ) (h : List (BankEvent n)) (bank : BankState n m e) (array : ArrayState n m)
    → Holds h bank array → bank.rows_below ≤ row → MayHappen bank.kept.shape h (most_steps e) (Read row line (came.Forwarded bytes))
    → Holds (Read row line (came.Forwarded bytes) ∷ h) (answered bank row) array

-- so does one that is refused since as many wait as may
abbrev pub BusyLaw : Type 0
BusyLaw =
    (n m e row line : ℕ) (h : List (BankEvent n)) (bank : BankState n m e) (array : ArrayState n m)
    → Holds h bank array → bank.rows_below ≤ row → MayHappen bank.kept.shape h (most_steps e) (Read row line came.Busy)
    → Holds (Read row line came.Busy ∷ h) (answered bank row) array

-- and a cut that tears nothing
abbrev pub CutLaw : Type 0
CutLaw =
    (n m e : ℕ) (h : List (BankEvent n)) (bank : BankState n m e) (array : ArrayState n m)
    → Holds h bank array → Holds (Cut false ∷ h) (cut_off bank) array

-- How many line writes an array line takes, by the events of its bank.
use Rattle.std.specs.Prelude.{ℕ, ◌+◌, ◌==◌, ◌&&◌, not, Bool, false, if◌then◌else◌, List, [], ◌∷◌}
use Rattle.bank_shape.specs.{declared.BankShape.BankShape, declared.answer.Step.Step}
use Rattle.bank_model.specs.{After.target_after, Changes.{change_after, keeping_after, keeps_on, rounds_after, line_of_change}, Events.{BankEvent, Begin, Iterate, Cut}}
use Rattle.bank_model.specs.{History.{goes_on, in_progress, iterated}, Sensing.is_at, Timing.{Happens, Core, Regs, KeepBegin, KeepIterate, KeepCut, TimedEvent}}

module _ {n : ℕ} where
  -- how many answers of begins and iterations pass a test, and how many cuts one, each after the events before it
  abbrev pub tally : (List (BankEvent n) → Step → Bool) → (List (BankEvent n) → Bool) → List (BankEvent n) → ℕ
  tally answers cuts [] = 0
  tally answers cuts (Begin answer ∷ h) = (if answers h answer then 1 else 0) + tally answers cuts h
  tally answers cuts (Iterate answer ∷ h) = (if answers h answer then 1 else 0) + tally answers cuts h
  tally answers cuts (Cut tearing ∷ h) = (if cuts h then 1 else 0) + tally answers cuts h
  tally answers cuts (_ ∷ h) = tally answers cuts h

  -- how many line writes of an array line have ended: done, given up, or broken off, by a cut or by a read that cancelled
  abbrev pub works_on : BankShape → ℕ → List (BankEvent n) → ℕ
  works_on shape at h =
      tally (λ h answer. not (goes_on answer) && target_after shape h == at) (λ h. in_progress h && target_after shape h == at) h

  -- how many iterations the line write in progress has had, if it is one of this array line
  abbrev pub held_on : BankShape → ℕ → List (BankEvent n) → ℕ
  held_on shape at h = if in_progress h && target_after shape h == at then iterated h else 0

-- whether an event ends the line write of the change that stands, which may be in progress: done, at a worn line, or broken off, by a cut
-- or by a read that cancelled
abbrev pub ends_keeping : {n : ℕ} → Happens n → Bool → Bool
ends_keeping (Regs (KeepBegin answer)) keeping = not (keeps_on answer)
ends_keeping (Regs (KeepIterate answer)) keeping = not (keeps_on answer)
ends_keeping (Regs (KeepCut tearing)) keeping = keeping
ends_keeping (Core (Cut tearing)) keeping = keeping
ends_keeping happens keeping = false

module _ {n m : ℕ} (shape : BankShape) (at : ℕ) where
  -- the change that stands is written to this array line
  abbrev pub is_written : List (TimedEvent n m) → Bool
  is_written xs = is_at (line_of_change shape (change_after shape xs)) at

  -- how many line writes of a control line have ended
  abbrev pub written_on : List (TimedEvent n m) → ℕ
  written_on [] = 0
  written_on (x ∷ xs) = (if ends_keeping x.happens (keeping_after xs) && is_written xs then 1 else 0) + written_on xs

  -- how many iterations the one in progress has had, if it is one of this control line
  abbrev pub rounds_on : List (TimedEvent n m) → ℕ
  rounds_on xs = if keeping_after xs && is_written xs then rounds_after xs else 0

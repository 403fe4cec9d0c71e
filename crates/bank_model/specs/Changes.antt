-- The change that stands after a timed history, and how far its writing has come.
use Rattle.std.specs.Prelude.{ℕ, zero, suc, ◌+◌, ◌/◌, Bool, true, false, List, [], ◌∷◌, length, Option, Some, None}
use Rattle.bank_shape.specs.{Shape.{controls_from, controls_of, control_line}, declared.BankShape.BankShape, declared.Home.Home, declared.answer.Keep.Keep}
use Rattle.bank_shape.specs.declared.answer.Step.{Step}
use Rattle.bank_shape.specs.declared.Home.TheVariants as home
use Rattle.bank_shape.specs.declared.answer.Step.TheVariants as did
use Rattle.bank_shape.specs.declared.answer.Keep.TheVariants as keep
use Rattle.bank_model.specs.{Events.{BankEvent, Begin, Iterate, Cut, line_of_row}, History.{stores, retired, first_or}}
use Rattle.bank_model.specs.Timing.{Happens, Core, Regs, KeepBegin, KeepIterate, KeepCut, TimedEvent, core}

-- an item of a bank whose registers are kept in the array
abbrev pub item_if : Home → ℕ → Option ℕ
item_if home.Guarded item = None
item_if home.Array item = Some item

-- the item that a step of a bank's line write changes: the region that it is of, the spare that was given, or the mark
abbrev pub changed_by : {n : ℕ} → BankShape → List (BankEvent n) → Step → Option ℕ → Option ℕ
changed_by shape h did.More old = old
changed_by shape h (did.Stored row place) old = item_if shape.home (line_of_row row h / shape.lines)
changed_by shape h (did.Moved step) old = item_if shape.home (first_or 0 (stores h) / shape.lines)
changed_by shape h (did.Retired slot line) old = item_if shape.home (shape.regions + length (retired h))
changed_by shape h did.Exhausted old = item_if shape.home (shape.regions + shape.spares)

-- a step of its writing takes a change away once it is written
abbrev pub written_by : Keep → Option ℕ → Option ℕ
written_by keep.More old = old
written_by keep.Done old = None
written_by keep.Halted old = old

-- whether its writing goes on
abbrev pub keeps_on : Keep → Bool
keeps_on keep.More = true
keeps_on keep.Done = false
keeps_on keep.Halted = false

abbrev pub change_by : {n : ℕ} → BankShape → List (BankEvent n) → Happens n → Option ℕ → Option ℕ
change_by shape h (Core (Begin answer)) old = changed_by shape h answer old
change_by shape h (Core (Iterate answer)) old = changed_by shape h answer old
change_by shape h (Regs (KeepBegin answer)) old = written_by answer old
change_by shape h (Regs (KeepIterate answer)) old = written_by answer old
change_by shape h happens old = old

abbrev pub keeping_by : {n : ℕ} → Happens n → Bool → Bool
keeping_by (Regs (KeepBegin answer)) old = keeps_on answer
keeping_by (Regs (KeepIterate answer)) old = keeps_on answer
keeping_by (Regs (KeepCut tearing)) old = false
keeping_by (Core (Begin answer)) old = false
keeping_by (Core (Iterate answer)) old = false
keeping_by (Core (Cut tearing)) old = false
keeping_by happens old = old

abbrev pub rounds_by : {n : ℕ} → Happens n → ℕ → ℕ
rounds_by (Regs (KeepBegin answer)) old = 0
rounds_by (Regs (KeepIterate answer)) old = old + 1
rounds_by (Regs (KeepCut tearing)) old = 0
rounds_by (Core (Begin answer)) old = 0
rounds_by (Core (Iterate answer)) old = 0
rounds_by (Core (Cut tearing)) old = 0
rounds_by happens old = old

abbrev pub halted_by : {n : ℕ} → Happens n → Bool → Bool
halted_by (Regs (KeepIterate keep.Halted)) old = true
halted_by happens old = old

-- the item of the change that stands, if one does
abbrev pub change_after : {n m : ℕ} → BankShape → List (TimedEvent n m) → Option ℕ
change_after shape [] = None
change_after shape (x ∷ xs) = change_by shape (core xs) x.happens (change_after shape xs)

module _ {n m : ℕ} where
  -- whether it is being written, how often that was iterated, and whether its writing has ended at a worn control line
  abbrev pub keeping_after : List (TimedEvent n m) → Bool
  keeping_after [] = false
  keeping_after (x ∷ xs) = keeping_by x.happens (keeping_after xs)

  abbrev pub rounds_after : List (TimedEvent n m) → ℕ
  rounds_after [] = 0
  rounds_after (x ∷ xs) = rounds_by x.happens (rounds_after xs)

  abbrev pub halted_after : List (TimedEvent n m) → Bool
  halted_after [] = false
  halted_after (x ∷ xs) = halted_by x.happens (halted_after xs)

-- the control line of a change, if one stands
abbrev pub line_of_change : BankShape → Option ℕ → Option ℕ
line_of_change shape None = None
line_of_change shape (Some item) = Some (control_line shape item)

-- so many numbers from one on; and so all control lines of a bank, by their items
abbrev pub numbers_from : ℕ → ℕ → List ℕ
numbers_from from zero = []
numbers_from from (suc count) = from ∷ numbers_from (from + 1) count

abbrev pub all_controls : BankShape → List ℕ
all_controls shape = numbers_from (controls_from shape) (controls_of shape)

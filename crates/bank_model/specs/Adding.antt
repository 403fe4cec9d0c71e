-- What the events of a call do to an array, besides its cells.
use Rattle.std.specs.Prelude.{◌≡◌, ◌⊎◌, ℕ, ◌+◌, ◌<◌, ◌≤◌, if◌then◌else◌, List, [], ◌∷◌, ◌++◌, Option, Some}
use Rattle.cell_rows.specs.{Device.{ArrayState, counted}, declared.array.Sense.Sense}
use Rattle.bank_shape.specs.{Shape.lines_in, declared.BankShape.BankShape}
use Rattle.bank_model.specs.{Events.Cut, Sensing.is_at, Timing.{Happens, Core, Regs, KeepCut, TimedEvent}}

-- the senses, the oldest first
abbrev pub senses_of : {n m : ℕ} → List (TimedEvent n m) → List (Sense n m)
senses_of [] = []
senses_of (x ∷ xs) = senses_of xs ++ x.senses

-- how often a line was pulsed or torn, and an array torn, counted on from a number
abbrev pub pulses_on : {n m : ℕ} → List (TimedEvent n m) → ℕ → ℕ → ℕ
pulses_on [] line count = count
pulses_on (x ∷ xs) line count = if is_at x.pulsed line then counted (pulses_on xs line count) else pulses_on xs line count

-- an event tears where it is a cut that pulsed a line, which is then torn
abbrev pub torn_by : {n : ℕ} → Happens n → Option ℕ → ℕ → ℕ
torn_by (Core (Cut tearing)) (Some line) count = counted count
torn_by (Regs (KeepCut tearing)) (Some line) count = counted count
torn_by happens pulsed count = count

abbrev pub tears_on : {n m : ℕ} → List (TimedEvent n m) → ℕ → ℕ
tears_on [] count = count
tears_on (x ∷ xs) count = torn_by x.happens x.pulsed (tears_on xs count)

-- the events of a call, the newest first, over the array before and after it
pub record Adds {n m : ℕ} (shape : BankShape) (added : List (TimedEvent n m)) (old new : ArrayState n m) : Type 0 where
  pub lines : new.lines ≡ old.lines
  pub others : (line : ℕ) → ((line < shape.base) ⊎ (shape.base + lines_in shape ≤ line)) → new.line line ≡ old.line line
  pub pulses : (line : ℕ) → (new.line line).pulses ≡ pulses_on added line (old.line line).pulses
  pub tears : new.tears ≡ tears_on added old.tears
  pub log : (after : List (Sense n m)) → new.log ≡ Some after
      → (before : List (Sense n m)) × (old.log ≡ Some before) × (after ≡ before ++ senses_of added)
  pub wear : new.wear ≡ old.wear
  pub bounds : new.bounds ≡ old.bounds

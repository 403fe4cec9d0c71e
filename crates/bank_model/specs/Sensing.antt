-- Which array lines an event senses and pulses, and what the cells that it sensed are read as.
use Rattle.std.specs.Prelude.{◌≡◌, ℕ, ◌==◌, Bool, true, false, if◌then◌else◌, List, [], ◌∷◌, ◌++◌, Option, Some, None, IsSomeAnd}
use Rattle.cell_rows.specs.{Device.counted, declared.array.Sense.Sense, declared.row.Cells.Cells}
use Rattle.ecp_line.specs.Reading.{decode}
pub use Rattle.ecp_line.specs.Steps.{most_steps}
use Rattle.masked_bytes.specs.Masked.{laid}
use Rattle.bank_shape.specs.{declared.BankShape.BankShape, declared.clock.Action.Action, declared.clock.Doing.TheVariants.Iterating}
use Rattle.bank_shape.specs.declared.answer.Step.TheVariants as did
use Rattle.bank_model.specs.{After.{work_after, target_after, sources_of, stands_at_after}, Changes.{line_of_change, all_controls}}
use Rattle.bank_model.specs.{Events.{BankEvent, Serve, Begin, Iterate, Cut, newest, up_to, line_of_row}, History.{Awaited, waits}}
use Rattle.bank_model.specs.Timing.{Happens, Core, Keeping, KeepBegin, KeepIterate, KeepCut, TimedEvent, core, is_doing}

-- a line, if there is one, is this one
abbrev pub is_at : Option ℕ → ℕ → Bool
is_at None line = false
is_at (Some at) line = at == line

-- how often a line was pulsed or torn, up to the greatest u64
abbrev pub pulses_of : {n m : ℕ} → List (TimedEvent n m) → ℕ → ℕ
pulses_of [] line = 0
pulses_of (x ∷ xs) line = if is_at x.pulsed line then counted (pulses_of xs line) else pulses_of xs line

module _ {n : ℕ} (shape : BankShape) (h : List (BankEvent n)) where
  -- the array line where the line of the first of these reads stands
  abbrev pub stand_of : List Awaited → List ℕ
  stand_of [] = []
  stand_of (w ∷ ws) = stands_at_after shape h w.line ∷ []

  -- the array lines that an event senses, in this order: a copy's begin its source and then its target. A cut is one with the reading
  -- of these control lines
  abbrev pub sensed_by : List ℕ → BankEvent n → List ℕ
  sensed_by controls (Serve answer) = stand_of (waits shape h)
  sensed_by controls (Begin answer) = sources_of shape h (work_after shape h) ++ target_after shape h ∷ []
  sensed_by controls (Iterate answer) = target_after shape h ∷ []
  sensed_by controls (Cut tearing) = controls
  sensed_by controls _ = []

  -- the one that it pulses or tears. A cut that doesn't tear the bank's line write may tear that of this control line
  abbrev pub pulsed_by : Option ℕ → BankEvent n → Option ℕ
  pulsed_by torn (Iterate answer) = Some (target_after shape h)
  pulsed_by torn (Cut true) = Some (target_after shape h)
  pulsed_by torn (Cut false) = torn
  pulsed_by torn _ = None

-- a power cut reads every control line again, and a cancel none
abbrev pub read_again : BankShape → Bool → List ℕ
read_again shape true = []
read_again shape false = all_controls shape

-- the control line whose iteration a cut tears, if such a one runs
abbrev pub torn_control : BankShape → Option ℕ → Option Action → Option ℕ
torn_control shape change action = if is_doing Iterating action then line_of_change shape change else None

-- what a step of the writing of a change senses and pulses, by its control line
abbrev pub kept_sensed : Option ℕ → Keeping → List ℕ
kept_sensed None event = []
kept_sensed (Some line) (KeepBegin answer) = line ∷ []
kept_sensed (Some line) (KeepIterate answer) = line ∷ []
kept_sensed (Some line) (KeepCut tearing) = []

abbrev pub kept_pulsed : Option ℕ → Keeping → Option ℕ
kept_pulsed line (KeepBegin answer) = None
kept_pulsed line (KeepIterate answer) = line
kept_pulsed line (KeepCut tearing) = if tearing then line else None

-- the bytes are those kept with the first read, over what these cells are read as
abbrev pub IsLaid : {n m : ℕ} → ℕ → List Awaited → List ℕ → Cells n m → Type 0
IsLaid e [] bytes cells = ⊥
IsLaid e (w ∷ ws) bytes cells = bytes ≡ laid w.kept w.given (decode e cells)

-- the first cells that a begin sensed; else what an older one did
abbrev pub begun_with : {n m : ℕ} → Happens n → List (Sense n m) → Option (Cells n m) → Option (Cells n m)
begun_with (Core (Begin answer)) (s ∷ rest) older = Some s.cells
begun_with happens senses older = older

-- the first cells that the last begin sensed: for a copy, those of its source
abbrev pub copied : {n m : ℕ} → List (TimedEvent n m) → Option (Cells n m)
copied [] = None
copied (x ∷ xs) = begun_with x.happens x.senses (copied xs)

-- what an event sensed is read right. At a serve it gives the answer's bytes, those kept with the read laid over it; where a
-- write is stored it gives the newest bytes of the line as of that write; where a gap move is done it gives the copied line's bytes
abbrev pub IsReadRight : {n m : ℕ} → ℕ → BankShape → List (TimedEvent n m) → BankEvent n → List (Sense n m) → Type 0
IsReadRight e shape xs (Serve answer) (s ∷ []) = IsLaid e (waits shape (core xs)) answer.bytes s.cells
IsReadRight e shape xs (Begin (did.Stored row place)) (s ∷ []) = decode e s.cells ≡ newest (up_to row (core xs)) (line_of_row row (core xs))
IsReadRight e shape xs (Iterate (did.Stored row place)) (s ∷ []) = decode e s.cells ≡ newest (up_to row (core xs)) (line_of_row row (core xs))
IsReadRight e shape xs (Begin (did.Moved step)) (source ∷ s ∷ []) = decode e s.cells ≡ decode e source.cells
IsReadRight e shape xs (Iterate (did.Moved step)) (s ∷ []) = IsSomeAnd (copied xs) (λ source. decode e s.cells ≡ decode e source)
IsReadRight e shape xs event senses = Unit {0}

-- The array lines that a bank senses and pulses are its own.
use Rattle.std.proofs.Common.{◌≡◌, ℕ, ◌+◌, ◌-◌, ◌<◌, ◌≤◌, Bool, true, false, cond, zero, suc, List, [], ◌∷◌, ◌++◌, map, Option, Some, None, refl, sym, ap, subst, ◌∙◌, arith}
use Rattle.std.{specs.Prelude.{All, IfSome}, proofs.Math.Nat.mul-le-mul_left, proofs.lemmas.List.Elements.{All-nil, All-cons}}
use Rattle.masked_bytes.specs.declared.entry.Entry.{Entry}
use Rattle.cell_rows.specs.{Device.{ArrayState, counted, sense_of}, declared.array.Sense.Sense}
use Rattle.start_gap.{specs.Rotation.{Rotation, below_gap}, proofs.Places.below_gap-within}
use Rattle.spare_pool.{specs.Table.{line_by, used_by}, proofs.Lines.line_by-within}
use Rattle.bank_shape.specs.{Shape.{slots_of, slot_at, lines_in, controls_of, controls_from, control_line, IsIn}, declared.BankShape.BankShape, declared.Work.Work}
use Rattle.bank_shape.specs.{declared.Work.TheVariants.{Nothing, Store, Copy}, declared.clock.Action.Action, declared.clock.Doing.TheVariants.Iterating}
use Rattle.bank_shape.proofs.Sizes.{slot_at-within}
use Rattle.power_recovery.specs.{Kept.{KeptState, IsKept, AllBelow, region_at, slot_of, array_line, stands_at, due_region, due_work, next_work, target_slot}, Slots.bank_lines}
use Rattle.power_recovery.proofs.{Bundle.due_region-Some, Placing.slot_of-within}
use Rattle.bank_model.specs.{After.{work_after, target_after, sources_of}, Changes.{line_of_change, numbers_from}, Events.{BankEvent, Serve, Begin, Iterate, Cut}}
use Rattle.bank_model.specs.{History.{Awaited, waits}, Sensing.{is_at, pulses_of, stand_of, sensed_by, pulsed_by, read_again, torn_control, kept_sensed, kept_pulsed}}
use Rattle.bank_model.specs.{Timing.{TimedEvent, Keeping, is_doing}, Touching.{Touches, shown}}
use Rattle.bank_invariant.{specs.Bridge.AgreesWith, specs.Holds.Holds, specs.State.{BankState, target_of}, proofs.Agreeing.agree_law, proofs.Awaiting.waits-known}

-- one that is no control line
abbrev pub IsSlotOrSpare : BankShape → ℕ → Type 0
IsSlotOrSpare shape line = (shape.base ≤ line) × (line < controls_from shape)

slot-in : (shape : BankShape) (line : ℕ) → IsSlotOrSpare shape line → IsIn shape line
slot-in shape line is = (is.0, omega (arith, is.1))

-- a control line
pub control-in : (shape : BankShape) (item : ℕ) → item < controls_of shape → IsIn shape (control_line shape item)
control-in shape item below = (omega arith, omega (arith, below))

-- lines of a bank's own
abbrev pub AreIn : BankShape → List ℕ → Type 0
AreIn shape [] = Unit {0}
AreIn shape (line ∷ lines) = IsIn shape line × AreIn shape lines

AreIn-append : (shape : BankShape) (first rest : List ℕ) → AreIn shape first → AreIn shape rest → AreIn shape (first ++ rest)
AreIn-append shape [] rest h k = k
AreIn-append shape (line ∷ first) rest h k = (h.0, AreIn-append shape first rest h.1 k)

module _ {n : ℕ} (kept : KeptState n) (range : IsKept kept) where
  -- each slot's array line is one of the bank
  pub array_line-in : (slot : ℕ) → slot < slots_of kept.shape → IsSlotOrSpare kept.shape (array_line kept slot)
  array_line-in slot below =
      let within : line_by kept.table slot < kept.table.slots + used_by kept.table = line_by-within kept.table slot (omega (arith, below, range.slots)) in
      (omega arith, omega (arith, within, range.slots, range.spares, range.table.within))

  pub stands_at-in : (line : ℕ) → line < bank_lines kept.shape → IsSlotOrSpare kept.shape (stands_at kept line)
  stands_at-in line below = array_line-in (slot_of kept line) (slot_of-within kept range line below)

  some_slots : 0 < slots_of kept.shape
  some_slots =
      let more = mul-le-mul_left kept.shape.regions range.shape.some_lines in
      let lines : 1 ≤ kept.shape.lines + 1 = omega arith in
      let all = mul-le-mul_left kept.shape.regions lines in
      omega (arith, all, range.shape.some_regions)

  -- the slots that the next work writes and copies
  abbrev pub IsSlot : ℕ → Type 0
  IsSlot slot = slot < slots_of kept.shape

  abbrev pub HasSource : Work → Type 0
  HasSource Nothing = Unit {0}
  HasSource (Store line slot) = Unit {0}
  HasSource (Copy region step) = IsSlot (slot_at kept.shape region step.from)

  next_by : (mark : Bool) (due : Option ℕ) (es : List (Entry n)) → (due ≡ due_region kept) → AllBelow es (bank_lines kept.shape)
      → IsSlot (target_slot kept (cond mark Nothing (due_work due kept es))) × HasSource (cond mark Nothing (due_work due kept es))
  next_by false None (entry ∷ es) is known = (slot_of-within kept range entry.line known.0, tt)
  next_by false (Some region) es is known =
      let due = due_region-Some kept region range (sym is) in
      let own = range.regions region due.0 in
      let rotation : Rotation = (region_at kept region).rotation in
      let less : below_gap rotation.lines rotation.gap ≤ rotation.lines = below_gap-within rotation.lines rotation.gap own.in_range.rotates.gap_within in (
        slot_at-within kept.shape region rotation.gap due.0 (omega (arith, own.rotates, own.in_range.rotates.gap_within)),
        slot_at-within kept.shape region (below_gap rotation.lines rotation.gap) due.0 (omega (arith, own.rotates, less)),
      )
  next_by _ _ _ is known = (some_slots, tt)

  pub target-in : IsSlotOrSpare kept.shape (target_of kept (next_work kept))
  target-in = array_line-in (target_slot kept (next_work kept)) (next_by kept.exhausted (due_region kept) kept.entries refl range.known).0

  -- and what is due in a bank that may be exhausted
  pub due-in : IsSlotOrSpare kept.shape (target_of kept (due_work (due_region kept) kept kept.entries))
  due-in = array_line-in (target_slot kept (due_work (due_region kept) kept kept.entries)) (next_by false (due_region kept) kept.entries refl range.known).0

  pub source-within : HasSource (next_work kept)
  source-within = (next_by kept.exhausted (due_region kept) kept.entries refl range.known).1

module _ {n m e : ℕ} (h : List (BankEvent n)) (bank : BankState n m e) (array : ArrayState n m) (holds : Holds h bank array) where
  agreeing : AgreesWith h bank
  agreeing = agree_law n m e h bank array holds

  first-in : (ws : List Awaited) → All (λ w. w.line < bank_lines bank.kept.shape) ws → AreIn bank.kept.shape (stand_of bank.kept.shape h ws)
  first-in [] known = tt
  first-in (w ∷ ws) known =
      let own : w.line < bank_lines bank.kept.shape = known 0 w (omega arith) in
      (subst (λ (at : ℕ). IsIn bank.kept.shape at) (agreeing.stands w.line own) (slot-in bank.kept.shape _ (stands_at-in bank.kept holds.kept w.line own)), tt)

  sources-in : (work : Work) → HasSource bank.kept holds.kept work → AreIn bank.kept.shape (sources_of bank.kept.shape h work)
  sources-in (Copy region step) has =
      (subst (λ (at : ℕ). IsIn bank.kept.shape at) (agreeing.lines (slot_at bank.kept.shape region step.from)) (slot-in bank.kept.shape _ (array_line-in bank.kept holds.kept _ has)), tt)
  sources-in _ has = tt

  pub target_after-in : IsIn bank.kept.shape (target_after bank.kept.shape h)
  target_after-in = subst (λ (at : ℕ). IsIn bank.kept.shape at) agreeing.target (slot-in bank.kept.shape _ (target-in bank.kept holds.kept))

  pub target_after-low : target_after bank.kept.shape h < controls_from bank.kept.shape
  target_after-low =
      subst (λ (at : ℕ). at < controls_from bank.kept.shape) agreeing.target
      (let is = target-in bank.kept holds.kept in omega (arith, is.1))

  -- each event senses lines of its bank
  pub sensed-in : (controls : List ℕ) (event : BankEvent n) → AreIn bank.kept.shape controls → AreIn bank.kept.shape (sensed_by bank.kept.shape h controls event)
  sensed-in controls (Serve answer) own = first-in (waits bank.kept.shape h) (waits-known bank.kept.shape _ h holds.past)
  sensed-in controls (Begin answer) own =
      AreIn-append bank.kept.shape (sources_of bank.kept.shape h (work_after bank.kept.shape h)) (target_after bank.kept.shape h ∷ [])
      (subst (λ (work : Work). AreIn bank.kept.shape (sources_of bank.kept.shape h work)) agreeing.work (sources-in (next_work bank.kept) (source-within bank.kept holds.kept)))
      (target_after-in, tt)
  sensed-in controls (Iterate answer) own = (target_after-in, tt)
  sensed-in controls (Cut tearing) own = own
  sensed-in controls _ own = tt

  -- and pulses one of them or none
  pub pulsed-in : (torn : Option ℕ) (event : BankEvent n) → IfSome torn (IsIn bank.kept.shape) → IfSome (pulsed_by bank.kept.shape h torn event) (IsIn bank.kept.shape)
  pulsed-in torn (Iterate answer) own = target_after-in
  pulsed-in torn (Cut true) own = target_after-in
  pulsed-in torn (Cut false) own = own
  pulsed-in torn _ own = tt

-- Control lines

numbers-in : (shape : BankShape) (from count : ℕ) → shape.base ≤ from → from + count ≤ shape.base + lines_in shape → AreIn shape (numbers_from from count)
numbers-in shape from zero low high = tt
numbers-in shape from (suc count) low high = ((low, omega (arith, high)), numbers-in shape (from + 1) count (omega (arith, low)) (omega (arith, high)))

pub controls-in : (shape : BankShape) (cancels : Bool) → AreIn shape (read_again shape cancels)
controls-in shape true = tt
controls-in shape false = numbers-in shape (controls_from shape) (controls_of shape) (omega arith) (omega arith)

-- the line of a change
pub change-in : (shape : BankShape) (change : Option ℕ) → IfSome change (λ item. item < controls_of shape) → IfSome (line_of_change shape change) (IsIn shape)
change-in shape None below = tt
change-in shape (Some item) below = control-in shape item below

pub torn-in : (shape : BankShape) (change : Option ℕ) (action : Option Action) → IfSome change (λ item. item < controls_of shape) → IfSome (torn_control shape change action) (IsIn shape)
torn-in shape change action below = by (is_doing Iterating action)
  where
    by : (b : Bool) → IfSome (cond b (line_of_change shape change) None) (IsIn shape)
    by true = change-in shape change below
    by false = tt

-- what a step of its writing senses and pulses
pub kept-sensed-in : (shape : BankShape) (line : Option ℕ) (event : Keeping) → IfSome line (IsIn shape) → AreIn shape (kept_sensed line event)
kept-sensed-in shape line event own = grind arith

pub kept-pulsed-in : (shape : BankShape) (line : Option ℕ) (event : Keeping) → IfSome line (IsIn shape) → IfSome (kept_pulsed line event) (IsIn shape)
kept-pulsed-in shape line event own = grind arith

-- Pulses

module _ {n m : ℕ} where
  -- a line's pulses after an event, told from those before it
  touched : (tick : ℕ) (sensed : List ℕ) (pulsed : Option ℕ) (tearing : Bool) (old new : ArrayState n m) (line count : ℕ) → Touches tick sensed pulsed tearing old new
      → (old.line line).pulses ≡ count → (new.line line).pulses ≡ cond (is_at pulsed line) (counted count) count
  touched tick sensed pulsed tearing old new line count touches before = by (is_at pulsed line) refl
    where
      by : (b : Bool) → is_at pulsed line ≡ b → (new.line line).pulses ≡ cond b (counted count) count
      by true is = touches.pulses line is ∙ ap counted before
      by false is = ap (λ l. l.pulses) (touches.others line is) ∙ before

  -- the pulses of a bank's lines are those of the history
  abbrev pub ArePulses : BankShape → List (TimedEvent n m) → ArrayState n m → Type 0
  ArePulses shape xs array = (line : ℕ) → line < lines_in shape → (array.line (shape.base + line)).pulses ≡ pulses_of xs (shape.base + line)

  pub pulses-at : (shape : BankShape) (xs : List (TimedEvent n m)) (array : ArrayState n m) (line : ℕ) → ArePulses shape xs array → IsIn shape line
      → (array.line line).pulses ≡ pulses_of xs line
  pulses-at shape xs array line are is =
      let there : shape.base + (line - shape.base) ≡ line = omega (arith, is.0) in
      subst (λ (at : ℕ). (array.line at).pulses ≡ pulses_of xs at) there (are (line - shape.base) (omega (arith, is.0, is.1)))

  pub pulses-next : (shape : BankShape) (xs : List (TimedEvent n m)) (x : TimedEvent n m) (sensed : List ℕ) (tearing : Bool) (old new : ArrayState n m)
      → ArePulses shape xs old → Touches x.tick sensed x.pulsed tearing old new → ArePulses shape (x ∷ xs) new
  pulses-next shape xs x sensed tearing old new are touches line below =
      touched x.tick sensed x.pulsed tearing old new (shape.base + line) (pulses_of xs (shape.base + line)) touches (are line below)

  -- what holds of the sense of each of a bank's lines holds of those that are shown
  pub shown-all : (shape : BankShape) (tick : ℕ) (sensed : List ℕ) (array : ArrayState n m) (P : Sense n m → Type 0) → AreIn shape sensed
      → ((line : ℕ) → IsIn shape line → P (sense_of line tick (array.line line))) → All P (shown tick sensed array)
  shown-all shape tick [] array P are own = All-nil P
  shown-all shape tick (line ∷ sensed) array P are own =
      All-cons P (sense_of line tick (array.line line)) (shown tick sensed array) (own line are.0) (shown-all shape tick sensed array P are.1 own)

  pub shown-lines : (tick : ℕ) (sensed : List ℕ) (array : ArrayState n m) → map (λ s. s.line) (shown tick sensed array) ≡ sensed
  shown-lines tick [] array = refl
  shown-lines tick (line ∷ sensed) array = ap (λ lines. line ∷ lines) (shown-lines tick sensed array)

-- Which action runs after a timed history, and which is chosen next.
use Rattle.std.specs.Prelude.{ℕ, ◌+◌, ◌&&◌, ◌||◌, not, nat_lt, Bool, true, false, if◌then◌else◌, List, [], ◌∷◌, Option, Some, None}
use Rattle.bank_shape.specs.{Acting.{Choice, choice, chosen_by}, Pausing.gives_way, declared.BankShape.BankShape, declared.clock.Action.Action, declared.clock.Doing.Doing}
use Rattle.bank_shape.specs.{declared.clock.Doing.TheVariants.{Beginning, Iterating}, declared.pace.Pace.Pace}
use Rattle.bank_shape.specs.declared.answer.Step.TheVariants as did
use Rattle.bank_shape.specs.declared.answer.ReadAnswer.TheVariants as came
use Rattle.bank_shape.specs.declared.answer.Keep.TheVariants as keep
use Rattle.bank_model.specs.{After.{work_after, may_begin_after, is_store_of}, Changes.{change_after, keeping_after, rounds_after, halted_after}}
use Rattle.bank_model.specs.{Events.{BankEvent, Write, Read, Serve, Begin, Iterate, Cut}, History.{waits, in_progress, iterated, has_exhausted}}
use Rattle.bank_model.specs.Timing.{Happens, Core, Regs, KeepBegin, KeepIterate, KeepCut, TimedEvent, is_doing, is_empty, core, last_tick}

-- the action that runs at a later tick: that which ran, or else the one that was chosen
abbrev pub started : Option Action → Option Doing → ℕ → ℕ → Option Action
started (Some action) doing last tick = Some action
started None None last tick = None
started None (Some doing) last tick = if nat_lt last tick then Some (record { doing = doing; first = last }) else None

module _ {n : ℕ} (shape : BankShape) where
  -- whether a read of a line that begins to wait drops the begin of a store of its line. What is begun while a change stands is no store
  abbrev pub drops_begin : List (BankEvent n) → Option ℕ → ℕ → Option Action → Bool
  drops_begin h None line action = is_doing Beginning action && is_store_of line (work_after shape h)
  drops_begin h (Some item) line action = false

  -- the action that runs after an event: one that has ended runs no more, and a cut drops it
  abbrev pub left : List (BankEvent n) → Option ℕ → BankEvent n → Option Action → Option Action
  left h change (Write row line bytes given answer) action = action
  left h change (Read row line came.Waiting) action = if drops_begin h change line action then None else action
  left h change (Read row line answer) action = action
  left h change (Serve answer) action = None
  left h change (Begin answer) action = None
  left h change (Iterate answer) action = None
  left h change (Cut tearing) action = None

  abbrev pub left_by : List (BankEvent n) → Option ℕ → Happens n → Option Action → Option Action
  left_by h change (Core event) action = left h change event action
  left_by h change (Regs event) action = None

-- the line write that may go on or be begun is that of the change that stands, or else that of the bank's work
abbrev pub busy_by : Option ℕ → Bool → Bool → Bool
busy_by None keeping busy = busy
busy_by (Some item) keeping busy = keeping

abbrev pub ready_by : Option ℕ → Bool → Bool → Bool
ready_by None stopped ready = ready
ready_by (Some item) stopped ready = not stopped

-- how often the line write that is in progress was iterated
abbrev pub made_by : Option ℕ → ℕ → ℕ → ℕ
made_by None rounds count = count
made_by (Some item) rounds count = rounds

-- no line write is begun any more: the writing of the change that stands has halted, or none stands and the bank is exhausted
abbrev pub over_by : Option ℕ → Bool → Bool → Bool
over_by None halted exhausted = exhausted
over_by (Some item) halted exhausted = halted

-- the action that a cut or a cancel tears is the bank's iteration, or else that of the change's control line
abbrev pub tears_bank : Option ℕ → Option Action → Bool
tears_bank None action = is_doing Iterating action
tears_bank (Some item) action = false

module _ {n m : ℕ} (shape : BankShape) where
  -- whether a line write is in progress after a list, and whether one may be begun
  abbrev pub busy_after : List (TimedEvent n m) → Bool
  busy_after xs = busy_by (change_after shape xs) (keeping_after xs) (in_progress (core xs))

  abbrev pub ready_after : List (TimedEvent n m) → Bool
  ready_after xs = ready_by (change_after shape xs) (keeping_after xs || halted_after xs) (may_begin_after shape (core xs))

  abbrev pub made_after : List (TimedEvent n m) → ℕ
  made_after xs = made_by (change_after shape xs) (rounds_after xs) (iterated (core xs))

  abbrev pub is_over : List (TimedEvent n m) → Bool
  is_over xs = over_by (change_after shape xs) (halted_after xs) (has_exhausted (core xs))

module _ {n m : ℕ} (shape : BankShape) (pace : Pace) where
  -- the line write that a list leaves
  abbrev pub choice_after : List (TimedEvent n m) → Choice
  choice_after xs = choice (busy_after shape xs) (ready_after shape xs)

  -- the action that is chosen after a list
  abbrev pub chosen_after : List (TimedEvent n m) → Option Doing
  chosen_after xs = chosen_by (gives_way pace.policy) (not (is_empty (waits shape (core xs)))) (choice_after xs)

  -- the action that runs after the last event, before one is chosen at its tick
  abbrev pub running : List (TimedEvent n m) → Option Action
  running [] = None
  running (x ∷ xs) = left_by shape (core xs) (change_after shape xs) x.happens (started (running xs) (chosen_after xs) (last_tick xs) x.tick)

  -- the action that runs at a tick after the list, before one is chosen at that tick
  abbrev pub running_at : List (TimedEvent n m) → ℕ → Option Action
  running_at xs tick = started (running xs) (chosen_after xs) (last_tick xs) tick

-- how often the present work was cancelled
abbrev pub cancels_by : {n : ℕ} → BankEvent n → Bool → ℕ → ℕ
cancels_by (Cut tearing) true count = count + 1
cancels_by (Cut tearing) false count = 0
cancels_by (Begin did.More) cancels count = count
cancels_by (Begin answer) cancels count = 0
cancels_by (Iterate did.More) cancels count = count
cancels_by (Iterate answer) cancels count = 0
cancels_by _ cancels count = count

abbrev pub cancels_with : {n : ℕ} → Happens n → Bool → ℕ → ℕ
cancels_with (Core event) cancels count = cancels_by event cancels count
cancels_with (Regs (KeepBegin keep.More)) cancels count = count
cancels_with (Regs (KeepBegin answer)) cancels count = 0
cancels_with (Regs (KeepIterate keep.More)) cancels count = count
cancels_with (Regs (KeepIterate answer)) cancels count = 0
cancels_with (Regs (KeepCut tearing)) cancels count = count + 1

abbrev pub cancels_after : {n m : ℕ} → List (TimedEvent n m) → ℕ
cancels_after [] = 0
cancels_after (x ∷ xs) = cancels_with x.happens x.cancels (cancels_after xs)

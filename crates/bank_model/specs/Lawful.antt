-- Which timed histories a bank may have.
use Rattle.std.specs.Prelude.{◌≡◌, ◌≢◌, ℕ, ◌+◌, ◌<◌, ◌≤◌, ◌&&◌, nat_lt, Bool, IsTrue, IsFalse, List, [], ◌∷◌, map, Option, Some, None, IfSome, is_some, All}
use Rattle.bank_shape.specs.{Pausing.{is_cancelling, most_cancels}, declared.BankShape.BankShape, declared.answer.ReadAnswer.ReadAnswer, declared.clock.Action.Action}
use Rattle.bank_shape.specs.{declared.clock.Doing.Doing, declared.clock.Doing.TheVariants.{Serving, Beginning, Iterating}, declared.pace.Pace.Pace, declared.pace.Policy.Policy}
use Rattle.bank_shape.specs.declared.answer.ReadAnswer.TheVariants as came
use Rattle.bank_shape.specs.declared.answer.Keep.TheVariants as keep
use Rattle.bank_model.specs.{Answers.MayHappen, Changes.{change_after, keeping_after, rounds_after, halted_after, line_of_change}}
use Rattle.bank_model.specs.{Events.{BankEvent, Write, Read, Serve, Begin, Iterate, Cut, RowsBelow}, History.waits}
use Rattle.bank_model.specs.Running.{tears_bank, chosen_after, running, running_at, cancels_after}
use Rattle.bank_model.specs.Sensing.{most_steps, pulses_of, sensed_by, pulsed_by, read_again, torn_control, kept_sensed, kept_pulsed, IsReadRight}
use Rattle.bank_model.specs.Timing.{Happens, Core, Regs, Keeping, KeepBegin, KeepIterate, KeepCut, TimedEvent, ends, is_doing, is_writing, is_empty, core, last_tick}

-- a read was answered at once, from the queue
abbrev pub IsForwarded : {n : ℕ} → ReadAnswer n → Type 0
IsForwarded (came.Forwarded bytes) = Unit {0}
IsForwarded came.Waiting = ⊥
IsForwarded came.Busy = ⊥

module _ {n : ℕ} (shape : BankShape) (h : List (BankEvent n)) where
  -- a read would cancel: an action of a write runs, no read waits, and there were few cancels
  abbrev pub would_cancel : Policy → Option Action → ℕ → Bool
  would_cancel policy action count =
      is_cancelling policy && (is_writing action && (is_empty (waits shape h) && nat_lt count most_cancels))

-- an event ends the action that runs as it comes: it has the action's first tick, and its end as its tick
abbrev pub IsEnd : {n m : ℕ} → Pace → Doing → Option Action → TimedEvent n m → Type 0
IsEnd pace doing action x =
    (action ≡ Some (record { doing = doing; first = x.first })) × (x.tick ≡ ends pace (record { doing = doing; first = x.first }))

-- an event arrives: not before the last one, and before the action that runs has ended
abbrev pub IsArrival : {n m : ℕ} → Pace → Option Action → ℕ → TimedEvent n m → Type 0
IsArrival pace action last x = (x.first ≡ x.tick) × (last ≤ x.tick) × IfSome action (λ a. x.tick < ends pace a)

-- an event is a read that begins to wait, at this tick
abbrev pub IsRead : {n : ℕ} → ℕ → ℕ → BankEvent n → Type 0
IsRead tick at (Read row line came.Waiting) = at ≡ tick
IsRead tick at event = ⊥

-- the row of a write or a read is above all rows before
abbrev pub IsAsked : {n : ℕ} → List (BankEvent n) → BankEvent n → Type 0
IsAsked h (Write row line bytes given answer) = RowsBelow h row
IsAsked h (Read row line answer) = RowsBelow h row
IsAsked h event = Unit {0}

module _ {n m : ℕ} (shape : BankShape) (pace : Pace) where
  -- an event comes when it may, while this action runs. A cut tears exactly where an iteration runs; a read that would cancel comes behind its cancel
  abbrev pub IsOnTime : Option Action → List (TimedEvent n m) → TimedEvent n m → BankEvent n → Type 0
  IsOnTime action xs x (Write row line bytes given answer) = IsArrival pace action (last_tick xs) x × IsFalse x.cancels
  IsOnTime action xs x (Read row line answer) =
      IsArrival pace action (last_tick xs) x × IsFalse x.cancels
      × ((IsForwarded answer → ⊥) → IsFalse (would_cancel shape (core xs) pace.policy action (cancels_after xs)))
  IsOnTime action xs x (Serve answer) = IsEnd pace Serving action x × IsFalse x.cancels
  IsOnTime action xs x (Begin answer) = IsEnd pace Beginning action x × IsFalse x.cancels × (change_after shape xs ≡ None)
  IsOnTime action xs x (Iterate answer) = IsEnd pace Iterating action x × IsFalse x.cancels × (change_after shape xs ≡ None)
  IsOnTime action xs x (Cut tearing) =
      IsArrival pace action (last_tick xs) x × (tearing ≡ tears_bank (change_after shape xs) action)
      × (IsTrue x.cancels → IsTrue (would_cancel shape (core xs) pace.policy action (cancels_after xs)))
      × (IsTrue x.cancels → change_after shape xs ≡ None)
      × (IsTrue (is_some (torn_control shape (change_after shape xs) action)) → IsTrue (keeping_after xs))

  -- behind a cancel comes the read that made it, at the cancel's tick
  abbrev pub FollowsCancel : List (TimedEvent n m) → ℕ → BankEvent n → Type 0
  FollowsCancel [] at event = Unit {0}
  FollowsCancel (y ∷ ys) at event = IsTrue y.cancels → IsRead y.tick at event

  -- an event may come next: its row is new, the bank may answer so, at this tick, with these senses and this pulse
  pub record IsNext (e : ℕ) (xs : List (TimedEvent n m)) (x : TimedEvent n m) (event : BankEvent n) : Type 0 where
    pub asked : IsAsked (core xs) event
    pub may : MayHappen shape (core xs) (most_steps e) event
    pub on_time : IsOnTime (running_at shape pace xs x.tick) xs x event
    pub behind : FollowsCancel xs x.tick event
    pub lines : map (λ s. s.line) x.senses ≡ sensed_by shape (core xs) (read_again shape x.cancels) event
    pub senses : All (λ s. (s.tick ≡ x.tick) × (s.pulses ≡ pulses_of (x ∷ xs) s.line)) x.senses
    pub pulsed : x.pulsed ≡ pulsed_by shape (core xs) (torn_control shape (change_after shape xs) (running_at shape pace xs x.tick)) event
    pub right : IsReadRight e shape xs event x.senses

  -- a step of the writing of the change that stands meets its condition, and may be answered so. It takes at most so many iterations
  abbrev pub MayKeep : ℕ → List (TimedEvent n m) → Keeping → Type 0
  MayKeep most xs (KeepBegin answer) = IsFalse (keeping_after xs) × IsFalse (halted_after xs) × (answer ≢ keep.Halted)
  MayKeep most xs (KeepIterate answer) =
      IsTrue (keeping_after xs) × (rounds_after xs < most) × (answer ≡ keep.More → rounds_after xs + 1 < most)
  MayKeep most xs (KeepCut tearing) = IsTrue tearing → IsTrue (keeping_after xs)

  -- it comes when it may, while this action runs; its cut is a cancel
  abbrev pub IsKeptOnTime : Option Action → List (TimedEvent n m) → TimedEvent n m → Keeping → Type 0
  IsKeptOnTime action xs x (KeepBegin answer) = IsEnd pace Beginning action x × IsFalse x.cancels
  IsKeptOnTime action xs x (KeepIterate answer) = IsEnd pace Iterating action x × IsFalse x.cancels
  IsKeptOnTime action xs x (KeepCut tearing) =
      IsArrival pace action (last_tick xs) x × (tearing ≡ is_doing Iterating action) × IsTrue x.cancels
      × IsTrue (would_cancel shape (core xs) pace.policy action (cancels_after xs))

  -- no cancel stands without its read
  abbrev pub IsUncancelled : List (TimedEvent n m) → Type 0
  IsUncancelled [] = Unit {0}
  IsUncancelled (y ∷ ys) = IsFalse y.cancels

  -- a step of the writing of the change that stands may come next
  pub record IsNextKept (e : ℕ) (xs : List (TimedEvent n m)) (x : TimedEvent n m) (event : Keeping) : Type 0 where
    pub stands : IsTrue (is_some (change_after shape xs))
    pub may : MayKeep (most_steps e) xs event
    pub on_time : IsKeptOnTime (running_at shape pace xs x.tick) xs x event
    pub behind : IsUncancelled xs
    pub lines : map (λ s. s.line) x.senses ≡ kept_sensed (line_of_change shape (change_after shape xs)) event
    pub senses : All (λ s. (s.tick ≡ x.tick) × (s.pulses ≡ pulses_of (x ∷ xs) s.line)) x.senses
    pub pulsed : x.pulsed ≡ kept_pulsed (line_of_change shape (change_after shape xs)) event

  abbrev pub MayCome : ℕ → List (TimedEvent n m) → TimedEvent n m → Happens n → Type 0
  MayCome e xs x (Core event) = IsNext e xs x event
  MayCome e xs x (Regs event) = IsNextKept e xs x event

  -- each event may come after those before it
  abbrev pub Lawful : ℕ → List (TimedEvent n m) → Type 0
  Lawful e [] = Unit {0}
  Lawful e (x ∷ xs) = MayCome e xs x x.happens × Lawful e xs

  -- no action runs, and none would be chosen
  pub record IsIdle (xs : List (TimedEvent n m)) : Type 0 where
    pub runs : running shape pace xs ≡ None
    pub chosen : chosen_after shape pace xs ≡ None

-- How many line writes end, and how many are cancelled.
use Rattle.std.proofs.Common.{◌≡◌, ℕ, ◌+◌, ◌*◌, ◌≤◌, ◌==◌, ◌&&◌, ◌||◌, not, Bool, true, false, List, [], ◌∷◌, Option, Some, None, length, length-append, refl, ap, ◌∙◌, arith, cond, eq-eqb}
use Rattle.std.{specs.Prelude.{nat_lt, nat_le, is_some}, proofs.lemmas.Bool.lt-leb}
use Rattle.bank_shape.specs.{Acting.{choice, chosen_by}, Pausing.gives_way, Shape.is_array, declared.BankShape.BankShape, declared.Home.Home, declared.Work.TheVariants.Nothing}
use Rattle.bank_shape.specs.{declared.clock.Action.Action, declared.clock.Doing.Doing, declared.pace.Pace.Pace}
use Rattle.bank_shape.specs.declared.answer.ReadAnswer.TheVariants as came
use Rattle.bank_shape.specs.declared.answer.Step.TheVariants as did
use Rattle.bank_shape.specs.declared.clock.Doing.TheVariants as doing
use Rattle.bank_shape.specs.declared.answer.Keep.TheVariants as keep
use Rattle.bank_shape.specs.declared.Home.TheVariants as home
use Rattle.bank_model.specs.{After.{due_work, work_after, is_ready, may_begin_after, due_moves}, Answers.MayAll}
use Rattle.bank_model.specs.{Changes.{item_if, change_after, change_by, keeping_after, halted_after, halted_by}, Events.{BankEvent, Write, Read, Serve, Begin, Iterate, Cut}}
use Rattle.bank_model.specs.{History.{moved_in, stored_in, retired, has_exhausted, due_after, queue, waits, in_progress}, Lawful.{Lawful, MayCome}}
use Rattle.bank_model.specs.Running.{busy_by, ready_by, over_by, busy_after, ready_after, is_over, drops_begin, started, left_by, running, running_at, chosen_after}
use Rattle.bank_model.specs.{Sensing.most_steps, Timing.{Happens, Core, Regs, KeepBegin, KeepIterate, TimedEvent, is_writing, is_empty, core, core_of, last_tick}}
use Rattle.bank_model.proofs.Within.{due_moves-few}
use Rattle.row_rules.specs.Ticking.{writings}
use Rattle.bank_laws.proofs.{Changing.halted-stops, Waiting.may_all}
use Rattle.place_laws.proofs.{Counts.stores_with, Moves.{next_product, last_region, KeepsMoves, keeps}, Pulsing.{ends_work, ends_in}}
use Rattle.place_laws.proofs.{Slots.{begin-retires_none, begin-exhausts_none}, Working.done-move}
use Rattle.masked_bytes.proofs.Counting.{one_if}

module _ {n : ℕ} where
  -- all stores, all moves
  abbrev pub all_stores : List (BankEvent n) → ℕ
  all_stores h = stores_with (λ line. true) h

  abbrev pub all_moves : List (BankEvent n) → ℕ
  all_moves [] = 0
  all_moves (Begin (did.Moved step) ∷ h) = 1 + all_moves h
  all_moves (Iterate (did.Moved step) ∷ h) = 1 + all_moves h
  all_moves (_ ∷ h) = all_moves h

-- whether an event is a cut but for one that a read made, and how many there were
abbrev pub cuts_power : {n : ℕ} → Happens n → Bool → Bool
cuts_power (Core (Cut tearing)) cancels = not cancels
cuts_power (Core _) cancels = false
cuts_power (Regs event) cancels = false

abbrev pub cuts_in : {n m : ℕ} → List (TimedEvent n m) → ℕ
cuts_in [] = 0
cuts_in (x ∷ xs) = one_if (cuts_power x.happens x.cancels) + cuts_in xs

module _ {n : ℕ} (shape : BankShape) where
  -- an exhausted bank begins nothing
  pub exhausted-begins_none : (h : List (BankEvent n)) → has_exhausted h ≡ true → may_begin_after shape h ≡ false
  exhausted-begins_none h ex = by (in_progress h) (has_exhausted h) ex
    where
      by : (b ex : Bool) → ex ≡ true → (not b && is_ready (waits shape h) (cond ex Nothing (due_work shape h (due_after shape h) (queue shape h)))) ≡ false
      by b ex is = grind arith

  begun_idle : (h : List (BankEvent n)) (busy : Bool) → has_exhausted h ≡ true → may_begin_after shape h ≡ true → busy ≡ false
  begun_idle h busy ex may = absurd (cc (exhausted-begins_none h ex, may))

  -- and no line write is in progress
  pub exhausted-idle : (most : ℕ) (h : List (BankEvent n)) → MayAll shape most h → has_exhausted h ≡ true → in_progress h ≡ false
  exhausted-idle most (Write row line bytes given answer ∷ h) may ex = exhausted-idle most h may.1 ex
  exhausted-idle most (Read row line answer ∷ h) may ex = exhausted-idle most h may.1 ex
  exhausted-idle most (Serve answer ∷ h) may ex = exhausted-idle most h may.1 ex
  exhausted-idle most (Begin did.More ∷ h) may ex = begun_idle h true ex may.0.0
  exhausted-idle most (Iterate did.More ∷ h) may ex = absurd (cc (exhausted-idle most h may.1 ex, may.0.0))
  exhausted-idle most _ may ex = refl

  -- after a move none is due
  moved-none_due : 1 ≤ shape.psi → (h : List (BankEvent n)) → KeepsMoves shape h
      → due_moves (cond (nat_le (shape.psi * (one_if (last_region shape h == last_region shape h) + moved_in shape.lines h (last_region shape h) + 1)) (stored_in shape.lines h (last_region shape h))) (Some (last_region shape h)) None) ≡ 0
  moved-none_due some h k =
      let own : ℕ = last_region shape h in
      let one : one_if (last_region shape h == last_region shape h) + moved_in shape.lines h (last_region shape h) + 1 ≡ moved_in shape.lines h (last_region shape h) + 1 + 1 =
      omega (arith, ap one_if (eq-eqb (last_region shape h) (last_region shape h) refl)) in
      let near : stored_in shape.lines h (last_region shape h) ≤ shape.psi * (moved_in shape.lines h (last_region shape h) + 1) = k.near (last_region shape h) in
      let next : shape.psi * (moved_in shape.lines h (last_region shape h) + 1 + 1) ≡ shape.psi * (moved_in shape.lines h (last_region shape h) + 1) + shape.psi =
      next_product shape.psi (moved_in shape.lines h (last_region shape h) + 1) in
      let whole : shape.psi * (one_if (last_region shape h == last_region shape h) + moved_in shape.lines h (last_region shape h) + 1) ≡ shape.psi * (moved_in shape.lines h (last_region shape h) + 1 + 1) =
      ap (λ k. shape.psi * k) one in
      ap (λ b. due_moves (cond b (Some (last_region shape h)) None)) (lt-leb _ _ (omega (arith, near, next, whole, some)))

  -- no more moves than stores, with the one that is due
  pub moves-few : (most : ℕ) (h : List (BankEvent n)) → 1 ≤ shape.psi → MayAll shape most h → all_moves h + due_moves (due_after shape h) ≤ all_stores h
  moves-few most [] some may = omega (arith, none_at_first)
    where
      none_at_first : due_moves (due_after {n = n} shape []) ≡ 0
      none_at_first = ap (λ b. due_moves (cond b (Some (last_region {n = n} shape [])) None)) (lt-leb (shape.psi * (0 + 1)) 0 (omega (arith, next_product shape.psi 0, some)))
  moves-few most (Begin (did.Stored row place) ∷ h) some may =
      omega (arith, moves-few most h some may.1, due_moves-few (due_after shape (Begin (did.Stored row place) ∷ h)))
  moves-few most (Begin (did.Moved step) ∷ h) some may =
      let m = done-move shape h step may.0.1 in
      omega (arith, moves-few most h some may.1, ap due_moves m.due, moved-none_due some h (keeps shape most h some may.1))
  moves-few most (Iterate (did.Stored row place) ∷ h) some may =
      omega (arith, moves-few most h some may.1, due_moves-few (due_after shape (Iterate (did.Stored row place) ∷ h)))
  moves-few most (Iterate (did.Moved step) ∷ h) some may =
      let m = done-move shape h step may.0.1 in
      omega (arith, moves-few most h some may.1, ap due_moves m.due, moved-none_due some h (keeps shape most h some may.1))
  moves-few most (_ ∷ h) some may = moves-few most h some may.1

-- what may be done once nothing is in progress and nothing may be begun
chosen-serves : (way reads busy ready : Bool) (d : Doing) → busy ≡ false → ready ≡ false → chosen_by way reads (choice busy ready) ≡ Some d → d ≡ doing.Serving
chosen-serves way reads busy ready d idle none is = grind arith

serving-still : (d : Doing) (first : ℕ) → d ≡ doing.Serving → is_writing (Some (record { doing = d; first = first })) ≡ false
serving-still d first is = grind arith

started-still : (r : Option Action) (d : Option Doing) (last tick : ℕ) → is_writing r ≡ false → ((a : Doing) → d ≡ Some a → a ≡ doing.Serving) → is_writing (started r d last tick) ≡ false
started-still (Some action) d last tick still serves = still
started-still None None last tick still serves = refl
started-still None (Some d) last tick still serves = by (nat_lt last tick)
  where
    by : (b : Bool) → is_writing (cond b (Some (record { doing = d; first = last })) None) ≡ false
    by true = serving-still d last (serves d refl)
    by false = refl

dropped-still : (b : Bool) (r : Option Action) → is_writing r ≡ false → is_writing (cond b None r) ≡ false
dropped-still b r still = grind arith

-- each line write of the bank that ends is a store, a move, a retirement, or the one that finds no spare
abbrev pub causes : {n : ℕ} → List (BankEvent n) → ℕ
causes h = all_stores h + all_moves h + length (retired h) + one_if (has_exhausted h)

-- one, where a change stands that is still to be written
abbrev pub unwritten : Option ℕ → Bool → ℕ
unwritten None halted = 0
unwritten (Some item) halted = one_if (not halted)

-- how many line writes each of those brings
abbrev pub each : BankShape → ℕ
each shape = writings (is_array shape.home)

new_change : (shape : BankShape) (item : ℕ) (halted : Bool) → 1 + unwritten (item_if shape.home item) halted ≤ each shape
new_change shape item halted = by shape.home halted
  where
    by : (where_ : Home) (halted : Bool) → 1 + unwritten (item_if where_ item) halted ≤ writings (is_array where_)
    by where_ halted = grind arith

no_change : (change : Option ℕ) (halted : Bool) → change ≡ None → unwritten change halted ≡ 0
no_change change halted is = grind arith

some_change : (change : Option ℕ) (halted : Bool) → is_some change ≡ true → halted ≡ false → unwritten change halted ≡ 1
some_change change halted is off = grind arith

one_more : (k c s : ℕ) → k ≡ c + 1 → s * k ≡ s * c + s
one_more k c s is = ap (λ k. s * k) is ∙ next_product s c

module _ {n m : ℕ} (shape : BankShape) (pace : Pace) (e : ℕ) where
  -- where no line write is begun any more, none is in progress and none is ready
  pub over-rests : (xs : List (TimedEvent n m)) → Lawful shape pace e xs → is_over shape xs ≡ true → (busy_after shape xs ≡ false) × (ready_after shape xs ≡ false)
  over-rests xs l over = by (change_after shape xs) over
    where
      stopped : (keeping halted : Bool) → keeping ≡ false → halted ≡ true → not (keeping || halted) ≡ false
      stopped keeping halted off on = grind arith

      by : (change : Option ℕ) → over_by change (halted_after xs) (has_exhausted (core xs)) ≡ true
          → (busy_by change (keeping_after xs) (in_progress (core xs)) ≡ false) × (ready_by change (keeping_after xs || halted_after xs) (may_begin_after shape (core xs)) ≡ false)
      by None ex = (exhausted-idle shape (most_steps e) (core xs) (may_all shape pace e xs l) ex, exhausted-begins_none shape (core xs) ex)
      by (Some item) halted = (halted-stops shape pace e xs l halted, stopped (keeping_after xs) (halted_after xs) (halted-stops shape pace e xs l halted) halted)

  chosen-still : (xs : List (TimedEvent n m)) → Lawful shape pace e xs → is_over shape xs ≡ true → (a : Doing) → chosen_after shape pace xs ≡ Some a → a ≡ doing.Serving
  chosen-still xs l over a is =
      let rests = over-rests xs l over in
      chosen-serves (gives_way pace.policy) (not (is_empty (waits shape (core xs)))) (busy_after shape xs) (ready_after shape xs) a rests.0 rests.1 is

  -- in such a bank no action of a line write runs
  over-still : (xs : List (TimedEvent n m)) → Lawful shape pace e xs → is_over shape xs ≡ true → is_writing (running shape pace xs) ≡ false
  over-still [] l over = refl
  over-still (x ∷ xs) l over =
      by x.happens over (λ over. started-still (running shape pace xs) (chosen_after shape pace xs) (last_tick xs) x.tick (over-still xs l.1 over) (chosen-still xs l.1 over))
    where
      by : (h : Happens n) → over_by (change_by shape (core xs) h (change_after shape xs)) (halted_by h (halted_after xs)) (has_exhausted (core_of h (core xs))) ≡ true
          → (is_over shape xs ≡ true → is_writing (running_at shape pace xs x.tick) ≡ false)
          → is_writing (left_by shape (core xs) (change_after shape xs) h (running_at shape pace xs x.tick)) ≡ false
      by (Core (Write row line bytes given answer)) over still = still over
      by (Core (Read row line came.Waiting)) over still = dropped-still (drops_begin shape (core xs) (change_after shape xs) line (running_at shape pace xs x.tick)) (running_at shape pace xs x.tick) (still over)
      by (Core (Read row line _)) over still = still over
      by _ over still = refl

  pub still_at : (xs : List (TimedEvent n m)) (tick : ℕ) → Lawful shape pace e xs → is_over shape xs ≡ true → is_writing (running_at shape pace xs tick) ≡ false
  still_at xs tick l over = started-still (running shape pace xs) (chosen_after shape pace xs) (last_tick xs) tick (over-still xs l over) (chosen-still xs l over)

  pub ends-few : (xs : List (TimedEvent n m)) → Lawful shape pace e xs → ends_in xs + unwritten (change_after shape xs) (halted_after xs) ≤ each shape * causes (core xs) + cuts_in xs
  ends-few [] l = omega arith
  ends-few (x ∷ xs) l = by x.happens x.cancels l.0 (ends-few xs l.1) (exhausted-idle shape (most_steps e) (core xs) (may_all shape pace e xs l.1))
    where
      was : ℕ
      was = unwritten (change_after shape xs) (halted_after xs)

      -- a line write of the bank ends
      ended : (item k : ℕ) → k ≡ causes (core xs) + 1 → change_after shape xs ≡ None → ends_in xs + was ≤ each shape * causes (core xs) + cuts_in xs
          → 1 + ends_in xs + unwritten (item_if shape.home item) (halted_after xs) ≤ each shape * k + (0 + cuts_in xs)
      ended item k is none ih = omega (arith, ih, one_more k (causes (core xs)) (each shape) is, new_change shape item (halted_after xs), no_change (change_after shape xs) (halted_after xs) none)

      not_halted : (b : Bool) → b ≡ true → (halted_after xs ≡ true → b ≡ false) → halted_after xs ≡ false
      not_halted b on off = own (halted_after xs) off
        where
          own : (h : Bool) → (h ≡ true → b ≡ false) → h ≡ false
          own true off = let no : b ≡ false = off refl in absurd (cc)
          own false off = refl

      fresh : (ex busy : Bool) → (ex ≡ true → busy ≡ false) → busy ≡ true → ex ≡ false
      fresh true busy idle going = let no : busy ≡ false = idle refl in absurd (cc)
      fresh false busy idle going = refl

      by : (h : Happens n) (cancels : Bool) → MayCome shape pace e xs x h → ends_in xs + was ≤ each shape * causes (core xs) + cuts_in xs → (has_exhausted (core xs) ≡ true → in_progress (core xs) ≡ false)
          → one_if (ends_work h cancels) + ends_in xs + unwritten (change_by shape (core xs) h (change_after shape xs)) (halted_by h (halted_after xs)) ≤ each shape * causes (core_of h (core xs)) + (one_if (cuts_power h cancels) + cuts_in xs)
      by (Core (Begin (did.Stored row place))) cancels may ih idle = ended _ _ (omega arith) may.on_time.2 ih
      by (Core (Begin (did.Moved step))) cancels may ih idle = ended _ _ (omega arith) may.on_time.2 ih
      by (Core (Begin (did.Retired slot line))) cancels may ih idle = absurd (begin-retires_none shape (core xs) (work_after shape (core xs)) slot line may.may.1)
      by (Core (Begin did.Exhausted)) cancels may ih idle = absurd (begin-exhausts_none shape (core xs) (work_after shape (core xs)) may.may.1)
      by (Core (Iterate (did.Stored row place))) cancels may ih idle = ended _ _ (omega arith) may.on_time.2 ih
      by (Core (Iterate (did.Moved step))) cancels may ih idle = ended _ _ (omega arith) may.on_time.2 ih
      by (Core (Iterate (did.Retired slot line))) cancels may ih idle = ended _ _ (omega (arith, length-append (retired (core xs)) (slot ∷ []))) may.on_time.2 ih
      by (Core (Iterate did.Exhausted)) cancels may ih idle =
          ended _ _ (let f : has_exhausted (core xs) ≡ false = fresh (has_exhausted (core xs)) (in_progress (core xs)) idle may.may.0 in omega (arith, ap one_if f)) may.on_time.2 ih
      by (Core (Cut tearing)) true may ih idle = omega (arith, ih)
      by (Regs (KeepBegin keep.Done)) cancels may ih idle = omega (arith, ih, some_change (change_after shape xs) (halted_after xs) may.stands may.may.1)
      by (Regs (KeepBegin keep.Halted)) cancels may ih idle = absurd (may.may.2 refl)
      by (Regs (KeepIterate keep.Done)) cancels may ih idle =
          omega (arith, ih, some_change (change_after shape xs) (halted_after xs) may.stands (not_halted (keeping_after xs) may.may.0 (halted-stops shape pace e xs l.1)))
      by (Regs (KeepIterate keep.Halted)) cancels may ih idle =
          let one = some_change (change_after shape xs) (halted_after xs) may.stands (not_halted (keeping_after xs) may.may.0 (halted-stops shape pace e xs l.1)) in
          let none = gone (change_after shape xs) in
          omega (arith, ih, one, none)
        where
          gone : (change : Option ℕ) → unwritten change true ≡ 0
          gone change = grind arith
      by _ _ may ih idle = omega (arith, ih)

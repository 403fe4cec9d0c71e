-- Behind the tick to which a bank has come no event stands below it, where no row does.
use Rattle.std.proofs.Common.{◌≡◌, ℕ, ◌+◌, ◌<◌, ◌≤◌, not, Bool, true, false, List, [], ◌∷◌, ◌++◌, Option, Some, None, refl, ap, arith}
use Rattle.std.{specs.Prelude.{All, IfSome, IsFalse, IsSomeAnd, IsTrue}, proofs.lemmas.Bool.false_from_ne_true, proofs.lemmas.List.Elements.{All-head, All-tail, All-nil, All-cons}}
use Rattle.cell_rows.specs.Device.{ArrayState}
use Rattle.bank_shape.specs.{declared.BankShape.BankShape, declared.clock.Action.Action, declared.pace.Pace.Pace}
use Rattle.bank_shape.specs.declared.answer.ReadAnswer.TheVariants as came
use Rattle.bank_model.specs.{Events.{Write, Read, Serve, Begin, Iterate, Cut}, Lawful.{Lawful, MayCome}, Timing.{Happens, Core, Regs, KeepCut, TimedEvent, ends}, Told.IsWhole}
use Rattle.bank_laws.{specs.Ticks.ends_action, proofs.Ticks.last_tick-rises}
use Rattle.clock_laws.{specs.Draining.ticks_in, specs.Leads.Leads, specs.State.{ClockState, next_action}, proofs.Draining.{ends-at, no_gap_law}, proofs.Passing.ending_later_law}

-- whether what happens is a row: an arrival, or a power cut that no read made
abbrev pub is_row : {n : ℕ} → Happens n → Bool → Bool
is_row (Core (Write row line bytes given answer)) cancels = true
is_row (Core (Read row line answer)) cancels = true
is_row (Core (Serve answer)) cancels = false
is_row (Core (Begin answer)) cancels = false
is_row (Core (Iterate answer)) cancels = false
is_row (Core (Cut tearing)) cancels = not cancels
is_row (Regs event) cancels = false

-- where an event is a row, it comes no sooner than a tick
abbrev pub IsLateRow : {n m : ℕ} → ℕ → TimedEvent n m → Type 0
IsLateRow tick x = is_row x.happens x.cancels ≡ true → tick ≤ x.tick

pub whole-first : {n m : ℕ} (since xs : List (TimedEvent n m)) → IsWhole (since ++ xs) → IsWhole since
whole-first [] xs whole = tt
whole-first (x ∷ since) xs whole = whole

module _ {n m : ℕ} (shape : BankShape) (pace : Pace) (e : ℕ) where
  -- behind a cancel comes its read, at its tick
  read-behind : (x y : TimedEvent n m) (ys : List (TimedEvent n m)) → Lawful shape pace e (x ∷ y ∷ ys) → IsTrue y.cancels → (x.tick ≡ y.tick) × (is_row x.happens x.cancels ≡ true)
  read-behind x y ys lawful cancels = by x.happens lawful.0
    where
      by : (h : Happens n) → MayCome shape pace e (y ∷ ys) x h → (x.tick ≡ y.tick) × (is_row h x.cancels ≡ true)
      by (Core (Read row line came.Waiting)) may = (may.behind cancels, refl)
      by (Core _) may = absurd (may.behind cancels)
      by (Regs event) may = absurd (cc (may.behind, cancels))

  -- and before it there is none
  whole-before : (y : TimedEvent n m) (ys : List (TimedEvent n m)) → Lawful shape pace e (y ∷ ys) → IsTrue y.cancels → IsWhole ys
  whole-before y [] lawful cancels = tt
  whole-before y (z ∷ zs) lawful cancels = by y.happens lawful.0
    where
      by : (h : Happens n) → MayCome shape pace e (z ∷ zs) y h → IsFalse z.cancels
      by (Core (Cut tearing)) may = false_from_ne_true z.cancels (λ is. may.behind is)
      by (Core _) may = absurd (cc (may.on_time.1, cancels))
      by (Regs event) may = may.behind

module _ {n m e : ℕ} (xs : List (TimedEvent n m)) (clock : ClockState n m e) (array : ArrayState n m) (read : 1 ≤ clock.pace.read) (iter : 1 ≤ clock.pace.iter) (leads : Leads xs clock array) where
  -- an action that ends behind it ends later
  ends-later : (x : TimedEvent n m) → Lawful clock.bank.kept.shape clock.pace e (x ∷ xs) → IsTrue (ends_action x.happens) → clock.tick < x.tick
  ends-later x lawful is =
      by (next_action clock) refl (no_gap_law n m e x [] xs clock array read iter leads lawful quiet) (ending_later_law n m e clock read iter leads.told.to_come)
    where
      quiet : All (λ (y : TimedEvent n m). IsTrue (ends_action y.happens)) (x ∷ [])
      quiet = All-cons (λ (y : TimedEvent n m). IsTrue (ends_action y.happens)) x [] is (All-nil (λ (y : TimedEvent n m). IsTrue (ends_action y.happens)))

      by : (a : Option Action) → next_action clock ≡ a → IsSomeAnd a (λ a. x.tick ≡ a.first + ticks_in clock.pace (x ∷ [])) → IfSome a (λ a. clock.tick < ends clock.pace a)
          → clock.tick < x.tick
      by None next some later = absurd some
      by (Some action) next some later =
          let at : x.tick ≡ ends clock.pace action = ends-at xs clock array read iter leads x action lawful is next in
          omega (arith, at, later)

  -- the next event comes no sooner, where it is no cancel
  next-from : (x : TimedEvent n m) → Lawful clock.bank.kept.shape clock.pace e (x ∷ xs) → IsFalse x.cancels → IsLateRow clock.tick x → clock.tick ≤ x.tick
  next-from x lawful kept row = by x.happens lawful.0 row (λ is. ends-later x lawful is)
    where
      by : (h : Happens n) → MayCome clock.bank.kept.shape clock.pace e xs x h → (is_row h x.cancels ≡ true → clock.tick ≤ x.tick) → (IsTrue (ends_action h) → clock.tick < x.tick)
          → clock.tick ≤ x.tick
      by (Core (Write row line bytes given answer)) may comes ends = comes refl
      by (Core (Read row line answer)) may comes ends = comes refl
      by (Core (Cut tearing)) may comes ends = comes (ap not kept)
      by (Regs (KeepCut tearing)) may comes ends = absurd (cc (may.on_time.2, kept))
      by _ may comes ends = let later : clock.tick < x.tick = ends refl in omega (arith, later)

  abbrev Row : TimedEvent n m → Type 0
  Row x = IsLateRow clock.tick x

  abbrev From : TimedEvent n m → Type 0
  From x = clock.tick ≤ x.tick

  -- nor does any behind it
  pub all-from : (since : List (TimedEvent n m)) → Lawful clock.bank.kept.shape clock.pace e (since ++ xs) → IsWhole since → All Row since → All From since
  all-from [] lawful whole rows = All-nil From
  all-from (x ∷ []) lawful whole rows = All-cons From x [] (next-from x lawful whole (All-head Row x [] rows)) (All-nil From)
  all-from (x ∷ y ∷ since) lawful whole rows =
      by y.cancels refl (λ kept. all-from (y ∷ since) lawful.1 kept (All-tail Row x (y ∷ since) rows))
      (λ before. all-from since lawful.1.1 before (All-tail Row y since (All-tail Row x (y ∷ since) rows)))
    where
      by : (b : Bool) → y.cancels ≡ b → (IsFalse y.cancels → All From (y ∷ since)) → (IsWhole since → All From since) → All From (x ∷ y ∷ since)
      by false kept next rest =
          let behind = next kept in
          let rises : y.tick ≤ x.tick = last_tick-rises clock.bank.kept.shape clock.pace e (y ∷ (since ++ xs)) x read iter lawful in
          let first : clock.tick ≤ y.tick = All-head From y since behind in
          All-cons From x (y ∷ since) (omega (arith, first, rises)) behind
      by true cancels next rest =
          let own = read-behind clock.bank.kept.shape clock.pace e x y (since ++ xs) lawful cancels in
          let now : clock.tick ≤ x.tick = All-head Row x (y ∷ since) rows own.1 in
          let before : IsWhole since = whole-first since xs (whole-before clock.bank.kept.shape clock.pace e y (since ++ xs) lawful.1 cancels) in
          All-cons From x (y ∷ since) now (All-cons From y since (omega (arith, now, own.0)) (rest before))

-- A bank to which nothing comes runs on without a gap, and rests with registers that its stores give.
use Rattle.std.proofs.Common.{◌≡◌, ℕ, ◌+◌, ◌<◌, ◌≤◌, nat_lt, Bool, true, false, cond, List, [], ◌∷◌, ◌++◌, Option, Some, None, sym, ap, subst, ◌∙◌, arith, ltb-false}
use Rattle.std.{specs.Prelude.{IsTrue, IfSome, IsSomeAnd, All}, proofs.lemmas.List.Elements.{All-head, All-tail}}
use Rattle.cell_rows.specs.Device.{ArrayState}
use Rattle.bank_shape.specs.{declared.BankShape.BankShape, declared.clock.Action.Action, declared.clock.Doing.Doing, declared.pace.Pace.Pace}
use Rattle.bank_model.specs.{Changes.change_after, History.moved_in, Lawful.{Lawful, MayCome}, Running.{started, left_by, running, running_at, chosen_after}}
use Rattle.bank_model.specs.Timing.{Happens, TimedEvent, ends, core, last_tick}
use Rattle.bank_laws.{specs.Laws.IsSized, specs.Ticks.ends_action, proofs.Ticks.last-below}
use Rattle.place_laws.proofs.Moved.{moved_law}
use Rattle.clock_laws.{specs.Draining.{ticks_of, ticks_in, NoGapLaw, RestingRegistersLaw}, specs.Leads.Leads, specs.State.{ClockState, next_action}, proofs.Leaving.leaving_law}
use Rattle.clock_laws.proofs.{Passing.idle_law, Ties.next-runs}

-- Actions

-- an action that is chosen where none ran begins at the last tick
begun-last : (r : Option Action) (d : Option Doing) (last tick : ℕ) (a : Action) → r ≡ None → started r d last tick ≡ Some a
    → a.first ≡ last
begun-last (Some action) d last tick a none is = absurd (cc)
begun-last None None last tick a none is = absurd (cc)
begun-last None (Some doing) last tick a none is = by (nat_lt last tick) is
  where
    by : (b : Bool) → cond b (Some (record { doing = doing; first = last })) None ≡ Some a → a.first ≡ last
    by true is = let same : record { doing = doing; first = last } ≡ a = cc in ap (λ (a : Action). a.first) (sym same)
    by false is = absurd (cc)

-- an action that runs at a later tick, and ends there, ends behind now
ends-behind : (pace : Pace) (r : Option Action) (d : Option Doing) (last now tick : ℕ) (a : Action) → last ≤ now → last < tick
    → IfSome (started r d last now) (λ a. now < ends pace a) → started r d last tick ≡ Some a → tick ≡ ends pace a → now < tick
ends-behind pace (Some action) d last now tick a before later to_come is at =
    let same : action ≡ a = cc in
    let below : now < ends pace a = subst (λ (a : Action). now < ends pace a) same to_come in
    omega (arith, below, at)
ends-behind pace None None last now tick a before later to_come is at = absurd (cc)
ends-behind pace None (Some doing) last now tick a before later to_come is at = by (nat_lt last now) (ltb-false last now) to_come (nat_lt last tick) is
  where
    begun : Action
    begun = record { doing = doing; first = last }

    by : (b : Bool) → (b ≡ false → now ≤ last) → IfSome (cond b (Some begun) None) (λ a. now < ends pace a) → (c : Bool)
        → cond c (Some begun) None ≡ Some a → now < tick
    by b none to_come c is = grind arith

module _ {n m : ℕ} (shape : BankShape) (pace : Pace) (e : ℕ) where
  -- an event that ends an action: that action ran until its tick, and lasted so long
  record IsAnEnd (xs : List (TimedEvent n m)) (x : TimedEvent n m) (ticks : ℕ) : Type 0 where
    doing : Doing
    runs : running_at shape pace xs x.tick ≡ Some (record { doing = doing; first = x.first })
    at : x.tick ≡ ends pace (record { doing = doing; first = x.first })
    long : x.tick ≡ x.first + ticks

  an-end : (xs : List (TimedEvent n m)) (x : TimedEvent n m) (h : Happens n) → MayCome shape pace e xs x h → IsTrue (ends_action h)
      → IsAnEnd xs x (ticks_of pace h)
  an-end xs x h may is = grind arith

  -- no action runs behind it
  none-runs : (y : TimedEvent n m) (ys : List (TimedEvent n m)) (h : Happens n) → IsTrue (ends_action h)
      → left_by shape (core ys) (change_after shape ys) h (running_at shape pace ys y.tick) ≡ None
  none-runs y ys h is = grind arith

  -- the next one begins at its tick
  next-begun : (y : TimedEvent n m) (ys : List (TimedEvent n m)) (x : TimedEvent n m) (ticks : ℕ) → IsTrue (ends_action y.happens)
      → IsAnEnd (y ∷ ys) x ticks → x.first ≡ y.tick
  next-begun y ys x ticks is end =
      begun-last (running shape pace (y ∷ ys)) (chosen_after shape pace (y ∷ ys)) y.tick x.tick (record { doing = end.doing; first = x.first }) (none-runs y ys y.happens is) end.runs

some-same : (a b : Action) → Some a ≡ Some b → a ≡ b
some-same a b is = cc

-- so many ticks more
more-ticks : (a : Option Action) (tick next ticks more : ℕ) → next ≡ tick + more → IsSomeAnd a (λ a. tick ≡ a.first + ticks)
    → IsSomeAnd a (λ a. next ≡ a.first + (more + ticks))
more-ticks None tick next ticks more is some = some
more-ticks (Some a) tick next ticks more is some = omega (arith, is, some)

module _ {n m e : ℕ} (xs : List (TimedEvent n m)) (clock : ClockState n m e) (array : ArrayState n m) (read : 1 ≤ clock.pace.read) (iter : 1 ≤ clock.pace.iter) (leads : Leads xs clock array) where
  -- the next event that ends an action ends the one that runs from now on
  next-ends : (x : TimedEvent n m) → Lawful clock.bank.kept.shape clock.pace e (x ∷ xs) → IsTrue (ends_action x.happens)
      → (end : IsAnEnd clock.bank.kept.shape clock.pace e xs x (ticks_of clock.pace x.happens)) × (next_action clock ≡ Some (record { doing = end.doing; first = x.first }))
  next-ends x lawful is =
      let end : IsAnEnd clock.bank.kept.shape clock.pace e xs x (ticks_of clock.pace x.happens) =
      an-end clock.bank.kept.shape clock.pace e xs x x.happens lawful.0 is in
      let below : last_tick xs < x.tick = last-below clock.bank.kept.shape clock.pace e xs x read iter lawful is in
      let to_come : IfSome (running_at clock.bank.kept.shape clock.pace xs clock.tick) (λ a. clock.tick < ends clock.pace a) =
      subst (λ (a : Option Action). IfSome a (λ a. clock.tick < ends clock.pace a)) leads.told.runs leads.told.to_come in
      let later : clock.tick < x.tick =
      ends-behind clock.pace (running clock.bank.kept.shape clock.pace xs) (chosen_after clock.bank.kept.shape clock.pace xs) (last_tick xs) clock.tick x.tick
      (record { doing = end.doing; first = x.first }) leads.told.now below to_come end.runs end.at in
      (end, next-runs xs clock array leads x.tick later ∙ end.runs)

  -- it comes as that ends
  pub ends-at : (x : TimedEvent n m) (action : Action) → Lawful clock.bank.kept.shape clock.pace e (x ∷ xs) → IsTrue (ends_action x.happens)
      → next_action clock ≡ Some action
      → x.tick ≡ ends clock.pace action
  ends-at x action lawful is next =
      let found = next-ends x lawful is in
      let same : record { doing = found.0.doing; first = x.first } ≡ action = some-same _ _ (sym found.1 ∙ next) in
      found.0.at ∙ ap (λ (a : Action). ends clock.pace a) same

  no-gap : (x : TimedEvent n m) (added : List (TimedEvent n m)) → Lawful clock.bank.kept.shape clock.pace e (x ∷ (added ++ xs))
      → All (λ y. IsTrue (ends_action y.happens)) (x ∷ added)
      → IsSomeAnd (next_action clock) (λ a. x.tick ≡ a.first + ticks_in clock.pace (x ∷ added))
  no-gap x [] lawful quiet =
      let found = next-ends x lawful (All-head (λ y. IsTrue (ends_action y.happens)) x [] quiet) in
      subst (λ (a : Option Action). IsSomeAnd a (λ a. x.tick ≡ a.first + (ticks_of clock.pace x.happens + 0))) (sym found.1) (omega (arith, found.0.long))
  no-gap x (y ∷ ys) lawful quiet =
      let is : IsTrue (ends_action x.happens) = All-head (λ y. IsTrue (ends_action y.happens)) x (y ∷ ys) quiet in
      let rest : All (λ y. IsTrue (ends_action y.happens)) (y ∷ ys) = All-tail (λ y. IsTrue (ends_action y.happens)) x (y ∷ ys) quiet in
      let end : IsAnEnd clock.bank.kept.shape clock.pace e (y ∷ (ys ++ xs)) x (ticks_of clock.pace x.happens) =
      an-end clock.bank.kept.shape clock.pace e (y ∷ (ys ++ xs)) x x.happens lawful.0 is in
      let begun : x.first ≡ y.tick =
      next-begun clock.bank.kept.shape clock.pace e y (ys ++ xs) x (ticks_of clock.pace x.happens) (All-head (λ y. IsTrue (ends_action y.happens)) y ys rest) end in
      more-ticks (next_action clock) y.tick x.tick (ticks_in clock.pace (y ∷ ys)) (ticks_of clock.pace x.happens) (omega (arith, end.long, begun)) (no-gap y ys lawful.1 rest)

pub no_gap_law : NoGapLaw
no_gap_law n m e x added xs clock array read iter leads lawful quiet = no-gap xs clock array read iter leads x added lawful quiet

-- Registers

pub resting_registers_law : RestingRegistersLaw
resting_registers_law n m e region xs clock array read iter leads none exists =
    let range = leads.holds.kept.shape in
    let sized : IsSized clock.bank.kept.shape clock.pace =
    record { regions = range.some_regions; lines = range.some_lines; writes = range.some_writes; reads = range.some_reads; psi = range.some_psi; read = read; iter = iter } in (
      moved_in clock.bank.kept.shape.lines (core xs) region,
      (leads.holds.regions region exists).registers,
      moved_law false n m e clock.bank.kept.shape clock.pace xs array region sized leads.lawful (idle_law n m e xs clock array leads none) (leaving_law n m e xs clock array leads),
    )

-- The ticks of a lawful history never fall, and an action ends above every earlier event.
use Rattle.std.proofs.Common.{◌≡◌, ℕ, ◌<◌, ◌≤◌, Bool, true, false, List, [], ◌∷◌, Option, Some, None, subst, arith, cond}
use Rattle.std.{specs.Prelude.{IsTrue, IfSome, All, nat_lt}, proofs.lemmas.List.Elements.{All-nil, All-cons, All-weaker}}
use Rattle.bank_shape.specs.{Acting.lasts, declared.BankShape.BankShape, declared.clock.Action.Action, declared.clock.Doing.Doing}
use Rattle.bank_shape.specs.{declared.clock.Doing.TheVariants.{Serving, Beginning, Iterating}, declared.pace.Pace.Pace}
use Rattle.bank_shape.specs.declared.answer.ReadAnswer.TheVariants as came
use Rattle.bank_model.specs.{Changes.change_after, Events.{Write, Read, Serve, Begin, Iterate}, Lawful.{Lawful, MayCome}}
use Rattle.bank_model.specs.Running.{drops_begin, started, left_by, running, running_at, chosen_after}
use Rattle.bank_model.specs.Timing.{Happens, Core, Regs, KeepBegin, KeepIterate, TimedEvent, ends, core, last_tick}
use Rattle.bank_laws.specs.Ticks.{ends_action, TickLaw}

pub lasts_some : (read iter : ℕ) (doing : Doing) → 1 ≤ read → 1 ≤ iter → 1 ≤ lasts read iter doing
lasts_some read iter doing r i = grind arith

-- an action that is chosen at a tick ends above it
started-above : (pace : Pace) (r : Option Action) (d : Option Doing) (last tick : ℕ) (a : Action) → 1 ≤ pace.read → 1 ≤ pace.iter
    → IfSome r (λ a. last < ends pace a) → started r d last tick ≡ Some a → last < ends pace a
started-above pace (Some action) d last tick a r i above e = let same : action ≡ a = cc in subst (λ a. last < ends pace a) same above
started-above pace None None last tick a r i above e = absurd (cc)
started-above pace None (Some doing) last tick a r i above e = by (nat_lt last tick) e
  where
    by : (b : Bool) → cond b (Some (record { doing = doing; first = last })) None ≡ Some a → last < ends pace a
    by true e =
        let same : record { doing = doing; first = last } ≡ a = cc in
        let some : 1 ≤ lasts pace.read pace.iter doing = lasts_some pace.read pace.iter doing r i in
        let P : Action → Type 0 = λ a. last < ends pace a in
        subst P same (omega (arith, some))
    by false e = absurd (cc)

module _ {n m : ℕ} (shape : BankShape) (pace : Pace) (e : ℕ) where
  -- what runs after an event ends above it
  running-above : (xs : List (TimedEvent n m)) → Lawful shape pace e xs → IfSome (running shape pace xs) (λ a. last_tick xs < ends pace a)
  running-above [] l = tt
  running-above (x ∷ xs) l = by x.happens l.0
    where
      left : (b : Bool) (action : Option Action) → IfSome action (λ a. x.tick < ends pace a) → IfSome (cond b None action) (λ a. x.tick < ends pace a)
      left b action h = grind arith

      by : (h : Happens n) → MayCome shape pace e xs x h → IfSome (left_by shape (core xs) (change_after shape xs) h (running_at shape pace xs x.tick)) (λ a. x.tick < ends pace a)
      by (Core (Write row line bytes given answer)) may = may.on_time.0.2
      by (Core (Read row line came.Waiting)) may = left (drops_begin shape (core xs) (change_after shape xs) line (running_at shape pace xs x.tick)) _ may.on_time.0.2
      by (Core (Read row line _)) may = may.on_time.0.2
      by _ may = tt

  -- the action that ends at an event ends above the last one
  ends-after : (xs : List (TimedEvent n m)) (x : TimedEvent n m) (doing : Doing) → 1 ≤ pace.read → 1 ≤ pace.iter → Lawful shape pace e xs
      → running_at shape pace xs x.tick ≡ Some (record { doing = doing; first = x.first }) → x.tick ≡ ends pace (record { doing = doing; first = x.first })
      → last_tick xs < x.tick
  ends-after xs x doing r i l runs at =
      let above : last_tick xs < ends pace (record { doing = doing; first = x.first }) =
      started-above pace (running shape pace xs) (chosen_after shape pace xs) (last_tick xs) x.tick (record { doing = doing; first = x.first }) r i (running-above xs l) runs in
      omega (arith, above, at)

  pub last-below : (xs : List (TimedEvent n m)) (x : TimedEvent n m) → 1 ≤ pace.read → 1 ≤ pace.iter → Lawful shape pace e (x ∷ xs)
      → IsTrue (ends_action x.happens) → last_tick xs < x.tick
  last-below xs x r i l = by x.happens l.0
    where
      by : (h : Happens n) → MayCome shape pace e xs x h → IsTrue (ends_action h) → last_tick xs < x.tick
      by (Core (Serve answer)) may is = ends-after xs x Serving r i l.1 may.on_time.0.0 may.on_time.0.1
      by (Core (Begin answer)) may is = ends-after xs x Beginning r i l.1 may.on_time.0.0 may.on_time.0.1
      by (Core (Iterate answer)) may is = ends-after xs x Iterating r i l.1 may.on_time.0.0 may.on_time.0.1
      by (Regs (KeepBegin answer)) may is = ends-after xs x Beginning r i l.1 may.on_time.0.0 may.on_time.0.1
      by (Regs (KeepIterate answer)) may is = ends-after xs x Iterating r i l.1 may.on_time.0.0 may.on_time.0.1
      by _ may is = absurd (cc)

  pub last_tick-rises : (xs : List (TimedEvent n m)) (x : TimedEvent n m) → 1 ≤ pace.read → 1 ≤ pace.iter → Lawful shape pace e (x ∷ xs) → last_tick xs ≤ x.tick
  last_tick-rises xs x r i l = by x.happens l.0
    where
      by : (h : Happens n) → MayCome shape pace e xs x h → last_tick xs ≤ x.tick
      by (Core (Serve answer)) may = let lt : last_tick xs < x.tick = ends-after xs x Serving r i l.1 may.on_time.0.0 may.on_time.0.1 in omega arith
      by (Core (Begin answer)) may = let lt : last_tick xs < x.tick = ends-after xs x Beginning r i l.1 may.on_time.0.0 may.on_time.0.1 in omega arith
      by (Core (Iterate answer)) may = let lt : last_tick xs < x.tick = ends-after xs x Iterating r i l.1 may.on_time.0.0 may.on_time.0.1 in omega arith
      by (Regs (KeepBegin answer)) may = let lt : last_tick xs < x.tick = ends-after xs x Beginning r i l.1 may.on_time.0.0 may.on_time.0.1 in omega arith
      by (Regs (KeepIterate answer)) may = let lt : last_tick xs < x.tick = ends-after xs x Iterating r i l.1 may.on_time.0.0 may.on_time.0.1 in omega arith
      by _ may = may.on_time.0.1

  -- no event is above the last
  pub ticks-up_to : (xs : List (TimedEvent n m)) → 1 ≤ pace.read → 1 ≤ pace.iter → Lawful shape pace e xs → All (λ y. y.tick ≤ last_tick xs) xs
  ticks-up_to [] r i l = All-nil (λ y. y.tick ≤ 0)
  ticks-up_to (x ∷ xs) r i l =
      let rises : last_tick xs ≤ x.tick = last_tick-rises xs x r i l in
      All-cons (λ y. y.tick ≤ x.tick) x xs (omega arith)
      (All-weaker (λ y. y.tick ≤ last_tick xs) (λ y. y.tick ≤ x.tick) (λ y h. omega (arith, h, rises)) xs (ticks-up_to xs r i l.1))

pub tick_law : TickLaw
tick_law n m e shape pace x xs r i l = record {
  not_before =
      let rises : last_tick xs ≤ x.tick = last_tick-rises shape pace e xs x r i l in
      All-weaker (λ y. y.tick ≤ last_tick xs) (λ y. y.tick ≤ x.tick) (λ y h. omega (arith, h, rises)) xs (ticks-up_to shape pace e xs r i l.1);
  ends_above = λ is.
      let below : last_tick xs < x.tick = last-below shape pace e xs x r i l is in
      All-weaker (λ y. y.tick ≤ last_tick xs) (λ y. y.tick < x.tick) (λ y h. omega (arith, h, below)) xs (ticks-up_to shape pace e xs r i l.1);
}

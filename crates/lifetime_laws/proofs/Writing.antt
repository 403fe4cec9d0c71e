-- The pulses of one array line, by the line writes that end on it.
use Rattle.std.proofs.Common.{◌≡◌, ℕ, ◌+◌, ◌*◌, ◌<◌, ◌≤◌, ◌==◌, ◌&&◌, not, Bool, true, false, List, [], ◌∷◌, Option, None, refl, ap, subst, arith, cond}
use Rattle.cell_rows.specs.Device.{counted}
use Rattle.bank_shape.specs.{Shape.controls_from, declared.BankShape.BankShape, declared.pace.Pace.Pace}
use Rattle.bank_model.specs.{After.target_after, Changes.change_after, Events.{BankEvent, Begin, Iterate, Cut}, History.{goes_on, in_progress, iterated}, Lawful.{Lawful, MayCome}}
use Rattle.bank_model.specs.{Running.running_at, Sensing.{is_at, most_steps, pulses_of, pulsed_by, torn_control}, Timing.{Happens, Core, Regs, TimedEvent, core, core_of}}
use Rattle.bank_model.specs.Works.{works_on, held_on}
use Rattle.bank_laws.proofs.{Targets.{WorkAfter, spares_work, working, target-same}, Waiting.may_all}
use Rattle.bank_laws.proofs.Works.{counted-few, more-goes_on, tearing-going, zeros, kept-elsewhere, torn-elsewhere, idle-held, busy-held, held-same, going-held}
use Rattle.place_laws.proofs.Pulsing.{begins-idle}
use Rattle.lifetime_laws.specs.Works.{PulsesOnLaw}
use Rattle.masked_bytes.proofs.Counting.{one_if}

-- one more pulse, where the line is the one that was pulsed
pulse-more : (b : Bool) (k : ℕ) → cond b (counted k) k ≤ k + one_if b
pulse-more true k = counted-few k
pulse-more false k = omega arith

-- the pulses of a line after an event that pulses this line or none
pub pulsed-more : {n m : ℕ} (x : TimedEvent n m) (xs : List (TimedEvent n m)) (at : ℕ) (o : Option ℕ)
    → x.pulsed ≡ o
    → pulses_of (x ∷ xs) at ≤ pulses_of xs at + one_if (is_at o at)
pulsed-more x xs at o is =
    subst (λ o. pulses_of (x ∷ xs) at ≤ pulses_of xs at + one_if (is_at o at)) is
    (pulse-more (is_at x.pulsed at) (pulses_of xs at))

next-work : (w works : ℕ) → w * (1 + works) ≡ w * works + w
next-work w works = omega arith

-- what a line write in progress has had: at most w with the next
abbrev pub Room : {n : ℕ} → ℕ → List (BankEvent n) → Type 0
Room w h = in_progress h ≡ true → iterated h + 1 ≤ w

-- the steps of one event, over plain numbers. `going` says that the line write goes on, `here` that it is one of this array line
module _ (w works pulses new : ℕ) where
  begin-step : (going here : Bool) → pulses ≤ w * works + 0 → new ≤ pulses + 0 → new ≤ w * (one_if (not going && here) + works) + cond (going && here) 0 0
  begin-step true true few more = let same : w * (0 + works) ≡ w * works = omega arith in omega (arith, few, more, same)
  begin-step false true few more = omega (arith, few, more, next-work w works)
  begin-step _ _ few more = let same : w * (0 + works) ≡ w * works = omega arith in omega (arith, few, more, same)

  iterate-step : (going here : Bool) (k : ℕ) → pulses ≤ w * works + cond here k 0 → new ≤ pulses + one_if here → k < w
      → new ≤ w * (one_if (not going && here) + works) + cond (going && here) (k + 1) 0
  iterate-step true true k few more lt = let same : w * (0 + works) ≡ w * works = omega arith in omega (arith, few, more, same)
  iterate-step false true k few more lt = omega (arith, few, more, next-work w works, lt)
  iterate-step _ _ k few more lt = let same : w * (0 + works) ≡ w * works = omega arith in omega (arith, few, more, same)

  cut-step : (busy tearing here : Bool) (k : ℕ) → pulses ≤ w * works + cond (busy && here) k 0 → new ≤ pulses + one_if (tearing && here) → (busy ≡ true → k + 1 ≤ w) → (tearing ≡ true → busy ≡ true)
      → new ≤ w * (one_if (busy && here) + works) + 0
  cut-step true true true k few more room tears = omega (arith, few, more, next-work w works, room refl)
  cut-step true false true k few more room tears = omega (arith, few, more, next-work w works, room refl)
  cut-step false true here k few more room tears = absurd (cc (tears refl))
  cut-step false false true k few more room tears = let same : w * (0 + works) ≡ w * works = omega arith in omega (arith, few, more, same)
  cut-step _ _ _ k few more room tears = let same : w * (0 + works) ≡ w * works = omega arith in omega (arith, few, more, same)

module _ {n m : ℕ} (shape : BankShape) (pace : Pace) (e at : ℕ) (low : at < controls_from shape) where
  abbrev Few : List (TimedEvent n m) → Type 0
  Few xs = pulses_of xs at ≤ most_steps e * works_on shape at (core xs) + held_on shape at (core xs)

  room : (xs : List (TimedEvent n m)) → Lawful shape pace e xs → Room (most_steps e) (core xs)
  room [] l = λ is. absurd (cc (is))
  room (x ∷ xs) l = by x.happens l.0 (room xs l.1)
    where
      by : (h : Happens n) → MayCome shape pace e xs x h → Room (most_steps e) (core xs) → Room (most_steps e) (core_of h (core xs))
      by (Core (Begin answer)) may r = λ is. omega arith
      by (Core (Iterate answer)) may r = λ is. omega (arith, may.may.3 (more-goes_on answer is))
      by (Core (Cut tearing)) may r = λ is. absurd (cc (is))
      by _ may r = r

  pub pulses-few : (xs : List (TimedEvent n m)) → Lawful shape pace e xs → Few xs
  pulses-few [] l = omega arith
  pulses-few (x ∷ xs) l = by x.happens l.0 (pulses-few xs l.1)
    where
      w : ℕ
      w = most_steps e

      works : ℕ
      works = works_on shape at (core xs)

      quiet : (event : BankEvent n) → spares_work event ≡ true → x.pulsed ≡ None → in_progress (event ∷ core xs) ≡ in_progress (core xs) → iterated (event ∷ core xs) ≡ iterated (core xs)
          → works_on shape at (event ∷ core xs) ≡ works → Few xs → pulses_of (x ∷ xs) at ≤ w * works_on shape at (event ∷ core xs) + held_on shape at (event ∷ core xs)
      quiet event spares none busy count same few =
          let form : w * works_on shape at (event ∷ core xs) ≡ w * works = ap (λ k. w * k) same in
          omega (
            arith,
            few,
            pulsed-more x xs at None none,
            form,
            held-same shape at (core xs) (most_steps e) event (may_all shape pace e xs l.1) spares busy count,
          )

      by : (h : Happens n) → MayCome shape pace e xs x h → Few xs → pulses_of (x ∷ xs) at ≤ w * works_on shape at (core_of h (core xs)) + held_on shape at (core_of h (core xs))
      by (Core (Begin answer)) may few =
          let idle : in_progress (core xs) ≡ false = begins-idle shape (core xs) may.may.0 in
          let step : pulses_of (x ∷ xs) at ≤ w * (one_if (not (goes_on answer) && (target_after shape (core xs) == at)) + works) + cond (goes_on answer && (target_after shape (core xs) == at)) 0 0 =
          begin-step w works (pulses_of xs at) (pulses_of (x ∷ xs) at) (goes_on answer)
          (target_after shape (core xs) == at) (omega (arith, few, idle-held shape at (core xs) idle))
          (pulsed-more x xs at None may.pulsed) in
          let none : ◌≡◌ {A = ℕ} (cond (goes_on answer && (target_after shape (Begin answer ∷ core xs) == at)) 0 0) (cond (goes_on answer && (target_after shape (core xs) == at)) 0 0) =
          zeros (goes_on answer && (target_after shape (Begin answer ∷ core xs) == at)) (goes_on answer && (target_after shape (core xs) == at)) in
          omega (arith, step, none)
      by (Core (Iterate answer)) may few =
          let busy : in_progress (core xs) ≡ true = may.may.0 in
          let step : pulses_of (x ∷ xs) at ≤ w * (one_if (not (goes_on answer) && (target_after shape (core xs) == at)) + works) + cond (goes_on answer && (target_after shape (core xs) == at)) (iterated (core xs) + 1) 0 =
          iterate-step w works (pulses_of xs at) (pulses_of (x ∷ xs) at) (goes_on answer)
          (target_after shape (core xs) == at) (iterated (core xs))
          (omega (arith, few, busy-held shape at (core xs) busy))
          (pulsed-more x xs at _ may.pulsed) may.may.2 in
          let work : WorkAfter shape (core xs) = working shape (most_steps e) (core xs) (may_all shape pace e xs l.1) busy in
          let held : cond (goes_on answer && (target_after shape (Iterate answer ∷ core xs) == at)) (iterated (core xs) + 1) 0 ≡ cond (goes_on answer && (target_after shape (core xs) == at)) (iterated (core xs) + 1) 0 =
          going-held shape at (core xs) (Iterate answer) answer (iterated (core xs) + 1) (λ goes. (target-same shape (Iterate answer) (core xs) goes work).1) in
          omega (arith, step, held)
      by (Core (Cut tearing)) may few =
          cut-step w works (pulses_of xs at) (pulses_of (x ∷ xs) at) (in_progress (core xs)) tearing (target_after shape (core xs) == at) (iterated (core xs)) few (torn tearing may.pulsed) (room xs l.1) (tearing-going tearing (in_progress (core xs)) may.may)
        where
          control : Option ℕ
          control = torn_control shape (change_after shape xs) (running_at shape pace xs x.tick)

          torn : (b : Bool) → x.pulsed ≡ pulsed_by shape (core xs) control (Cut b) → pulses_of (x ∷ xs) at ≤ pulses_of xs at + one_if (b && (target_after shape (core xs) == at))
          torn true is = pulsed-more x xs at _ is
          torn false is =
              omega (
                arith,
                pulsed-more x xs at control is,
                ap one_if (torn-elsewhere shape at low (change_after shape xs)
                    (running_at shape pace xs x.tick)),
              )
      by (Core event) may few = quiet event refl may.pulsed refl refl refl few
      by (Regs event) may few =
          omega (
            arith,
            few,
            pulsed-more x xs at _ may.pulsed,
            ap one_if (kept-elsewhere shape at low (change_after shape xs) event),
          )

pub pulses_on_law : PulsesOnLaw
pulses_on_law n m e shape pace xs at l low = pulses-few shape pace e at low xs l

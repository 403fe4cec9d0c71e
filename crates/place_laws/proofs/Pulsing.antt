-- One event pulses one line or none, and a line write takes no more pulses than it may.
use Rattle.std.proofs.Common.{◌≡◌, ℕ, zero, suc, ◌+◌, ◌*◌, ◌<◌, ◌≤◌, ◌==◌, ◌⊎◌, inl, inr, sym, not, Bool, true, false, List, [], ◌∷◌, Option, Some, None, refl, ap, ◌∙◌, subst, arith, cond}
use Rattle.std.{specs.Prelude.is_some, proofs.lemmas.Bool.not-true}
use Rattle.cell_rows.specs.Device.{counted}
use Rattle.bank_shape.specs.{declared.BankShape.BankShape, declared.answer.Keep.Keep, declared.answer.Step.Step, declared.clock.Action.Action, declared.pace.Pace.Pace}
use Rattle.bank_shape.specs.declared.answer.Step.TheVariants as did
use Rattle.bank_shape.specs.declared.clock.Doing.TheVariants as doing
use Rattle.bank_shape.specs.declared.answer.Keep.TheVariants as keep
use Rattle.bank_model.specs.{After.may_begin_after, Changes.{change_after, change_by, keeping_after, keeping_by, rounds_after, rounds_by, keeps_on, written_by, line_of_change}}
use Rattle.bank_model.specs.{Events.{BankEvent, Write, Read, Serve, Begin, Iterate, Cut}, History.{goes_on, in_progress, iterated}, Lawful.{Lawful, MayCome}}
use Rattle.bank_model.specs.{Running.{busy_by, made_by, busy_after, made_after, running_at, tears_bank}, Sensing.{is_at, most_steps, pulses_of, pulsed_by, torn_control}}
use Rattle.bank_model.specs.Timing.{Happens, Core, Regs, KeepBegin, KeepIterate, KeepCut, TimedEvent, is_doing, core, core_of}
use Rattle.right_runs.specs.KeepsPlaces.{pulses_among}
use Rattle.bank_laws.proofs.{Changing.{busy-none, busy-some, made-none, made-some, changed-idle}, Works.{counted-few, tearing-going}}
use Rattle.masked_bytes.proofs.{Counting.one_if, Truth.and_first}
use Rattle.place_laws.proofs.{Moves.next_product, Owners.{once, once-few}}

-- one, where a line was pulsed
abbrev pub pulse_of : Option ℕ → ℕ
pulse_of None = 0
pulse_of (Some line) = 1

pulsed-none : (f : ℕ → ℕ) (from n : ℕ) → pulses_among (λ line. cond (is_at None line) (counted (f line)) (f line)) from n ≤ pulses_among f from n
pulsed-none f from zero = omega arith
pulsed-none f from (suc n) = omega (arith, pulsed-none f (from + 1) n)

pulsed-some : (f : ℕ → ℕ) (at from n : ℕ) → pulses_among (λ line. cond (at == line) (counted (f line)) (f line)) from n ≤ pulses_among f from n + once at from n
pulsed-some f at from zero = omega arith
pulsed-some f at from (suc n) = by (at == from) (pulsed-some f at (from + 1) n)
  where
    by : (b : Bool) → pulses_among (λ line. cond (at == line) (counted (f line)) (f line)) (from + 1) n ≤ pulses_among f (from + 1) n + once at (from + 1) n
        → cond b (counted (f from)) (f from) + pulses_among (λ line. cond (at == line) (counted (f line)) (f line)) (from + 1) n ≤ f from + pulses_among f (from + 1) n + (one_if b + once at (from + 1) n)
    by true ih = omega (arith, ih, counted-few (f from))
    by false ih = omega (arith, ih)

-- an event adds at most one pulse to those of any lines
pub pulsed-once : (f : ℕ → ℕ) (o : Option ℕ) (from n : ℕ) → pulses_among (λ line. cond (is_at o line) (counted (f line)) (f line)) from n ≤ pulses_among f from n + pulse_of o
pulsed-once f None from n = omega (arith, pulsed-none f from n)
pulsed-once f (Some at) from n = omega (arith, pulsed-some f at from n, once-few at from n)

-- whether an event ends a line write, but for a cut that a read made; and whether it is such a cut
abbrev pub ends_work : {n : ℕ} → Happens n → Bool → Bool
ends_work (Core (Begin answer)) cancels = not (goes_on answer)
ends_work (Core (Iterate answer)) cancels = not (goes_on answer)
ends_work (Core (Cut tearing)) cancels = not cancels
ends_work (Core (Write row line bytes given answer)) cancels = false
ends_work (Core (Read row line answer)) cancels = false
ends_work (Core (Serve answer)) cancels = false
ends_work (Regs (KeepBegin answer)) cancels = not (keeps_on answer)
ends_work (Regs (KeepIterate answer)) cancels = not (keeps_on answer)
ends_work (Regs (KeepCut tearing)) cancels = false

abbrev pub cancels_work : {n : ℕ} → Happens n → Bool → Bool
cancels_work (Core (Begin answer)) cancels = false
cancels_work (Core (Iterate answer)) cancels = false
cancels_work (Core (Cut tearing)) cancels = cancels
cancels_work (Core (Write row line bytes given answer)) cancels = false
cancels_work (Core (Read row line answer)) cancels = false
cancels_work (Core (Serve answer)) cancels = false
cancels_work (Regs (KeepBegin answer)) cancels = false
cancels_work (Regs (KeepIterate answer)) cancels = false
cancels_work (Regs (KeepCut tearing)) cancels = true

-- how many there were of each
abbrev pub ends_in : {n m : ℕ} → List (TimedEvent n m) → ℕ
ends_in [] = 0
ends_in (x ∷ xs) = one_if (ends_work x.happens x.cancels) + ends_in xs

abbrev pub cancels_in : {n m : ℕ} → List (TimedEvent n m) → ℕ
cancels_in [] = 0
cancels_in (x ∷ xs) = one_if (cancels_work x.happens x.cancels) + cancels_in xs

-- how many iterations the line write in progress has had, by whether one is
abbrev pub held_by : Bool → ℕ → ℕ
held_by busy made = cond busy made 0

-- a begin finds no line write in progress
pub begins-idle : {n : ℕ} (shape : BankShape) (h : List (BankEvent n)) → may_begin_after shape h ≡ true → in_progress h ≡ false
begins-idle shape h may = not-true (in_progress h) (and_first (not (in_progress h)) _ may)

pub held-idle : (busy : Bool) (made : ℕ) → busy ≡ false → held_by busy made ≡ 0
held-idle busy made is = grind arith

held-going : (busy : Bool) (made : ℕ) → busy ≡ true → held_by busy made ≡ made
held-going busy made is = grind arith

-- what a line write in progress may still have
going_room : (busy : Bool) (k w : ℕ) → (busy ≡ true → k + 1 ≤ w) → cond busy k 0 ≤ w
going_room true k w room = omega (arith, room refl)
going_room false k w room = omega arith

more_ends : (w ends cancels : ℕ) → w * (1 + ends + (0 + cancels)) ≡ w * (ends + cancels) + w
more_ends w ends cancels = ap (λ k. w * k) (omega arith) ∙ next_product w (ends + cancels)

more_cancels : (w ends cancels : ℕ) → w * (0 + ends + (1 + cancels)) ≡ w * (ends + cancels) + w
more_cancels w ends cancels = ap (λ k. w * k) (omega arith) ∙ next_product w (ends + cancels)

no_ends : (w ends cancels : ℕ) → w * (0 + ends + (0 + cancels)) ≡ w * (ends + cancels)
no_ends w ends cancels = ap (λ k. w * k) (omega arith)

-- the pulses so far, where so many line writes ended or were cancelled: each had at most w, and that in progress one for each iteration
pub record KeepsPulses (w : ℕ) (busy : Bool) (made pulses tries : ℕ) : Type 0 where
  pub few : pulses ≤ w * tries + held_by busy made
  pub room : busy ≡ true → made + 1 ≤ w

module _ (w pulses new ends cancels : ℕ) where
  -- a begin that goes on, or ends its line write
  begin_few : (go : Bool) → pulses ≤ w * (ends + cancels) → new ≤ pulses → new ≤ w * (one_if (not go) + ends + (0 + cancels)) + cond go 0 0
  begin_few true few more = omega (arith, few, more, no_ends w ends cancels)
  begin_few false few more = omega (arith, few, more, more_ends w ends cancels)

  -- an iteration
  iterate_few : (go : Bool) (k : ℕ) → pulses ≤ w * (ends + cancels) + k → k < w → new ≤ pulses + 1 → new ≤ w * (one_if (not go) + ends + (0 + cancels)) + cond go (k + 1) 0
  iterate_few true k few lt more = omega (arith, few, more, no_ends w ends cancels)
  iterate_few false k few lt more = omega (arith, few, more, lt, more_ends w ends cancels)

  -- a cut, which may tear
  cut_few : (tearing cuts : Bool) (k : ℕ) → pulses ≤ w * (ends + cancels) + k → (tearing ≡ true → k + 1 ≤ w) → k ≤ w → new ≤ pulses + one_if tearing
      → new ≤ w * (one_if (not cuts) + ends + (one_if cuts + cancels)) + 0
  cut_few true true k few room le more = omega (arith, few, more, room refl, more_cancels w ends cancels)
  cut_few true false k few room le more = omega (arith, few, more, room refl, more_ends w ends cancels)
  cut_few false true k few room le more = omega (arith, few, more, le, more_cancels w ends cancels)
  cut_few false false k few room le more = omega (arith, few, more, le, more_ends w ends cancels)

-- a cut pulses only a line write that is in progress: the bank's, where no change stands, or the change's
torn-busy : (shape : BankShape) (change : Option ℕ) (keeping busy : Bool) (action : Option Action) (tearing : Bool) → (tearing ≡ true → busy ≡ true) → tearing ≡ tears_bank change action
    → (is_some (torn_control shape change action) ≡ true → keeping ≡ true) → {n : ℕ} (h : List (BankEvent n)) → (pulse_of (pulsed_by shape h (torn_control shape change action) (Cut tearing)) ≡ 0)
    ⊎ ((pulse_of (pulsed_by shape h (torn_control shape change action) (Cut tearing)) ≡ 1) × (busy_by change keeping busy ≡ true))
torn-busy shape None keeping busy action true going is torn h = inr (refl, going refl)
torn-busy shape (Some item) keeping busy action true going is torn h = absurd (cc)
torn-busy shape None keeping busy action false going is torn h = by (is_doing doing.Iterating action)
  where
    by : (b : Bool) → (pulse_of (cond b (line_of_change shape None) None) ≡ 0) ⊎ ((pulse_of (cond b (line_of_change shape None) None) ≡ 1) × (busy ≡ true))
    by b = grind arith
torn-busy shape (Some item) keeping busy action false going is torn h = by (is_doing doing.Iterating action) torn
  where
    by : (b : Bool) → (is_some (cond b (line_of_change shape (Some item)) None) ≡ true → keeping ≡ true)
        → (pulse_of (cond b (line_of_change shape (Some item)) None) ≡ 0) ⊎ ((pulse_of (cond b (line_of_change shape (Some item)) None) ≡ 1) × (keeping ≡ true))
    by true torn = inr (refl, torn refl)
    by false torn = inl refl

module _ {n m : ℕ} (shape : BankShape) (pace : Pace) (e from count : ℕ) where
  abbrev pub pulses_in : List (TimedEvent n m) → ℕ
  pulses_in xs = pulses_among (λ line. pulses_of xs line) from count

  abbrev KeepsAt : List (TimedEvent n m) → TimedEvent n m → Happens n → ℕ → ℕ → Type 0
  KeepsAt xs x h pulses tries =
      KeepsPulses (most_steps e) (busy_by (change_by shape (core xs) h (change_after shape xs)) (keeping_by h (keeping_after xs)) (in_progress (core_of h (core xs))))
      (made_by (change_by shape (core xs) h (change_after shape xs)) (rounds_by h (rounds_after xs)) (iterated (core_of h (core xs)))) pulses tries

  -- of a lawful history
  pub pulses-kept : (xs : List (TimedEvent n m)) → Lawful shape pace e xs → KeepsPulses (most_steps e) (busy_after shape xs) (made_after shape xs) (pulses_in xs) (ends_in xs + cancels_in xs)
  pulses-kept [] l = record { few = omega (arith, pulsed-nothing from count); room = λ is. absurd (cc) }
    where
      pulsed-nothing : (from count : ℕ) → pulses_among (λ line. 0) from count ≤ 0
      pulsed-nothing from zero = omega arith
      pulsed-nothing from (suc count) = omega (arith, pulsed-nothing (from + 1) count)
  pulses-kept (x ∷ xs) l = by x.happens x.cancels l.0 (pulses-kept xs l.1) (pulsed-once (λ line. pulses_of xs line) x.pulsed from count)
    where
      w : ℕ
      w = most_steps e

      none : (o : Option ℕ) → x.pulsed ≡ o → pulses_in (x ∷ xs) ≤ pulses_in xs + pulse_of x.pulsed → pulses_in (x ∷ xs) ≤ pulses_in xs + pulse_of o
      none o is more = subst (λ o. pulses_in (x ∷ xs) ≤ pulses_in xs + pulse_of o) is more

      Before : Type 0
      Before = KeepsPulses w (busy_after shape xs) (made_after shape xs) (pulses_in xs) (ends_in xs + cancels_in xs)

      same : Before → pulses_in (x ∷ xs) ≤ pulses_in xs + 0 → KeepsPulses w (busy_after shape xs) (made_after shape xs) (pulses_in (x ∷ xs)) (0 + ends_in xs + (0 + cancels_in xs))
      same k more = record { few = let t = no_ends w (ends_in xs) (cancels_in xs) in omega (arith, k.few, more, t); room = k.room }

      -- a begin of a line write of the bank, which no change holds up; and of a change
      begins : (go : Bool) → Before → busy_after shape xs ≡ false → pulses_in (x ∷ xs) ≤ pulses_in xs + 0 → pulses_in (x ∷ xs) ≤ w * (one_if (not go) + ends_in xs + (0 + cancels_in xs)) + held_by go 0
      begins go k idle more =
          let none_held : held_by (busy_after shape xs) (made_after shape xs) ≡ 0 = held-idle (busy_after shape xs) (made_after shape xs) idle in
          begin_few w (pulses_in xs) (pulses_in (x ∷ xs)) (ends_in xs) (cancels_in xs) go (omega (arith, k.few, none_held)) (omega (arith, more))

      iterates : (go : Bool) → Before → busy_after shape xs ≡ true → made_after shape xs < w → pulses_in (x ∷ xs) ≤ pulses_in xs + 1
          → pulses_in (x ∷ xs) ≤ w * (one_if (not go) + ends_in xs + (0 + cancels_in xs)) + held_by go (made_after shape xs + 1)
      iterates go k busy lt more =
          let its : held_by (busy_after shape xs) (made_after shape xs) ≡ made_after shape xs = held-going (busy_after shape xs) (made_after shape xs) busy in
          iterate_few w (pulses_in xs) (pulses_in (x ∷ xs)) (ends_in xs) (cancels_in xs) go (made_after shape xs) (omega (arith, k.few, its)) lt more

      cuts : (tearing cancels : Bool) → Before → (tearing ≡ true → busy_after shape xs ≡ true) → pulses_in (x ∷ xs) ≤ pulses_in xs + one_if tearing
          → pulses_in (x ∷ xs) ≤ w * (one_if (not cancels) + ends_in xs + (one_if cancels + cancels_in xs)) + 0
      cuts tearing cancels k busy more =
          cut_few w (pulses_in xs) (pulses_in (x ∷ xs)) (ends_in xs) (cancels_in xs) tearing cancels (held_by (busy_after shape xs) (made_after shape xs)) k.few
          (λ is. omega (arith, k.room (busy is), held-going (busy_after shape xs) (made_after shape xs) (busy is)))
          (going_room (busy_after shape xs) (made_after shape xs) w k.room) more

      -- a line write that has ended, or is dropped, leaves none in progress, whatever change it brings
      stops : (change : Option ℕ) (made tries : ℕ) → pulses_in (x ∷ xs) ≤ w * tries + 0 → KeepsPulses w (busy_by change false false) made (pulses_in (x ∷ xs)) tries
      stops None made tries few = record { few = few; room = λ is. absurd (cc) }
      stops (Some item) made tries few = record { few = few; room = λ is. absurd (cc) }

      goes : (change : Option ℕ) → change ≡ None → (count tries : ℕ) → pulses_in (x ∷ xs) ≤ w * tries + count → count + 1 ≤ w
          → KeepsPulses w (busy_by change false true) (made_by change 0 count) (pulses_in (x ∷ xs)) tries
      goes None is count tries few room = record { few = few; room = λ is. room }
      goes (Some item) is count tries few room = absurd (cc)

      keeps : (change : Option ℕ) → is_some change ≡ true → (count tries : ℕ) (busy : Bool) → pulses_in (x ∷ xs) ≤ w * tries + count → count + 1 ≤ w
          → KeepsPulses w (busy_by change true busy) (made_by change count (iterated (core xs))) (pulses_in (x ∷ xs)) tries
      keeps None is count tries busy few room = absurd (cc)
      keeps (Some item) is count tries busy few room = record { few = few; room = λ is. room }

      rests : (change : Option ℕ) (made tries : ℕ) (busy : Bool) → (change ≡ None → busy ≡ false) → pulses_in (x ∷ xs) ≤ w * tries + 0 → KeepsPulses w (busy_by change false busy) made (pulses_in (x ∷ xs)) tries
      rests None made tries busy idle few = subst (λ b. KeepsPulses w b made (pulses_in (x ∷ xs)) tries) (sym (idle refl)) (record { few = few; room = λ is. absurd (cc) })
      rests (Some item) made tries busy idle few = record { few = few; room = λ is. absurd (cc) }

      clear : (change : Option ℕ) → is_some change ≡ true → (answer : Keep) → answer ≡ keep.Done → written_by answer change ≡ None
      clear change some answer is = subst (λ (k : Keep). written_by k change ≡ None) (sym is) refl

      by : (h : Happens n) (cancels : Bool) → MayCome shape pace e xs x h → Before → pulses_in (x ∷ xs) ≤ pulses_in xs + pulse_of x.pulsed
          → KeepsAt xs x h (pulses_in (x ∷ xs)) (one_if (ends_work h cancels) + ends_in xs + (one_if (cancels_work h cancels) + cancels_in xs))
      by (Core (Begin answer)) cancels may k more = began answer (begins (goes_on answer) k idle (none None may.pulsed more)) may.on_time.2
        where
          idle : busy_after shape xs ≡ false
          idle = busy-none (change_after shape xs) (keeping_after xs) (in_progress (core xs)) may.on_time.2 ∙ begins-idle shape (core xs) may.may.0

          began : (answer : Step) → pulses_in (x ∷ xs) ≤ w * (one_if (not (goes_on answer)) + ends_in xs + (0 + cancels_in xs)) + held_by (goes_on answer) 0 → change_after shape xs ≡ None
              → KeepsAt xs x (Core (Begin answer)) (pulses_in (x ∷ xs)) (one_if (not (goes_on answer)) + ends_in xs + (0 + cancels_in xs))
          began did.More few is = goes (change_after shape xs) is 0 _ few (omega arith)
          began _ few is = stops _ _ _ few
      by (Core (Iterate answer)) cancels may k more = went answer (subst (λ c. pulses_in (x ∷ xs) ≤ w * (one_if (not (goes_on answer)) + ends_in xs + (0 + cancels_in xs)) + held_by (goes_on answer) (c + 1)) made few) may.may.3 may.on_time.2
        where
          made : made_after shape xs ≡ iterated (core xs)
          made = made-none (change_after shape xs) (rounds_after xs) (iterated (core xs)) may.on_time.2

          few : pulses_in (x ∷ xs) ≤ w * (one_if (not (goes_on answer)) + ends_in xs + (0 + cancels_in xs)) + held_by (goes_on answer) (made_after shape xs + 1)
          few = iterates (goes_on answer) k (busy-none (change_after shape xs) (keeping_after xs) (in_progress (core xs)) may.on_time.2 ∙ may.may.0) (omega (arith, made, may.may.2)) (none _ may.pulsed more)

          went : (answer : Step) → pulses_in (x ∷ xs) ≤ w * (one_if (not (goes_on answer)) + ends_in xs + (0 + cancels_in xs)) + held_by (goes_on answer) (iterated (core xs) + 1)
              → (answer ≡ did.More → iterated (core xs) + 1 < w) → change_after shape xs ≡ None
              → KeepsAt xs x (Core (Iterate answer)) (pulses_in (x ∷ xs)) (one_if (not (goes_on answer)) + ends_in xs + (0 + cancels_in xs))
          went did.More few room is = goes (change_after shape xs) is (iterated (core xs) + 1) _ few (let r : iterated (core xs) + 1 < w = room refl in omega (arith, r))
          went _ few room is = stops _ _ _ few
      by (Core (Cut tearing)) cancels may k more =
          stops (change_after shape xs) _ _ (cut (torn-busy shape (change_after shape xs) (keeping_after xs) (in_progress (core xs)) (running_at shape pace xs x.tick) tearing
          (tearing-going tearing (in_progress (core xs)) may.may) may.on_time.1 may.on_time.4 (core xs)))
        where
          last : pulses_in (x ∷ xs) ≤ pulses_in xs + pulse_of (pulsed_by shape (core xs) (torn_control shape (change_after shape xs) (running_at shape pace xs x.tick)) (Cut tearing))
          last = none _ may.pulsed more

          cut : (pulse_of (pulsed_by shape (core xs) (torn_control shape (change_after shape xs) (running_at shape pace xs x.tick)) (Cut tearing)) ≡ 0)
              ⊎ ((pulse_of (pulsed_by shape (core xs) (torn_control shape (change_after shape xs) (running_at shape pace xs x.tick)) (Cut tearing)) ≡ 1) × (busy_after shape xs ≡ true))
              → pulses_in (x ∷ xs) ≤ w * (one_if (not cancels) + ends_in xs + (one_if cancels + cancels_in xs)) + 0
          cut (inl z) = cuts false cancels k (λ is. absurd (cc)) (omega (arith, last, z))
          cut (inr o) = cuts true cancels k (λ is. o.1) (omega (arith, last, o.0))
      by (Core _) cancels may k more = same k (none None may.pulsed more)
      by (Regs (KeepBegin answer)) cancels may k more = began answer (begins (keeps_on answer) k idle (none None may.pulsed more))
        where
          idle : busy_after shape xs ≡ false
          idle = busy-some (change_after shape xs) (keeping_after xs) (in_progress (core xs)) may.stands ∙ may.may.0

          began : (answer : Keep) → pulses_in (x ∷ xs) ≤ w * (one_if (not (keeps_on answer)) + ends_in xs + (0 + cancels_in xs)) + held_by (keeps_on answer) 0
              → KeepsAt xs x (Regs (KeepBegin answer)) (pulses_in (x ∷ xs)) (one_if (not (keeps_on answer)) + ends_in xs + (0 + cancels_in xs))
          began keep.More few = keeps (change_after shape xs) may.stands 0 _ _ few (omega arith)
          began keep.Done few = rests None _ _ _ (λ is. changed-idle shape pace e xs l.1 may.stands) few
          began keep.Halted few = rests (change_after shape xs) _ _ _ (λ is. changed-idle shape pace e xs l.1 may.stands) few
      by (Regs (KeepIterate answer)) cancels may k more = went answer (subst (λ c. pulses_in (x ∷ xs) ≤ w * (one_if (not (keeps_on answer)) + ends_in xs + (0 + cancels_in xs)) + held_by (keeps_on answer) (c + 1)) made few) may.may.2
        where
          made : made_after shape xs ≡ rounds_after xs
          made = made-some (change_after shape xs) (rounds_after xs) (iterated (core xs)) may.stands

          few : pulses_in (x ∷ xs) ≤ w * (one_if (not (keeps_on answer)) + ends_in xs + (0 + cancels_in xs)) + held_by (keeps_on answer) (made_after shape xs + 1)
          few = iterates (keeps_on answer) k (busy-some (change_after shape xs) (keeping_after xs) (in_progress (core xs)) may.stands ∙ may.may.0) (omega (arith, made, may.may.1)) (pulsed_one (change_after shape xs) may.stands (none _ may.pulsed more))
            where
              pulsed_one : (change : Option ℕ) → is_some change ≡ true → pulses_in (x ∷ xs) ≤ pulses_in xs + pulse_of (line_of_change shape change) → pulses_in (x ∷ xs) ≤ pulses_in xs + 1
              pulsed_one change some le = grind arith

          went : (answer : Keep) → pulses_in (x ∷ xs) ≤ w * (one_if (not (keeps_on answer)) + ends_in xs + (0 + cancels_in xs)) + held_by (keeps_on answer) (rounds_after xs + 1)
              → (answer ≡ keep.More → rounds_after xs + 1 < w)
              → KeepsAt xs x (Regs (KeepIterate answer)) (pulses_in (x ∷ xs)) (one_if (not (keeps_on answer)) + ends_in xs + (0 + cancels_in xs))
          went keep.More few room = keeps (change_after shape xs) may.stands (rounds_after xs + 1) _ _ few (let r : rounds_after xs + 1 < w = room refl in omega (arith, r))
          went keep.Done few room = rests None _ _ _ (λ is. changed-idle shape pace e xs l.1 may.stands) few
          went keep.Halted few room = rests (change_after shape xs) _ _ _ (λ is. changed-idle shape pace e xs l.1 may.stands) few
      by (Regs (KeepCut tearing)) cancels may k more =
          rests (change_after shape xs) _ _ _ (λ is. changed-idle shape pace e xs l.1 may.stands) (cuts tearing true k (λ is. busy-some (change_after shape xs) (keeping_after xs) (in_progress (core xs)) may.stands ∙ may.may is)
          (torn_once tearing (change_after shape xs) may.stands (none _ may.pulsed more)))
        where
          torn_once : (tearing : Bool) (change : Option ℕ) → is_some change ≡ true → pulses_in (x ∷ xs) ≤ pulses_in xs + pulse_of (cond tearing (line_of_change shape change) None) → pulses_in (x ∷ xs) ≤ pulses_in xs + one_if tearing
          torn_once tearing change some le = grind arith

-- Which action runs after a lawful history, since when, and what it fits.
use Rattle.std.proofs.Common.{◌≡◌, ℕ, ◌+◌, ◌<◌, ◌≤◌, not, Bool, true, false, List, [], ◌∷◌, ◌++◌, Option, Some, None, refl, sym, ap, ◌∙◌, arith, cond}
use Rattle.std.{specs.Prelude.{IfSome, nat_lt, is_some}, proofs.lemmas.Bool.ltb-false}
use Rattle.bank_shape.specs.{Acting.{lasts, choice, chosen_by}, Pausing.{is_cancelling, gives_way}, declared.BankShape.BankShape, declared.clock.Action.Action}
use Rattle.bank_shape.specs.{declared.clock.Doing.Doing, declared.clock.Doing.TheVariants.{Serving, Beginning, Iterating}, declared.pace.Pace.Pace}
use Rattle.bank_shape.specs.declared.answer.ReadAnswer.TheVariants as came
use Rattle.bank_shape.specs.declared.answer.Step.TheVariants as did
use Rattle.bank_shape.specs.declared.answer.Keep.TheVariants as keep
use Rattle.bank_model.specs.{Changes.{change_after, change_by, keeping_after, keeping_by, rounds_after, rounds_by}, Events.{Write, Read, Begin, Iterate, Cut}}
use Rattle.bank_model.specs.{History.{Awaited, waits, in_progress, iterated}, Lawful.{Lawful, MayCome, IsEnd, would_cancel}}
use Rattle.bank_model.specs.Running.{busy_by, made_by, busy_after, made_after, ready_after, drops_begin, started, left_by, running, running_at, chosen_after, cancels_after}
use Rattle.bank_model.specs.{Sensing.most_steps, Timing.{Happens, Core, Regs, KeepBegin, KeepIterate, KeepCut, TimedEvent, is_empty, core, core_of, last_tick}}
use Rattle.bank_laws.proofs.{Changing.changed-idle, Ticks.last_tick-rises}
use Rattle.masked_bytes.proofs.Truth.{and_first}

-- the first tick of the action that runs, or else the last tick
abbrev pub since : Option Action → ℕ → ℕ
since None last = last
since (Some action) last = action.first

pub since-started : (r : Option Action) (doing : Doing) (last tick : ℕ) → last ≤ tick → since (started r (Some doing) last tick) tick ≡ since r last
since-started (Some action) doing last tick le = refl
since-started None doing last tick le = by (nat_lt last tick) refl
  where
    by : (b : Bool) → nat_lt last tick ≡ b → since (cond b (Some (record { doing = doing; first = last })) None) tick ≡ last
    by true is = refl
    by false is = let down : tick ≤ last = ltb-false last tick is in omega (arith, le, down)

since-first : (r : Option Action) (d : Option Doing) (last tick : ℕ) (a : Action) → started r d last tick ≡ Some a → a.first ≡ since r last
since-first (Some action) d last tick a is = let same : action ≡ a = cc in ap (λ (a : Action). a.first) (sym same)
since-first None None last tick a is = absurd (cc)
since-first None (Some doing) last tick a is = by (nat_lt last tick) is
  where
    by : (b : Bool) → cond b (Some (record { doing = doing; first = last })) None ≡ Some a → a.first ≡ last
    by true is = let same : record { doing = doing; first = last } ≡ a = cc in ap (λ (a : Action). a.first) (sym same)
    by false is = absurd (cc)

started-more : (r : Option Action) (d : Option Doing) (last tick : ℕ) → last ≤ tick → since r last ≤ since (started r d last tick) tick
started-more (Some action) d last tick le = omega arith
started-more None None last tick le = le
started-more None (Some doing) last tick le = by (nat_lt last tick)
  where
    by : (b : Bool) → last ≤ since (cond b (Some (record { doing = doing; first = last })) None) tick
    by b = grind arith

started-up : (r : Option Action) (d : Option Doing) (last tick : ℕ) → last ≤ tick → since r last ≤ last → since (started r d last tick) tick ≤ tick
started-up (Some action) d last tick le up = omega (arith, le, up)
started-up None None last tick le up = omega arith
started-up None (Some doing) last tick le up = by (nat_lt last tick)
  where
    by : (b : Bool) → since (cond b (Some (record { doing = doing; first = last })) None) tick ≤ tick
    by b = grind arith

-- an action fits: reads wait for a serve, and where a line write doesn't give way none is in progress; none is in progress as one is begun
abbrev pub Fits : Bool → Bool → Bool → Doing → Type 0
Fits way busy reads Serving = (reads ≡ true) × (way ≡ false → busy ≡ false)
Fits way busy reads Beginning = busy ≡ false
Fits way busy reads Iterating = busy ≡ true

chosen-fits : (way busy reads ready : Bool) → IfSome (chosen_by way reads (choice busy ready)) (λ d. Fits way busy reads d)
chosen-fits true busy true ready = (refl, λ k. absurd (cc))
chosen-fits true true false ready = refl
chosen-fits true false false true = refl
chosen-fits true false false false = tt
chosen-fits false true reads ready = refl
chosen-fits false false true ready = (refl, λ k. refl)
chosen-fits false false false true = refl
chosen-fits false false false false = tt

started-fits : (way busy reads : Bool) (r : Option Action) (d : Option Doing) (last tick : ℕ) → IfSome r (λ a. Fits way busy reads a.doing) → IfSome d (λ d. Fits way busy reads d)
    → IfSome (started r d last tick) (λ a. Fits way busy reads a.doing)
started-fits way busy reads (Some action) d last tick f g = f
started-fits way busy reads None None last tick f g = tt
started-fits way busy reads None (Some doing) last tick f g = by (nat_lt last tick)
  where
    by : (b : Bool) → IfSome (cond b (Some (record { doing = doing; first = last })) None) (λ (a : Action). Fits way busy reads a.doing)
    by b = grind arith

fits-reads : (way busy reads : Bool) (d : Doing) → Fits way busy reads d → Fits way busy true d
fits-reads way busy reads Serving f = (refl, f.1)
fits-reads way busy reads _ f = f

pub some-push : (ws : List Awaited) (w : Awaited) → not (is_empty (ws ++ w ∷ [])) ≡ true
some-push [] w = refl
some-push (v ∷ ws) w = refl

module _ {n m : ℕ} (shape : BankShape) (pace : Pace) where
  abbrev pub since_of : List (TimedEvent n m) → ℕ
  since_of xs = since (running shape pace xs) (last_tick xs)

  -- whether reads wait
  abbrev pub reads_of : List (TimedEvent n m) → Bool
  reads_of xs = not (is_empty (waits shape (core xs)))

  -- the action that runs at a later tick fits what the list leaves
  abbrev pub FitsAll : List (TimedEvent n m) → Option Action → Type 0
  FitsAll xs r = IfSome r (λ a. Fits (gives_way pace.policy) (busy_after shape xs) (reads_of xs) a.doing)

module _ {n m : ℕ} (shape : BankShape) (pace : Pace) (e : ℕ) where
  pub since-up : (xs : List (TimedEvent n m)) → 1 ≤ pace.read → 1 ≤ pace.iter → Lawful shape pace e xs → since_of shape pace xs ≤ last_tick xs
  since-up [] r i l = omega arith
  since-up (x ∷ xs) r i l =
      by x.happens (started-up (running shape pace xs) (chosen_after shape pace xs) (last_tick xs) x.tick (last_tick-rises shape pace e xs x r i l) (since-up xs r i l.1))
    where
      drop_or : (b : Bool) (action : Option Action) → since action x.tick ≤ x.tick → since (cond b None action) x.tick ≤ x.tick
      drop_or b action up = grind arith

      by : (h : Happens n) → since (running_at shape pace xs x.tick) x.tick ≤ x.tick → since (left_by shape (core xs) (change_after shape xs) h (running_at shape pace xs x.tick)) x.tick ≤ x.tick
      by (Core (Write row line bytes given answer)) up = up
      by (Core (Read row line came.Waiting)) up = drop_or (drops_begin shape (core xs) (change_after shape xs) line (running_at shape pace xs x.tick)) _ up
      by (Core (Read row line _)) up = up
      by _ up = omega arith

  -- what runs never starts earlier than before
  pub since-rises : (xs : List (TimedEvent n m)) (x : TimedEvent n m) → 1 ≤ pace.read → 1 ≤ pace.iter → Lawful shape pace e (x ∷ xs) → since_of shape pace xs ≤ since_of shape pace (x ∷ xs)
  since-rises xs x r i l =
      by x.happens (started-more (running shape pace xs) (chosen_after shape pace xs) (last_tick xs) x.tick (last_tick-rises shape pace e xs x r i l))
    where
      top : since_of shape pace xs ≤ x.tick
      top =
          let up : since_of shape pace xs ≤ last_tick xs = since-up xs r i l.1 in
          let rises : last_tick xs ≤ x.tick = last_tick-rises shape pace e xs x r i l in
          omega (arith, up, rises)

      drop_or : (b : Bool) (action : Option Action) → since_of shape pace xs ≤ since action x.tick → since_of shape pace xs ≤ since (cond b None action) x.tick
      drop_or true action up = top
      drop_or false action up = up

      by : (h : Happens n) → since_of shape pace xs ≤ since (running_at shape pace xs x.tick) x.tick → since_of shape pace xs ≤ since (left_by shape (core xs) (change_after shape xs) h (running_at shape pace xs x.tick)) x.tick
      by (Core (Write row line bytes given answer)) up = up
      by (Core (Read row line came.Waiting)) up = drop_or (drops_begin shape (core xs) (change_after shape xs) line (running_at shape pace xs x.tick)) _ up
      by (Core (Read row line _)) up = up
      by _ up = top

  -- an action that ends lasted from there
  pub end-since : (xs : List (TimedEvent n m)) (x : TimedEvent n m) (doing : Doing) → IsEnd pace doing (running_at shape pace xs x.tick) x
      → (x.first ≡ since_of shape pace xs) × (x.tick ≡ since_of shape pace xs + lasts pace.read pace.iter doing)
  end-since xs x doing is =
      let first : x.first ≡ since_of shape pace xs = since-first (running shape pace xs) (chosen_after shape pace xs) (last_tick xs) x.tick (record { doing = doing; first = x.first }) is.0 in
      (first, is.1 ∙ ap (λ k. k + lasts pace.read pace.iter doing) first)

  pub running-fits : (xs : List (TimedEvent n m)) → FitsAll shape pace xs (running shape pace xs)
  running-fits [] = tt
  running-fits (x ∷ xs) =
      by x.happens
      (started-fits (gives_way pace.policy) (busy_after shape xs) (reads_of shape pace xs) (running shape pace xs) (chosen_after shape pace xs) (last_tick xs) x.tick (running-fits xs)
      (chosen-fits (gives_way pace.policy) (busy_after shape xs) (reads_of shape pace xs) (ready_after shape xs)))
    where
      Fit : Bool → Option Action → Type 0
      Fit reads r = IfSome r (λ a. Fits (gives_way pace.policy) (busy_after shape xs) reads a.doing)

      more : (r : Option Action) (reads : Bool) → reads ≡ true → Fit (reads_of shape pace xs) r → Fit reads r
      more None reads is f = tt
      more (Some a) true is f = fits-reads (gives_way pace.policy) (busy_after shape xs) (reads_of shape pace xs) a.doing f
      more (Some a) false is f = absurd (cc)

      drop_or : (b : Bool) (reads : Bool) (r : Option Action) → Fit reads r → Fit reads (cond b None r)
      drop_or b reads r f = grind arith

      by : (h : Happens n) → Fit (reads_of shape pace xs) (running_at shape pace xs x.tick)
          → IfSome (left_by shape (core xs) (change_after shape xs) h (running_at shape pace xs x.tick)) (λ a. Fits (gives_way pace.policy) (busy_by (change_by shape (core xs) h (change_after shape xs)) (keeping_by h (keeping_after xs)) (in_progress (core_of h (core xs)))) (not (is_empty (waits shape (core_of h (core xs))))) a.doing)
      by (Core (Write row line bytes given answer)) f = f
      by (Core (Read row line came.Waiting)) f =
          drop_or (drops_begin shape (core xs) (change_after shape xs) line (running_at shape pace xs x.tick)) _ (running_at shape pace xs x.tick)
          (more (running_at shape pace xs x.tick) _ (some-push (waits shape (core xs)) _) f)
      by (Core (Read row line _)) f = f
      by _ f = tt

  pub running_at-fits : (xs : List (TimedEvent n m)) (tick : ℕ) → FitsAll shape pace xs (running_at shape pace xs tick)
  running_at-fits xs tick =
      started-fits (gives_way pace.policy) (busy_after shape xs) (reads_of shape pace xs) (running shape pace xs) (chosen_after shape pace xs) (last_tick xs) tick (running-fits xs)
      (chosen-fits (gives_way pace.policy) (busy_after shape xs) (reads_of shape pace xs) (ready_after shape xs))

  -- a line write in progress was iterated less often than it may be
  pub iterated-few : (xs : List (TimedEvent n m)) → Lawful shape pace e xs → busy_after shape xs ≡ true → made_after shape xs < most_steps e
  iterated-few [] l busy = absurd (cc)
  iterated-few (x ∷ xs) l busy = by x.happens l.0 (iterated-few xs l.1) busy
    where
      Few : Happens n → Type 0
      Few h =
          busy_by (change_by shape (core xs) h (change_after shape xs)) (keeping_by h (keeping_after xs)) (in_progress (core_of h (core xs))) ≡ true
          → made_by (change_by shape (core xs) h (change_after shape xs)) (rounds_by h (rounds_after xs)) (iterated (core_of h (core xs))) < most_steps e

      -- the bank's line write ended or was dropped
      stops : (change : Option ℕ) (made : ℕ) → busy_by change false false ≡ true → made < most_steps e
      stops change made busy = grind arith

      went : (change : Option ℕ) (rounds count : ℕ) → change ≡ None → count < most_steps e → made_by change rounds count < most_steps e
      went change rounds count is lt = grind arith

      kept : (change : Option ℕ) (rounds count : ℕ) → is_some change ≡ true → rounds < most_steps e → made_by change rounds count < most_steps e
      kept change rounds count is lt = grind arith

      by : (h : Happens n) → MayCome shape pace e xs x h → (busy_after shape xs ≡ true → made_after shape xs < most_steps e) → Few h
      by (Core (Begin did.More)) may go busy = went (change_after shape xs) _ _ may.on_time.2 (omega arith)
      by (Core (Begin _)) may go busy = stops _ _ busy
      by (Core (Iterate did.More)) may go busy = went (change_after shape xs) _ _ may.on_time.2 (may.may.3 refl)
      by (Core (Iterate _)) may go busy = stops _ _ busy
      by (Core (Cut tearing)) may go busy = stops _ _ busy
      by (Core _) may go busy = go busy
      by (Regs (KeepBegin keep.More)) may go busy = kept (change_after shape xs) _ _ may.stands (omega arith)
      by (Regs (KeepBegin keep.Halted)) may go busy = absurd (may.may.2 refl)
      by (Regs (KeepIterate keep.More)) may go busy = kept (change_after shape xs) _ _ may.stands (may.may.2 refl)
      by (Regs (KeepIterate keep.Halted)) may go busy = ended (change_after shape xs) may.stands busy
        where
          ended : (change : Option ℕ) → is_some change ≡ true → busy_by change false (in_progress (core xs)) ≡ true → made_by change (rounds_after xs + 1) (iterated (core xs)) < most_steps e
          ended change some busy = grind arith
      by (Regs (KeepCut tearing)) may go busy = ended (change_after shape xs) may.stands busy
        where
          ended : (change : Option ℕ) → is_some change ≡ true → busy_by change false (in_progress (core xs)) ≡ true → made_by change 0 (iterated (core xs)) < most_steps e
          ended change some busy = grind arith
      by (Regs _) may go busy = let idle : in_progress (core xs) ≡ false = changed-idle shape pace e xs l.1 may.stands in absurd (cc)

  -- where reads cancel nothing, no cut is a cancel
  pub not-cancelled : (xs : List (TimedEvent n m)) (x : TimedEvent n m) (h : Happens n) → is_cancelling pace.policy ≡ false → MayCome shape pace e xs x h → x.cancels ≡ false
  not-cancelled xs x (Core (Cut tearing)) none may = by x.cancels may.on_time.2
    where
      by : (b : Bool) → (b ≡ true → would_cancel shape (core xs) pace.policy (running_at shape pace xs x.tick) (cancels_after xs) ≡ true) → b ≡ false
      by true k = absurd (cc (none, and_first (is_cancelling pace.policy) _ (k refl)))
      by false k = refl
  not-cancelled xs x (Regs (KeepCut tearing)) none may =
      absurd (cc (none, and_first (is_cancelling pace.policy) _ may.on_time.3))
  not-cancelled xs x _ none may = may.on_time.1

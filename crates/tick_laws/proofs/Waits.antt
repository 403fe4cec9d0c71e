-- Each event leaves a read that waits in time, and the one that ends its wait comes in time.
use Rattle.std.proofs.Common.{◌≡◌, ℕ, ◌+◌, ◌*◌, ◌<◌, ◌≤◌, ◌&&◌, not, Bool, true, false, List, [], ◌∷◌, ◌++◌, Option, Some, None, drop, refl, sym, ap, ◌∙◌, subst, arith, cond}
use Rattle.std.{specs.Prelude.{IfSome, is_some}, proofs.Math.Nat.mul-le-mul_right}
use Rattle.bank_shape.specs.{Acting.{lasts, ends_with, choice, chosen_by}, Pausing.{is_cancelling, gives_way}, declared.BankShape.BankShape, declared.answer.Keep.Keep}
use Rattle.bank_shape.specs.{declared.answer.Step.Step, declared.clock.Action.Action, declared.clock.Doing.Doing, declared.clock.Doing.TheVariants.{Serving, Beginning, Iterating}}
use Rattle.bank_shape.specs.declared.pace.Pace.{Pace}
use Rattle.bank_shape.specs.declared.answer.ReadAnswer.TheVariants as came
use Rattle.bank_shape.specs.declared.answer.Keep.TheVariants as keep
use Rattle.bank_shape.specs.declared.answer.Step.TheVariants as did
use Rattle.bank_model.specs.Changes.{change_after, change_by, keeping_after, keeping_by, rounds_after, rounds_by, changed_by, written_by, keeps_on}
use Rattle.bank_model.specs.{Events.{Read, Serve, Begin, Iterate, Cut}, History.{Awaited, waits, in_progress, iterated, goes_on}, Lawful.{Lawful, MayCome}}
use Rattle.bank_model.specs.{Running.{busy_by, made_by, busy_after, made_after, ready_after, drops_begin, started, left_by, running, running_at, chosen_after}, Sensing.most_steps}
use Rattle.bank_model.specs.Timing.{Happens, Core, Regs, KeepBegin, KeepIterate, KeepCut, TimedEvent, ends, is_doing, is_writing, is_empty, core, core_of, last_tick}
use Rattle.bank_laws.{specs.Standing.{has_wait, WaitsApart}, proofs.Changing.{busy-none, busy-some, made-none, made-some, changed-idle}, proofs.Settling.above_all}
use Rattle.bank_laws.proofs.Standing.{stand_apart}
use Rattle.tick_laws.proofs.Actions.{since, since-started, since_of, reads_of, Fits, FitsAll, running_at-fits, iterated-few}
use Rattle.tick_laws.proofs.Turns.{turn, turn-push, turn-served, owed_by, owes, paid, chosen-reads, owes-started, NotEarly, started-not_early, not_early-push}
use Rattle.masked_bytes.proofs.Truth.{and_first}

module _ (read iter work bound : ℕ) where
  after_begin : (way busy next : Bool) (count first t : ℕ) → busy ≡ false → first + owed_by read iter work way Beginning + t ≤ bound + paid iter way busy count
      → (first + read) + owes read iter work way next None + t ≤ bound + paid iter way next 0
  after_begin way busy next count first t idle h = grind arith

  after_iterate : (way busy next : Bool) (count first t : ℕ) → busy ≡ true → (count + 1) * iter ≡ count * iter + iter → count * iter + iter ≤ work
      → first + owed_by read iter work way Iterating + t ≤ bound + paid iter way busy count → (first + iter) + owes read iter work way next None + t ≤ bound + paid iter way next (count + 1)
  after_iterate way busy next count first t busy6 more few h = grind arith

  after_serve : (way busy : Bool) (count first t : ℕ) → (way ≡ false → busy ≡ false) → first + 0 + (read + t) ≤ bound + paid iter way busy count
      → (first + read) + owes read iter work way busy None + t ≤ bound + paid iter way busy count
  after_serve way busy count first t idle h = grind arith

  after_drop : (way busy : Bool) (count first tick t : ℕ) → busy ≡ false → tick < first + read → first + owed_by read iter work way Beginning + t ≤ bound + paid iter way busy count
      → tick + owes read iter work way busy None + t ≤ bound + paid iter way busy count
  after_drop way busy count first tick t idle lt h = grind arith

  pub at_end : (way busy : Bool) (count first t : ℕ) → (way ≡ false → busy ≡ false) → read ≤ t → first + 0 + t ≤ bound + paid iter way busy count → first + read ≤ bound
  at_end way busy count first t idle some h = grind arith

  -- a cut comes below the bound, where a read waits
  pub at_cut : (way busy reads : Bool) (count tick t : ℕ) (r : Option Action) → 1 ≤ read → read ≤ t → (busy ≡ true → count * iter + iter ≤ work) → IfSome r (λ a. Fits way busy reads a.doing)
      → IfSome r (λ a. tick < ends_with read iter a)
      → since r tick + owes read iter work way busy r + t ≤ bound + paid iter way busy count → tick < bound
  at_cut true busy reads count tick t None some turn few f end h = omega arith
  at_cut false true reads count tick t None some turn few f end h = let k : count * iter + iter ≤ work = few refl in omega arith
  at_cut false false reads count tick t None some turn few f end h = omega arith
  at_cut way busy reads count tick t (Some action) some turn few f end h = by way busy action.doing f few end h
    where
      by : (way busy : Bool) (doing : Doing) → Fits way busy reads doing → (busy ≡ true → count * iter + iter ≤ work) → tick < action.first + lasts read iter doing
          → action.first + owed_by read iter work way doing + t ≤ bound + paid iter way busy count → tick < bound
      by true busy Serving f few end h = omega arith
      by false true Serving f few end h = let k : true ≡ false = f.1 refl in absurd (cc)
      by false false Serving f few end h = omega arith
      by way true Beginning f few end h = absurd (cc)
      by true false Beginning f few end h = omega arith
      by false false Beginning f few end h = omega arith
      by way false Iterating f few end h = absurd (cc)
      by true true Iterating f few end h = omega arith
      by false true Iterating f few end h = let k : count * iter + iter ≤ work = few refl in omega arith

-- where a read that came at tick a stands, whose turn ends by this bound
pub record HasTurn (read iter work : ℕ) (way : Bool) (a bound row top : ℕ) (r : Option Action) (busy : Bool) (count : ℕ) (ws : List Awaited) : Type 0 where
  pub low : NotEarly a row ws r
  pub high : top + owes read iter work way busy r + turn read row ws ≤ bound + paid iter way busy count

pub some-reads : (ws : List Awaited) (row : ℕ) → has_wait ws row ≡ true → not (is_empty ws) ≡ true
some-reads ws row there = grind arith

pub times_more : (k x : ℕ) → (k + 1) * x ≡ k * x + x
times_more k x = grind arith

times_few : (k w x : ℕ) → k < w → k * x + x ≤ w * x
times_few k w x lt = subst (λ n. n ≤ w * x) (times_more k x) (mul-le-mul_right {m = k + 1} {n = w} x (omega (arith, lt)))

-- the time of all iterations of a line write
abbrev pub work_time : Pace → ℕ → ℕ
work_time pace e = most_steps e * pace.iter

-- a new change isn't being written yet
brings : (change : Option ℕ) → busy_by change false false ≡ false
brings change = grind arith

module _ {n m : ℕ} (shape : BankShape) (pace : Pace) (e : ℕ) where
  abbrev pub Turn : ℕ → ℕ → ℕ → List (TimedEvent n m) → Type 0
  Turn a bound row zs =
      HasTurn pace.read pace.iter (work_time pace e) (gives_way pace.policy) a bound row (since_of shape pace zs) (running shape pace zs) (busy_after shape zs) (made_after shape zs) (waits shape (core zs))

  -- the same at the tick of the next event, before that
  abbrev pub TurnAt : ℕ → ℕ → ℕ → List (TimedEvent n m) → ℕ → Option Action → Type 0
  TurnAt a bound row zs tick r =
      HasTurn pace.read pace.iter (work_time pace e) (gives_way pace.policy) a bound row (since r tick) r (busy_after shape zs) (made_after shape zs) (waits shape (core zs))

  pub few_times : (zs : List (TimedEvent n m)) → Lawful shape pace e zs → busy_after shape zs ≡ true → made_after shape zs * pace.iter + pace.iter ≤ (work_time pace e)
  few_times zs l busy = times_few (made_after shape zs) (most_steps e) pace.iter (iterated-few shape pace e zs l busy)

  pub turn_at : (a bound row : ℕ) (zs : List (TimedEvent n m)) (tick : ℕ) → last_tick zs ≤ tick → a ≤ last_tick zs → has_wait (waits shape (core zs)) row ≡ true → Turn a bound row zs
      → TurnAt a bound row zs tick (running_at shape pace zs tick)
  turn_at a bound row zs tick rises up there t =
      subst (λ d. TurnAt a bound row zs tick (started (running shape pace zs) d (last_tick zs) tick)) (sym chosen) (record {
        low = started-not_early a row (waits shape (core zs)) (running shape pace zs) (Some next) (last_tick zs) tick up t.low;
        high = subst (λ k. k + owes pace.read pace.iter (work_time pace e) (gives_way pace.policy) (busy_after shape zs) (started (running shape pace zs) (Some next) (last_tick zs) tick) + turn pace.read row (waits shape (core zs))
            ≤ bound + paid pace.iter (gives_way pace.policy) (busy_after shape zs) (made_after shape zs))
            (sym (since-started (running shape pace zs) next (last_tick zs) tick rises))
            (subst (λ k. since_of shape pace zs + k + turn pace.read row (waits shape (core zs)) ≤ bound + paid pace.iter (gives_way pace.policy) (busy_after shape zs) (made_after shape zs))
            (sym (owes-started pace.read pace.iter (work_time pace e) (gives_way pace.policy) (busy_after shape zs) (running shape pace zs) (last_tick zs) tick)) t.high);
      })
    where
      next : Doing
      next = cond (gives_way pace.policy) Serving (cond (busy_after shape zs) Iterating Serving)

      chosen : chosen_after shape pace zs ≡ Some next
      chosen =
          ap (λ b. chosen_by (gives_way pace.policy) b (choice (busy_after shape zs) (ready_after shape zs))) (some-reads (waits shape (core zs)) row there)
          ∙ chosen-reads (gives_way pace.policy) (busy_after shape zs) (ready_after shape zs)

  module _ (a bound row : ℕ) (zs : List (TimedEvent n m)) (y : TimedEvent n m) (l : Lawful shape pace e (y ∷ zs)) where
    abbrev pub TurnBy : Happens n → Option Action → Type 0
    TurnBy h r =
        HasTurn pace.read pace.iter (work_time pace e) (gives_way pace.policy) a bound row (since r y.tick) r (busy_by (change_by shape (core zs) h (change_after shape zs)) (keeping_by h (keeping_after zs)) (in_progress (core_of h (core zs)))) (made_by (change_by shape (core zs) h (change_after shape zs)) (rounds_by h (rounds_after zs)) (iterated (core_of h (core zs)))) (waits shape (core_of h (core zs)))

    -- the action that ends
    pub ending : (doing : Doing) → running_at shape pace zs y.tick ≡ Some (record { doing = doing; first = y.first }) → TurnAt a bound row zs y.tick (running_at shape pace zs y.tick)
        → TurnAt a bound row zs y.tick (Some (record { doing = doing; first = y.first }))
    ending doing is t = subst (λ r. TurnAt a bound row zs y.tick r) is t

    pub fits_ending : (doing : Doing) → running_at shape pace zs y.tick ≡ Some (record { doing = doing; first = y.first }) → Fits (gives_way pace.policy) (busy_after shape zs) (reads_of shape pace zs) doing
    fits_ending doing is = subst (λ r. FitsAll shape pace zs r) is (running_at-fits shape pace e zs y.tick)

    at_read : (line : ℕ) (b : Bool) (r : Option Action) (v : Awaited) → (b ≡ true → is_doing Beginning r ≡ true) → IfSome r (λ a. y.tick < ends pace a) → FitsAll shape pace zs r → has_wait (waits shape (core zs)) row ≡ true
        → TurnAt a bound row zs y.tick r
        → HasTurn pace.read pace.iter (work_time pace e) (gives_way pace.policy) a bound row (since (cond b None r) y.tick) (cond b None r) (busy_after shape zs) (made_after shape zs) (waits shape (core zs) ++ v ∷ [])
    at_read line false r v drops end f there t = record {
      low = not_early-push a row (waits shape (core zs)) v r t.low;
      high = subst (λ k. since r y.tick + owes pace.read pace.iter (work_time pace e) (gives_way pace.policy) (busy_after shape zs) r + k ≤ bound + paid pace.iter (gives_way pace.policy) (busy_after shape zs) (made_after shape zs))
          (sym (turn-push pace.read row (waits shape (core zs)) v there)) t.high;
    }
    at_read line true None v drops end f there t = let k : false ≡ true = drops refl in absurd (cc)
    at_read line true (Some action) v drops end f there t = record {
      low = tt;
      high = subst (λ k. y.tick + owes pace.read pace.iter (work_time pace e) (gives_way pace.policy) (busy_after shape zs) None + k ≤ bound + paid pace.iter (gives_way pace.policy) (busy_after shape zs) (made_after shape zs))
          (sym (turn-push pace.read row (waits shape (core zs)) v there)) (by action.doing (drops refl) end f t.high);
    }
      where
        by : (doing : Doing) → is_doing Beginning (Some (record { doing = doing; first = action.first })) ≡ true → y.tick < action.first + lasts pace.read pace.iter doing
            → Fits (gives_way pace.policy) (busy_after shape zs) (reads_of shape pace zs) doing
            → action.first + owed_by pace.read pace.iter (work_time pace e) (gives_way pace.policy) doing + turn pace.read row (waits shape (core zs)) ≤ bound + paid pace.iter (gives_way pace.policy) (busy_after shape zs) (made_after shape zs)
            → y.tick + owes pace.read pace.iter (work_time pace e) (gives_way pace.policy) (busy_after shape zs) None + turn pace.read row (waits shape (core zs))
            ≤ bound + paid pace.iter (gives_way pace.policy) (busy_after shape zs) (made_after shape zs)
        by Beginning d end f h =
            after_drop pace.read pace.iter (work_time pace e) bound (gives_way pace.policy) (busy_after shape zs) (made_after shape zs) action.first y.tick (turn pace.read row (waits shape (core zs))) f end h
        by _ d end f h = absurd (cc)

    at_serve : (ws : List Awaited) (first : ℕ) → y.tick ≡ first + pace.read → (gives_way pace.policy ≡ false → busy_after shape zs ≡ false) → WaitsApart ws → has_wait (drop 1 ws) row ≡ true
        → first + 0 + turn pace.read row ws ≤ bound + paid pace.iter (gives_way pace.policy) (busy_after shape zs) (made_after shape zs)
        → y.tick + owes pace.read pace.iter (work_time pace e) (gives_way pace.policy) (busy_after shape zs) None + turn pace.read row (drop 1 ws) ≤ bound + paid pace.iter (gives_way pace.policy) (busy_after shape zs) (made_after shape zs)
    at_serve [] first end idle apart there h = absurd (cc)
    at_serve (w ∷ ws) first end idle apart there h =
        subst (λ k. k + owes pace.read pace.iter (work_time pace e) (gives_way pace.policy) (busy_after shape zs) None + turn pace.read row ws ≤ bound + paid pace.iter (gives_way pace.policy) (busy_after shape zs) (made_after shape zs))
        (sym end)
        (after_serve pace.read pace.iter (work_time pace e) bound (gives_way pace.policy) (busy_after shape zs) (made_after shape zs) first (turn pace.read row ws) idle
        (subst (λ k. first + 0 + k ≤ bound + paid pace.iter (gives_way pace.policy) (busy_after shape zs) (made_after shape zs)) (turn-served pace.read row w ws apart there) h))

    -- what runs no more leaves a line write in progress or none, iterated so often
    abbrev Over : ℕ → Bool → ℕ → Type 0
    Over tick b c = tick + owes pace.read pace.iter (work_time pace e) (gives_way pace.policy) b None + turn pace.read row (waits shape (core zs)) ≤ bound + paid pace.iter (gives_way pace.policy) b c

    lands : (tick : ℕ) (b new : Bool) (c count : ℕ) → y.tick ≡ tick → new ≡ b → (b ≡ true → count ≡ c) → Over tick b c
        → HasTurn pace.read pace.iter (work_time pace e) (gives_way pace.policy) a bound row y.tick None new count (waits shape (core zs))
    lands tick true new c count at is same o = record {
      low = tt;
      high = subst (λ q. Over q new count) (sym at) (subst (λ b. Over tick b count) (sym is) (subst (λ c. Over tick true c) (sym (same refl)) o));
    }
    lands tick false new c count at is same o = record { low = tt; high = subst (λ q. Over q new count) (sym at) (subst (λ b. Over tick b count) (sym is) (none (gives_way pace.policy) o)) }
      where
        none : (way : Bool) → tick + owes pace.read pace.iter (work_time pace e) way false None + turn pace.read row (waits shape (core zs)) ≤ bound + paid pace.iter way false c
            → tick + owes pace.read pace.iter (work_time pace e) way false None + turn pace.read row (waits shape (core zs)) ≤ bound + paid pace.iter way false count
        none way w = grind arith

    -- a line write of the bank goes on exactly where its step says so, since no change stood
    bank_goes : (answer : Step) → change_after shape zs ≡ None → busy_by (changed_by shape (core zs) answer (change_after shape zs)) false (goes_on answer) ≡ goes_on answer
    bank_goes did.More is = busy-none (change_after shape zs) false true is
    bank_goes _ is = brings _

    bank_made : (answer : Step) (count : ℕ) → change_after shape zs ≡ None → goes_on answer ≡ true → made_by (changed_by shape (core zs) answer (change_after shape zs)) 0 count ≡ count
    bank_made did.More count is go = made-none (change_after shape zs) 0 count is
    bank_made _ count is go = absurd (cc)

    -- and that of a change, which held up the bank's
    change_goes : (answer : Keep) → is_some (change_after shape zs) ≡ true → busy_by (written_by answer (change_after shape zs)) (keeps_on answer) (in_progress (core zs)) ≡ keeps_on answer
    change_goes keep.More some = busy-some (change_after shape zs) true (in_progress (core zs)) some
    change_goes keep.Done some = changed-idle shape pace e zs l.1 some
    change_goes keep.Halted some = busy-some (change_after shape zs) false (in_progress (core zs)) some

    change_made : (answer : Keep) (count : ℕ) → is_some (change_after shape zs) ≡ true → keeps_on answer ≡ true → made_by (written_by answer (change_after shape zs)) count (iterated (core zs)) ≡ count
    change_made keep.More count some go = made-some (change_after shape zs) count (iterated (core zs)) some
    change_made _ count some go = absurd (cc)

    pub step : (h : Happens n) → MayCome shape pace e zs y h → has_wait (waits shape (core zs)) row ≡ true → has_wait (waits shape (core_of h (core zs))) row ≡ true
        → TurnAt a bound row zs y.tick (running_at shape pace zs y.tick) → TurnBy h (left_by shape (core zs) (change_after shape zs) h (running_at shape pace zs y.tick))
    step (Core (Read at line came.Waiting)) may there still t =
        at_read line (drops_begin shape (core zs) (change_after shape zs) line (running_at shape pace zs y.tick)) (running_at shape pace zs y.tick) _
        (begun (change_after shape zs)) may.on_time.0.2 (running_at-fits shape pace e zs y.tick) there t
      where
        begun : (change : Option ℕ) → drops_begin shape (core zs) change line (running_at shape pace zs y.tick) ≡ true → is_doing Beginning (running_at shape pace zs y.tick) ≡ true
        begun None h = and_first (is_doing Beginning (running_at shape pace zs y.tick)) _ h
        begun (Some item) h = absurd (cc)
    step (Core (Serve answer)) may there still t =
        let b = above_all shape pace e zs l.1 in
        record {
          low = tt;
          high = at_serve (waits shape (core zs)) y.first may.on_time.0.1 (fits_ending Serving may.on_time.0.0).1 (stand_apart shape (core zs) b.0 b.1).waiting_apart still (ending Serving may.on_time.0.0 t).high;
        }
    step (Core (Begin answer)) may there still t =
        lands (y.first + pace.read) (goes_on answer) _ 0 _ may.on_time.0.1 (bank_goes answer may.on_time.2) (bank_made answer 0 may.on_time.2)
        (after_begin pace.read pace.iter (work_time pace e) bound (gives_way pace.policy) (busy_after shape zs) (goes_on answer) (made_after shape zs) y.first (turn pace.read row (waits shape (core zs)))
        (fits_ending Beginning may.on_time.0.0) (ending Beginning may.on_time.0.0 t).high)
    step (Core (Iterate answer)) may there still t =
        let now : busy_after shape zs ≡ true = busy-none (change_after shape zs) (keeping_after zs) (in_progress (core zs)) may.on_time.2 ∙ may.may.0 in
        let its : made_after shape zs ≡ iterated (core zs) = made-none (change_after shape zs) (rounds_after zs) (iterated (core zs)) may.on_time.2 in
        lands (y.first + pace.iter) (goes_on answer) _ (made_after shape zs + 1) _ may.on_time.0.1 (bank_goes answer may.on_time.2) (λ go. bank_made answer (iterated (core zs) + 1) may.on_time.2 go ∙ ap (λ k. k + 1) (sym its))
        (after_iterate pace.read pace.iter (work_time pace e) bound (gives_way pace.policy) (busy_after shape zs) (goes_on answer) (made_after shape zs) y.first (turn pace.read row (waits shape (core zs)))
        now (times_more (made_after shape zs) pace.iter) (few_times zs l.1 now) (ending Iterating may.on_time.0.0 t).high)
    step (Core (Cut tearing)) may there still t = absurd (cc)
    step (Core _) may there still t = record { low = t.low; high = t.high }
    step (Regs (KeepBegin answer)) may there still t =
        lands (y.first + pace.read) (keeps_on answer) _ 0 _ may.on_time.0.1 (change_goes answer may.stands) (change_made answer 0 may.stands)
        (after_begin pace.read pace.iter (work_time pace e) bound (gives_way pace.policy) (busy_after shape zs) (keeps_on answer) (made_after shape zs) y.first (turn pace.read row (waits shape (core zs)))
        (fits_ending Beginning may.on_time.0.0) (ending Beginning may.on_time.0.0 t).high)
    step (Regs (KeepIterate answer)) may there still t =
        let now : busy_after shape zs ≡ true = busy-some (change_after shape zs) (keeping_after zs) (in_progress (core zs)) may.stands ∙ may.may.0 in
        let its : made_after shape zs ≡ rounds_after zs = made-some (change_after shape zs) (rounds_after zs) (iterated (core zs)) may.stands in
        lands (y.first + pace.iter) (keeps_on answer) _ (made_after shape zs + 1) _ may.on_time.0.1 (change_goes answer may.stands) (λ go. change_made answer (rounds_after zs + 1) may.stands go ∙ ap (λ k. k + 1) (sym its))
        (after_iterate pace.read pace.iter (work_time pace e) bound (gives_way pace.policy) (busy_after shape zs) (keeps_on answer) (made_after shape zs) y.first (turn pace.read row (waits shape (core zs)))
        now (times_more (made_after shape zs) pace.iter) (few_times zs l.1 now) (ending Iterating may.on_time.0.0 t).high)
    step (Regs (KeepCut tearing)) may there still t = absurd (uncancelled_by (is_cancelling pace.policy) (is_writing (running_at shape pace zs y.tick)) (is_empty (waits shape (core zs))) _ may.on_time.3 (some-reads (waits shape (core zs)) row there))
      where
        uncancelled_by : (a b c d : Bool) → (a && (b && (c && d))) ≡ true → not c ≡ true → ⊥
        uncancelled_by a b c d h k = grind arith

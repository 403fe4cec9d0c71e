-- How far the ticks of a bank may be behind an arrival, by what ended since.
use Rattle.std.proofs.Common.{◌≡◌, ℕ, ◌+◌, ◌*◌, ◌<◌, ◌≤◌, ◌&&◌, ◌⊎◌, inl, inr, Bool, true, false, List, ◌∷◌, Option, Some, None, refl, sym, ap, ◌∙◌, subst, arith, cond}
use Rattle.std.{specs.Prelude.{IfSome, nat_lt, is_some}, proofs.lemmas.Bool.and_parts}
use Rattle.masked_bytes.specs.Entries.{has_row, layer_of}
use Rattle.bank_shape.specs.{Acting.{lasts, choice, chosen_by}, Pausing.{is_cancelling, most_cancels, gives_way}, declared.BankShape.BankShape, declared.answer.Keep.Keep}
use Rattle.bank_shape.specs.{declared.answer.Step.Step, declared.clock.Action.Action, declared.clock.Doing.Doing, declared.clock.Doing.TheVariants.{Serving, Beginning, Iterating}}
use Rattle.bank_shape.specs.declared.pace.Pace.{Pace}
use Rattle.bank_shape.specs.declared.answer.WriteAnswer.TheVariants as wrote
use Rattle.bank_shape.specs.declared.answer.ReadAnswer.TheVariants as came
use Rattle.bank_shape.specs.declared.answer.Keep.TheVariants as keep
use Rattle.bank_shape.specs.declared.answer.Step.TheVariants as did
use Rattle.bank_model.specs.{After.{work_after, is_store_of}, Changes.{change_after, change_by, keeping_after, keeping_by, rounds_after, rounds_by, halted_after, halted_by}}
use Rattle.bank_model.specs.{Events.{BankEvent, Write, Read, Serve, Begin, Iterate, Cut, newest}, History.{awaited, queue, waits, has_exhausted, in_progress, iterated}}
use Rattle.bank_model.specs.Lawful.{Lawful, MayCome}
use Rattle.bank_model.specs.Running.{busy_by, made_by, busy_after, made_after, ready_after, drops_begin, started, left_by, running, running_at, chosen_after, cancels_after}
use Rattle.bank_model.specs.Timing.{Happens, Core, Regs, KeepBegin, KeepIterate, KeepCut, TimedEvent, ends, is_doing, is_writing, is_empty, core, core_of, last_tick}
use Rattle.bank_laws.proofs.Changing.{busy-none, busy-some, made-none, made-some}
use Rattle.tick_laws.proofs.Actions.{since, since-started, since_of, reads_of, Fits, FitsAll, running_at-fits}
use Rattle.tick_laws.proofs.Holdups.{IsHeld, held-reads, held-wait, held-push, held-merged, store-held, held-begins_none, works, not_begun-next}
use Rattle.tick_laws.proofs.{Tallies.{stores_by, moves_by, others_by, serves_by, cuts_by, cancelled_by}, Turns.chosen-reads, Waits.{work_time, few_times, times_more}}

-- the time that a line write in progress took so far, without the reads served in between
abbrev pub spent : ℕ → ℕ → Bool → ℕ → ℕ
spent read iter true count = read + count * iter
spent read iter false count = 0

-- what an event adds to the ticks that may have passed since an arrival: an attempt for a store, a move, a retirement, a cut or a
-- cancel, two senses for a serve, and one for a cut that is no cancel
abbrev pub gain : {n : ℕ} → ℕ → ℕ → Happens n → Bool → ℕ
gain read work h cancels =
    (read + work) * (stores_by h + moves_by h + others_by h + cuts_by h cancels + cancelled_by h cancels) + read * (2 * serves_by h + cuts_by h cancels)

-- what runs began in time: by the time that the line write in progress took, or by a sense where its begin was dropped, with no change
abbrev pub InTime : {n : ℕ} → BankShape → ℕ → ℕ → ℕ → Option ℕ → Bool → ℕ → List (BankEvent n) → Option Action → ℕ → Type 0
InTime shape read iter base change busy count h r top =
    (top ≤ base + spent read iter busy count) ⊎ ((IsHeld shape h × (change ≡ None)) × (is_doing Beginning r ≡ false) × (top ≤ base + read))

spent-most : (read iter work : ℕ) (busy : Bool) (count : ℕ) → (busy ≡ true → count * iter + iter ≤ work) → spent read iter busy count ≤ read + work
spent-most read iter work true count few = let k : count * iter + iter ≤ work = few refl in omega arith
spent-most read iter work false count few = omega arith

spent-iterated : (read iter work : ℕ) (busy : Bool) (count : ℕ) → busy ≡ true → count * iter + iter ≤ work → spent read iter busy count + iter ≤ read + work
spent-iterated read iter work busy count is few = grind arith

spent-more : (read iter : ℕ) (busy : Bool) (count : ℕ) → busy ≡ true → spent read iter busy count + iter ≡ read + (count + 1) * iter
spent-more read iter true count is = let k : (count + 1) * iter ≡ count * iter + iter = times_more count iter in omega (arith, k)
spent-more read iter false count is = absurd (cc)

spent-idle : (read iter : ℕ) (busy : Bool) (count : ℕ) → busy ≡ false → spent read iter busy count ≡ 0
spent-idle read iter busy count is = grind arith

-- a cut comes at most an attempt and a sense later
at_cut : (read iter work base : ℕ) (way busy reads : Bool) (count tick : ℕ) (r : Option Action) → (busy ≡ true → count * iter + iter ≤ work) → IfSome r (λ a. Fits way busy reads a.doing)
    → IfSome r (λ a. tick < a.first + lasts read iter a.doing) → (since r tick ≤ base + spent read iter busy count) ⊎ ((busy ≡ false) × (since r tick ≤ base + read))
    → tick ≤ ((read + work) * 1 + read * 1) + base
at_cut read iter work base way busy reads count tick None few f end (inl h) = let k : spent read iter busy count ≤ read + work = spent-most read iter work busy count few in omega arith
at_cut read iter work base way busy reads count tick None few f end (inr h) = omega (arith, h.1)
at_cut read iter work base way busy reads count tick (Some action) few f end h = by action.doing f end h
  where
    by : (doing : Doing) → Fits way busy reads doing → tick < action.first + lasts read iter doing → (action.first ≤ base + spent read iter busy count) ⊎ ((busy ≡ false) × (action.first ≤ base + read))
        → tick ≤ ((read + work) * 1 + read * 1) + base
    by Serving f end (inr h) = omega (arith, h.1)
    by Beginning f end (inr h) = omega (arith, h.1)
    by Iterating f end (inl h) = let k : spent read iter busy count + iter ≤ read + work = spent-iterated read iter work busy count f (few f) in omega arith
    by Iterating f end (inr h) = let k : true ≡ false = sym f ∙ h.0 in absurd (cc)
    by _ f end _ = let k : spent read iter busy count ≤ read + work = spent-most read iter work busy count few in omega arith

-- and at most an attempt later where it is a cancel, for then a line write runs
at_cancel : (read iter work base : ℕ) (way busy reads : Bool) (count tick : ℕ) (r : Option Action) → (busy ≡ true → count * iter + iter ≤ work) → IfSome r (λ a. Fits way busy reads a.doing)
    → IfSome r (λ a. tick < a.first + lasts read iter a.doing) → is_writing r ≡ true
    → (since r tick ≤ base + spent read iter busy count) ⊎ ((busy ≡ false) × (is_doing Beginning r ≡ false) × (since r tick ≤ base + read)) → tick ≤ ((read + work) * 1 + read * 0) + base
at_cancel read iter work base way busy reads count tick None few f end writes h = absurd (cc)
at_cancel read iter work base way busy reads count tick (Some action) few f end writes h = by action.doing f end writes h
  where
    by : (doing : Doing) → Fits way busy reads doing → tick < action.first + lasts read iter doing → is_writing (Some (record { doing = doing; first = action.first })) ≡ true
        → (action.first ≤ base + spent read iter busy count) ⊎ ((busy ≡ false) × (is_doing Beginning (Some (record { doing = doing; first = action.first })) ≡ false) × (action.first ≤ base + read))
        → tick ≤ ((read + work) * 1 + read * 0) + base
    by Serving f end writes h = absurd (cc)
    by Beginning f end writes (inl h) = let k : spent read iter busy count ≡ 0 = spent-idle read iter busy count f in omega arith
    by Beginning f end writes (inr h) = absurd (cc (h.1))
    by Iterating f end writes (inl h) = let k : spent read iter busy count + iter ≤ read + work = spent-iterated read iter work busy count f (few f) in omega arith
    by Iterating f end writes (inr h) = let k : true ≡ false = sym f ∙ h.0 in absurd (cc)

writing_of : (a b c d : Bool) → (a && (b && (c && d))) ≡ true → b ≡ true
writing_of a b c d h = grind arith

module _ {n m : ℕ} (shape : BankShape) (pace : Pace) (e : ℕ) where
  abbrev pub In : ℕ → List (TimedEvent n m) → Option Action → ℕ → Type 0
  In base zs r top = InTime shape pace.read pace.iter base (change_after shape zs) (busy_after shape zs) (made_after shape zs) (core zs) r top

  abbrev pub Delay : ℕ → List (TimedEvent n m) → Type 0
  Delay base zs = In base zs (running shape pace zs) (since_of shape pace zs)

  -- the same at the tick of the next event, before that
  abbrev pub DelayAt : ℕ → List (TimedEvent n m) → ℕ → Type 0
  DelayAt base zs tick = In base zs (running_at shape pace zs tick) (since (running_at shape pace zs tick) tick)

  pub delay_at : (base : ℕ) (zs : List (TimedEvent n m)) (tick row : ℕ) → last_tick zs ≤ tick → has_row (queue shape (core zs)) row ≡ true → has_exhausted (core zs) ≡ false → halted_after zs ≡ false → Delay base zs
      → DelayAt base zs tick
  delay_at base zs tick row rises there fine runs d = by d
    where
      some : (d : Doing) × (chosen_after shape pace zs ≡ Some d)
      some = works (gives_way pace.policy) shape (core zs) (change_after shape zs) (keeping_after zs) (halted_after zs) row there fine runs

      top : since (running_at shape pace zs tick) tick ≡ since_of shape pace zs
      top = ap (λ d. since (started (running shape pace zs) d (last_tick zs) tick) tick) some.1 ∙ since-started (running shape pace zs) some.0 (last_tick zs) tick rises

      by : Delay base zs → DelayAt base zs tick
      by (inl h) = inl (omega (arith, h, top))
      by (inr h) = inr (h.0, begins, omega (arith, h.2, top))
        where
          next : Doing
          next = cond (gives_way pace.policy) Serving (cond (busy_after shape zs) Iterating Serving)

          chosen : chosen_after shape pace zs ≡ Some next
          chosen =
              ap (λ b. chosen_by (gives_way pace.policy) b (choice (busy_after shape zs) (ready_after shape zs))) (held-reads (waits shape (core zs)) (queue shape (core zs)) h.0.0.held)
              ∙ chosen-reads (gives_way pace.policy) (busy_after shape zs) (ready_after shape zs)

          begins : is_doing Beginning (running_at shape pace zs tick) ≡ false
          begins =
              subst (λ d. is_doing Beginning (started (running shape pace zs) d (last_tick zs) tick) ≡ false) (sym chosen)
              (not_begun-next (gives_way pace.policy) (busy_after shape zs) (running shape pace zs) (last_tick zs) tick h.1)

  module _ (base : ℕ) (zs : List (TimedEvent n m)) (y : TimedEvent n m) (l : Lawful shape pace e (y ∷ zs)) where
    abbrev pub DelayBy : Happens n → Type 0
    DelayBy h =
        InTime shape pace.read pace.iter (gain pace.read (work_time pace e) h y.cancels + base) (change_by shape (core zs) h (change_after shape zs))
        (busy_by (change_by shape (core zs) h (change_after shape zs)) (keeping_by h (keeping_after zs)) (in_progress (core_of h (core zs))))
        (made_by (change_by shape (core zs) h (change_after shape zs)) (rounds_by h (rounds_after zs)) (iterated (core_of h (core zs)))) (core_of h (core zs))
        (left_by shape (core zs) (change_after shape zs) h (running_at shape pace zs y.tick)) (since (left_by shape (core zs) (change_after shape zs) h (running_at shape pace zs y.tick)) y.tick)

    abbrev pub Held : Type 0
    Held = IsHeld shape (core zs) × (change_after shape zs ≡ None)

    abbrev runs : Option Action
    runs = running_at shape pace zs y.tick

    ending : (doing : Doing) → runs ≡ Some (record { doing = doing; first = y.first }) → DelayAt base zs y.tick → In base zs (Some (record { doing = doing; first = y.first })) y.first
    ending doing is d = subst (λ r. In base zs r (since r y.tick)) is d

    fits_ending : (doing : Doing) → runs ≡ Some (record { doing = doing; first = y.first }) → Fits (gives_way pace.policy) (busy_after shape zs) (reads_of shape pace zs) doing
    fits_ending doing is = subst (λ r. FitsAll shape pace zs r) is (running_at-fits shape pace e zs y.tick)

    few : busy_after shape zs ≡ true → made_after shape zs * pace.iter + pace.iter ≤ work_time pace e
    few busy = few_times shape pace e zs l.1 busy

    held-idle : Held → busy_after shape zs ≡ false
    held-idle h = busy-none (change_after shape zs) (keeping_after zs) (in_progress (core zs)) h.1 ∙ h.0.idle

    at_read : (row line : ℕ) (b : Bool) (r : Option Action) → (b ≡ true → ((is_doing Beginning r ≡ true) × (is_store_of line (work_after shape (core zs)) ≡ true)) × (change_after shape zs ≡ None))
        → IfSome r (λ a. y.tick < ends pace a) → FitsAll shape pace zs r → In base zs r (since r y.tick)
        → InTime shape pace.read pace.iter (gain {n = n} pace.read (work_time pace e) (Core (Read row line came.Waiting)) y.cancels + base) (change_after shape zs) (busy_after shape zs) (made_after shape zs)
        (Read row line came.Waiting ∷ core zs) (cond b None r) (since (cond b None r) y.tick)
    at_read row line false r drops end f (inl h) = inl (omega (arith, h))
    at_read row line false r drops end f (inr h) =
        inr ((record { idle = h.0.0.idle; due = h.0.0.due; held = held-wait (waits shape (core zs)) _ (queue shape (core zs)) h.0.0.held }, h.0.1), h.1, omega (arith, h.2))
    at_read row line true None drops end f h = let k : false ≡ true = (drops refl).0.0 in absurd (cc)
    at_read row line true (Some action) drops end f (inr h) = absurd (cc (h.1, (drops refl).0.0))
    at_read row line true (Some action) drops end f (inl h) = by action.doing (drops refl).0.0 end f
      where
        by : (doing : Doing) → is_doing Beginning (Some (record { doing = doing; first = action.first })) ≡ true → y.tick < action.first + lasts pace.read pace.iter doing
            → Fits (gives_way pace.policy) (busy_after shape zs) (reads_of shape pace zs) doing
            → InTime shape pace.read pace.iter (gain {n = n} pace.read (work_time pace e) (Core (Read row line came.Waiting)) y.cancels + base) (change_after shape zs) (busy_after shape zs) (made_after shape zs)
            (Read row line came.Waiting ∷ core zs) None y.tick
        by Beginning d end f =
            let v = awaited row line (newest (core zs) line) (layer_of (queue shape (core zs)) line) in
            let held = store-held shape (core zs) line v refl (drops refl).0.1 in
            let none : spent pace.read pace.iter (busy_after shape zs) (made_after shape zs) ≡ 0 = spent-idle pace.read pace.iter (busy_after shape zs) (made_after shape zs) f in
            let idle : in_progress (core zs) ≡ false = sym (busy-none (change_after shape zs) (keeping_after zs) (in_progress (core zs)) (drops refl).1) ∙ f in
            inr ((record { idle = idle; due = held.0; held = held.1 }, (drops refl).1), refl, omega (arith, h, end, none))
        by _ d end f = absurd (cc)

    begin_by : (Held → ⊥) → busy_after shape zs ≡ false → y.tick ≡ y.first + pace.read → In base zs (Some (record { doing = Beginning; first = y.first })) y.first → y.tick ≤ base + pace.read
    begin_by free idle end (inr h) = absurd (free h.0)
    begin_by free idle end (inl h) =
        let none : spent pace.read pace.iter (busy_after shape zs) (made_after shape zs) ≡ 0 = spent-idle pace.read pace.iter (busy_after shape zs) (made_after shape zs) idle in
        omega (arith, h, end, none)

    iterate_by : busy_after shape zs ≡ true → y.tick ≡ y.first + pace.iter → In base zs (Some (record { doing = Iterating; first = y.first })) y.first
        → y.tick ≤ base + (spent pace.read pace.iter (busy_after shape zs) (made_after shape zs) + pace.iter)
    iterate_by busy end (inr h) = absurd (cc (held-idle h.0, busy))
    iterate_by busy end (inl h) = omega (arith, h, end)

    -- a line write that ends is no later than an attempt
    begin_end : y.tick ≤ base + pace.read → y.tick ≤ ((pace.read + work_time pace e) * 1 + pace.read * 0) + base
    begin_end h = omega arith

    iterate_end : busy_after shape zs ≡ true → y.tick ≤ base + (spent pace.read pace.iter (busy_after shape zs) (made_after shape zs) + pace.iter) → y.tick ≤ ((pace.read + work_time pace e) * 1 + pace.read * 0) + base
    iterate_end busy h =
        let k : spent pace.read pace.iter (busy_after shape zs) (made_after shape zs) + pace.iter ≤ pace.read + work_time pace e =
        spent-iterated pace.read pace.iter (work_time pace e) (busy_after shape zs) (made_after shape zs) busy (few busy) in
        omega (arith, h, k)

    at_serve : y.tick ≡ y.first + pace.read → In base zs (Some (record { doing = Serving; first = y.first })) y.first
        → y.tick ≤ (((pace.read + work_time pace e) * 0 + pace.read * 2) + base) + spent pace.read pace.iter (busy_after shape zs) (made_after shape zs)
    at_serve end (inl h) = omega (arith, end, h)
    at_serve end (inr h) = omega (arith, end, h.2)

    -- the begin and an iteration of the bank's line write, and those of the change's
    bank_begins : (answer : Step) → MayCome shape pace e zs y (Core (Begin answer)) → DelayAt base zs y.tick → y.tick ≤ base + pace.read
    bank_begins answer may d =
        begin_by (λ h. held-begins_none shape (core zs) h.0 may.may.0) (fits_ending Beginning may.on_time.0.0) may.on_time.0.1 (ending Beginning may.on_time.0.0 d)

    keep_begins : (answer : Keep) → MayCome shape pace e zs y (Regs (KeepBegin answer)) → DelayAt base zs y.tick → y.tick ≤ base + pace.read
    keep_begins answer may d =
        begin_by (λ h. absurd (cc (ap is_some h.1, may.stands)))
        (fits_ending Beginning may.on_time.0.0) may.on_time.0.1 (ending Beginning may.on_time.0.0 d)

    iterates : runs ≡ Some (record { doing = Iterating; first = y.first }) → y.tick ≡ y.first + pace.iter → DelayAt base zs y.tick
        → y.tick ≤ base + (spent pace.read pace.iter (busy_after shape zs) (made_after shape zs) + pace.iter)
    iterates is end d = iterate_by (fits_ending Iterating is) end (ending Iterating is d)

    -- what goes on has taken so long
    goes : (b : Bool) (count more : ℕ) → b ≡ true → count ≡ more → pace.read + more * pace.iter ≤ spent pace.read pace.iter b count
    goes true count more is same = subst (λ k. pace.read + more * pace.iter ≤ pace.read + k * pace.iter) (sym same) (omega arith)
    goes false count more is same = absurd (cc)

    cancel_by : IfSome runs (λ a. y.tick < ends pace a) → is_writing runs ≡ true → DelayAt base zs y.tick → y.tick ≤ ((pace.read + work_time pace e) * 1 + pace.read * 0) + base
    cancel_by end writes d =
        at_cancel pace.read pace.iter (work_time pace e) base (gives_way pace.policy) (busy_after shape zs) (reads_of shape pace zs) (made_after shape zs) y.tick runs few (running_at-fits shape pace e zs y.tick)
        end writes (by d)
      where
        by : DelayAt base zs y.tick → (since runs y.tick ≤ base + spent pace.read pace.iter (busy_after shape zs) (made_after shape zs)) ⊎ ((busy_after shape zs ≡ false) × (is_doing Beginning runs ≡ false) × (since runs y.tick ≤ base + pace.read))
        by (inl h) = inl h
        by (inr h) = inr (held-idle h.0, h.1, h.2)

    cut_by : (tearing cancels : Bool) → IfSome runs (λ a. y.tick < ends pace a) → (cancels ≡ true → is_writing runs ≡ true) → DelayAt base zs y.tick
        → y.tick ≤ gain {n = n} pace.read (work_time pace e) (Core (Cut tearing)) cancels + base
    cut_by tearing true end writes d = cancel_by end (writes refl) d
    cut_by tearing false end writes d =
        at_cut pace.read pace.iter (work_time pace e) base (gives_way pace.policy) (busy_after shape zs) (reads_of shape pace zs) (made_after shape zs) y.tick runs few (running_at-fits shape pace e zs y.tick)
        end (by d)
      where
        by : DelayAt base zs y.tick → (since runs y.tick ≤ base + spent pace.read pace.iter (busy_after shape zs) (made_after shape zs)) ⊎ ((busy_after shape zs ≡ false) × (since runs y.tick ≤ base + pace.read))
        by (inl h) = inl h
        by (inr h) = inr (held-idle h.0, h.2)

    kept_cut : (tearing cancels : Bool) → cancels ≡ true → y.tick ≤ ((pace.read + work_time pace e) * 1 + pace.read * 0) + base → y.tick ≤ gain {n = n} pace.read (work_time pace e) (Regs (KeepCut tearing)) cancels + base
    kept_cut tearing cancels is h = grind arith

    pub step : (h : Happens n) → MayCome shape pace e zs y h → has_exhausted (core_of h (core zs)) ≡ false → halted_by h (halted_after zs) ≡ false → DelayAt base zs y.tick → DelayBy h
    step (Core (Write row line bytes given wrote.Accepted)) may fine run (inr h) =
        inr ((record { idle = h.0.0.idle; due = h.0.0.due; held = held-push (waits shape (core zs)) (queue shape (core zs)) _ h.0.0.held }, h.0.1), h.1, omega (arith, h.2))
    step (Core (Write row line bytes given (wrote.Merged old))) may fine run (inr h) =
        inr ((record { idle = h.0.0.idle; due = h.0.0.due; held = held-merged (waits shape (core zs)) (queue shape (core zs)) old row bytes given h.0.0.held }, h.0.1), h.1, omega (arith, h.2))
    step (Core (Read row line came.Waiting)) may fine run d =
        at_read row line (drops_begin shape (core zs) (change_after shape zs) line runs) runs (dropped (change_after shape zs)) may.on_time.0.2 (running_at-fits shape pace e zs y.tick) d
      where
        dropped : (change : Option ℕ) → drops_begin shape (core zs) change line runs ≡ true
            → ((is_doing Beginning runs ≡ true) × (is_store_of line (work_after shape (core zs)) ≡ true)) × (change ≡ None)
        dropped None h = (and_parts (is_doing Beginning runs) (is_store_of line (work_after shape (core zs))) h, refl)
        dropped (Some item) h = absurd (cc)
    step (Core (Serve answer)) may fine run d = inl (at_serve may.on_time.0.1 (ending Serving may.on_time.0.0 d))
    step (Core (Begin did.More)) may fine run d =
        let h = bank_begins did.More may d in
        let k = goes _ _ 0 (busy-none (change_after shape zs) false true may.on_time.2) (made-none (change_after shape zs) 0 0 may.on_time.2) in
        inl (omega (arith, h, k))
    step (Core (Begin (did.Retired slot line))) may fine run d = absurd may.may.1
    step (Core (Begin did.Exhausted)) may fine run d = absurd (cc)
    step (Core (Begin _)) may fine run d = let h = begin_end (bank_begins _ may d) in inl (omega (arith, h))
    step (Core (Iterate did.More)) may fine run d =
        let h = iterates may.on_time.0.0 may.on_time.0.1 d in
        let j = spent-more pace.read pace.iter (busy_after shape zs) (made_after shape zs) (fits_ending Iterating may.on_time.0.0) in
        let its : made_after shape zs ≡ iterated (core zs) = made-none (change_after shape zs) (rounds_after zs) (iterated (core zs)) may.on_time.2 in
        let k =
        goes _ _ (made_after shape zs + 1) (busy-none (change_after shape zs) false true may.on_time.2)
        (made-none (change_after shape zs) 0 (iterated (core zs) + 1) may.on_time.2 ∙ ap (λ k. k + 1) (sym its)) in
        inl (omega (arith, h, j, k))
    step (Core (Iterate did.Exhausted)) may fine run d = absurd (cc)
    step (Core (Cut tearing)) may fine run d =
        let h = cut_by tearing y.cancels may.on_time.0.2
        (λ c. writing_of (is_cancelling pace.policy) (is_writing runs) (is_empty (waits shape (core zs))) (nat_lt (cancels_after zs) most_cancels) (may.on_time.2 c)) d in
        inl (omega (arith, h))
    step (Regs (KeepBegin keep.More)) may fine run d =
        let h = keep_begins keep.More may d in
        let k = goes _ _ 0 (busy-some (change_after shape zs) true (in_progress (core zs)) may.stands) (made-some (change_after shape zs) 0 (iterated (core zs)) may.stands) in
        inl (omega (arith, h, k))
    step (Regs (KeepBegin keep.Done)) may fine run d = let h = begin_end (keep_begins _ may d) in inl (omega (arith, h))
    step (Regs (KeepBegin keep.Halted)) may fine run d = let k : ⊥ = may.may.2 refl in absurd k
    step (Regs (KeepIterate keep.More)) may fine run d =
        let h = iterates may.on_time.0.0 may.on_time.0.1 d in
        let j = spent-more pace.read pace.iter (busy_after shape zs) (made_after shape zs) (fits_ending Iterating may.on_time.0.0) in
        let its : made_after shape zs ≡ rounds_after zs = made-some (change_after shape zs) (rounds_after zs) (iterated (core zs)) may.stands in
        let k =
        goes _ _ (made_after shape zs + 1) (busy-some (change_after shape zs) true (in_progress (core zs)) may.stands)
        (made-some (change_after shape zs) (rounds_after zs + 1) (iterated (core zs)) may.stands ∙ ap (λ k. k + 1) (sym its)) in
        inl (omega (arith, h, j, k))
    step (Regs (KeepIterate keep.Halted)) may fine run d = absurd (cc)
    step (Regs (KeepCut tearing)) may fine run d =
        let h = kept_cut tearing y.cancels may.on_time.2
        (cancel_by may.on_time.0.2 (writing_of (is_cancelling pace.policy) (is_writing runs) (is_empty (waits shape (core zs))) (nat_lt (cancels_after zs) most_cancels) may.on_time.3) d) in
        inl (omega (arith, h))
    step (Core (Iterate _)) may fine run d = let h = iterate_end (fits_ending Iterating may.on_time.0.0) (iterates may.on_time.0.0 may.on_time.0.1 d) in inl (omega (arith, h))
    step (Regs (KeepIterate keep.Done)) may fine run d = let h = iterate_end (fits_ending Iterating may.on_time.0.0) (iterates may.on_time.0.0 may.on_time.0.1 d) in inl (omega (arith, h))
    step _ may fine run (inl h) = inl (omega (arith, h))
    step _ may fine run (inr h) = inr ((record { idle = h.0.0.idle; due = h.0.0.due; held = h.0.0.held }, h.0.1), h.1, omega (arith, h.2))

    -- a store is no later than an attempt
    pub store_tick : (h : Happens n) → MayCome shape pace e zs y h → stores_by h ≡ 1 → DelayAt base zs y.tick → y.tick ≤ gain pace.read (work_time pace e) h y.cancels + base
    store_tick (Core (Begin (did.Stored row place))) may one d = let h = begin_end (bank_begins _ may d) in omega (arith, h)
    store_tick (Core (Iterate (did.Stored row place))) may one d = let h = iterate_end (fits_ending Iterating may.on_time.0.0) (iterates may.on_time.0.0 may.on_time.0.1 d) in omega (arith, h)
    store_tick _ may one d = absurd (omega arith)

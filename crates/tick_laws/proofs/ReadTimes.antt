-- A read is read or lost in time.
use Rattle.std.proofs.Common.{◌≡◌, ◌≢◌, ℕ, ◌+◌, ◌*◌, ◌<◌, ◌≤◌, ◌==◌, ◌||◌, inl, inr, not, Bool, true, false, List, [], ◌∷◌, ◌++◌, Option, Some, None, length, refl, sym, ap, ◌∙◌, subst, arith, cond, append_assoc}
use Rattle.std.{specs.List.list_any, specs.Prelude.{nat_le, nat_lt, max}, proofs.lemmas.Bool.{le-leb, lt-ltb, eq-eqb, or_from, and_from}}
use Rattle.std.proofs.lemmas.List.Folds.{list_any-append, list_all-append}
use Rattle.result_rows.specs.declared.Outcome.{Outcome}
use Rattle.result_rows.specs.declared.Outcome.TheVariants as out
use Rattle.row_rules.specs.{Queueing.waiting, Rows.is_cut, Ticking.{delay, bound, last_store, came_since, no_cut_below, first_cut_at, read_in_time}, declared.Row.Row}
use Rattle.row_rules.specs.declared.Rules.{Rules}
use Rattle.bank_shape.specs.{Pausing.{is_cancelling, most_cancels, gives_way}, declared.BankShape.BankShape, declared.clock.Action.Action, declared.clock.Doing.Doing}
use Rattle.bank_shape.specs.{declared.clock.Doing.TheVariants.Serving, declared.pace.Pace.Pace, declared.pace.Policy.Policy}
use Rattle.bank_shape.specs.declared.pace.Policy.TheVariants.{Pause, Plain, Cancel}
use Rattle.bank_shape.specs.declared.answer.WriteAnswer.TheVariants as wrote
use Rattle.bank_shape.specs.declared.answer.ReadAnswer.TheVariants as came
use Rattle.bank_shape.specs.declared.answer.Step.TheVariants as did
use Rattle.bank_model.specs.{Changes.change_after, Events.{Write, Read, Serve, Begin, Iterate, Cut, newest}, History.{Awaited, awaited, queue, waits}}
use Rattle.bank_model.specs.{Lawful.{Lawful, MayCome, would_cancel}, Running.{busy_after, made_after, drops_begin, left_by, running_at, cancels_after}}
use Rattle.bank_model.specs.Timing.{Happens, Core, Regs, KeepCut, TimedEvent, is_writing, is_empty, core, core_of, last_tick}
use Rattle.masked_bytes.specs.Entries.{layer_of}
use Rattle.right_runs.specs.Banks.{rules_of}
use Rattle.bank_laws.{specs.Outcomes.{outcome_with, outcome_of, row_with, rows_from}, specs.Standing.has_wait, specs.Ticks.ends_action, proofs.Answering.{IsFirst, served-first}}
use Rattle.bank_laws.proofs.{Ending.{Onwards, own_answer}, Fates.{Awaits, IsSettled, ReadFate, awaits-has, awaits-new}, Serves.{may_at, onwards_at}}
use Rattle.bank_laws.proofs.{Settling.{opens, lawful_before}, Standing.stand_apart, Ticks.last_tick-rises, Waiting.{waits_length, cancels-none, settled_all}}
use Rattle.bank_laws.proofs.Walking.{Passes, walk, rows_after}
use Rattle.tick_laws.{specs.TickLaws.{reads_in_time, ReadTimeLaw}, proofs.Actions.{since, since-up, FitsAll, running_at-fits}}
use Rattle.tick_laws.proofs.{Afterwards.{none-below, first-behind, rows_after-append, late-cuts}, Cancelling.{stored_at, idle_runs}}
use Rattle.tick_laws.proofs.{Settings.{SetAt, row_set, setting, unset_before, unset_waits}, Tallies.stores_by}
use Rattle.tick_laws.proofs.Turns.{turn, turn-some, turn-new, NotEarly, not_early-new, owes, owes-most}
use Rattle.tick_laws.proofs.Waits.{Turn, TurnAt, turn_at, TurnBy, step, work_time, few_times, fits_ending, ending, at_end, at_cut, some-reads}

module _ {n : ℕ} where
  -- what the outcome of a read that came at tick a has to do with a bound and the rows behind it
  abbrev pub InTime : (read a bound : ℕ) → List (Row n) → Outcome n → Type 0
  InTime read a bound after (out.Read u place bytes) = (a + read ≤ u) × (u ≤ bound) × (no_cut_below u after ≡ true)
  InTime read a bound after (out.Lost u) = (first_cut_at u after ≡ true) × (u < bound)
  InTime read a bound after _ = Unit {0}

  in_time : (rules : Rules) (a most : ℕ) (before after : List (Row n)) (o : Outcome n) → bound rules a before after ≡ most → InTime rules.read_ticks a most after o → read_in_time rules a o before after ≡ true
  in_time rules a most before after (out.Read u place bytes) same h =
      and_from (nat_le (a + rules.read_ticks) u) _ (le-leb (a + rules.read_ticks) u h.0)
      (and_from (nat_le u (bound rules a before after)) _
      (subst (λ k. nat_le u k ≡ true) (sym same) (le-leb u most h.1)) h.2)
  in_time rules a most before after (out.Lost u) same h =
      and_from (first_cut_at u after) _ h.0 (subst (λ k. nat_lt u k ≡ true) (sym same) (lt-ltb u most h.1))
  in_time rules a most before after _ same h = refl

  -- a line write holds up a read that comes no longer than is said
  delay-most : (rules : Rules) (p : Policy) (a : ℕ) (before after : List (Row n)) (busy : Bool) (r : Option Action)
      → (is_cancelling p ≡ true → nat_lt (came_since (last_store a (before ++ after)) before) 4 ≡ true → owes rules.read_ticks rules.iter_ticks (rules.steps * rules.iter_ticks) true busy r ≡ 0)
      → owes rules.read_ticks rules.iter_ticks (rules.steps * rules.iter_ticks) (gives_way p) busy r ≤ delay rules p a before after
  delay-most rules Pause a before after busy r few = owes-most rules.read_ticks rules.iter_ticks (rules.steps * rules.iter_ticks) true busy r
  delay-most rules Plain a before after busy r few = owes-most rules.read_ticks rules.iter_ticks (rules.steps * rules.iter_ticks) false busy r
  delay-most rules Cancel a before after busy r few = by (nat_lt (came_since (last_store a (before ++ after)) before) 4) (few refl)
    where
      by : (b : Bool) → (b ≡ true → owes rules.read_ticks rules.iter_ticks (rules.steps * rules.iter_ticks) true busy r ≡ 0) → owes rules.read_ticks rules.iter_ticks (rules.steps * rules.iter_ticks) true busy r ≤ cond b 0 (max rules.read_ticks rules.iter_ticks)
      by true few = let k = few refl in omega (arith, k)
      by false few = owes-most rules.read_ticks rules.iter_ticks (rules.steps * rules.iter_ticks) true busy r

pub owes-idle : (read iter work : ℕ) (busy b : Bool) (r : Option Action) → is_writing r ≡ false → owes read iter work true busy (cond b None r) ≡ 0
owes-idle read iter work busy true r h = refl
owes-idle read iter work busy false None h = refl
owes-idle read iter work busy false (Some action) h = by action.doing h
  where
    by : (doing : Doing) → is_writing (Some (record { doing = doing; first = action.first })) ≡ false → owes read iter work true busy (Some (record { doing = doing; first = action.first })) ≡ 0
    by doing h = grind arith

-- where a read that came drops the action that runs, none is left, which fits
pub drop_or : {n m : ℕ} (shape : BankShape) (pace : Pace) (ys : List (TimedEvent n m)) (b : Bool)
    (runs : Option Action)
    → FitsAll shape pace ys runs
    → FitsAll shape pace ys (cond b None runs)
drop_or shape pace ys b runs f = grind arith

-- a read has an outcome where none waits in the end
ended_read : {n m : ℕ} (shape : BankShape) (pace : Pace) (e : ℕ) (all : List (TimedEvent n m)) (row : ℕ)
    (owed : List ℕ)
    → waits shape (core all) ≡ []
    → ReadFate shape all row owed → outcome_of shape all row ≢ out.Unset
ended_read {n} shape pace e all row owed idle fate un =
    subst (λ (o : Outcome n). IsSettled owed o) un (settled_all shape pace e all row owed idle fate)

uncancelled : {n m : ℕ} (shape : BankShape) (pace : Pace) (e : ℕ) (zs : List (TimedEvent n m)) (s : TimedEvent n m) (h : Happens n) (row : ℕ) → MayCome shape pace e zs s h → has_wait (waits shape (core zs)) row ≡ true → s.cancels ≡ false
uncancelled shape pace e zs s (Core (Cut tearing)) row may there = by s.cancels may.on_time.2
  where
    by : (b : Bool) → (b ≡ true → would_cancel shape (core zs) pace.policy (running_at shape pace zs s.tick) (cancels_after zs) ≡ true) → b ≡ false
    by true would =
        let none : is_empty (waits shape (core zs)) ≡ true =
        cancels-none (is_cancelling pace.policy) (is_writing (running_at shape pace zs s.tick))
        (is_empty (waits shape (core zs))) (nat_lt (cancels_after zs) most_cancels) (would refl) in
        let some : not (is_empty (waits shape (core zs))) ≡ true = some-reads (waits shape (core zs)) row there in
        absurd (cc (ap not none, some))
    by false would = refl
uncancelled shape pace e zs s (Regs (KeepCut tearing)) row may there =
    let none : is_empty (waits shape (core zs)) ≡ true =
    cancels-none (is_cancelling pace.policy) (is_writing (running_at shape pace zs s.tick))
    (is_empty (waits shape (core zs))) (nat_lt (cancels_after zs) most_cancels) may.on_time.3 in
    let some : not (is_empty (waits shape (core zs))) ≡ true = some-reads (waits shape (core zs)) row there in
    absurd (cc (ap not none, some))
uncancelled shape pace e zs s _ row may there = may.on_time.1

module _ {n m : ℕ} (shape : BankShape) (pace : Pace) (e : ℕ) (all : List (TimedEvent n m)) where
  -- a read that waits is in time, and no cut came
  pub turns : (a most row : ℕ) (owed : List ℕ) (zs : List (TimedEvent n m)) → 1 ≤ pace.read → 1 ≤ pace.iter → Awaits (waits shape (core zs)) row owed → a ≤ last_tick zs → Turn shape pace e a most row zs
      → (mid : List (TimedEvent n m)) → Lawful shape pace e (mid ++ zs) → outcome_of shape (mid ++ zs) row ≡ out.Unset
      → Turn shape pace e a most row (mid ++ zs) × (a ≤ last_tick (mid ++ zs)) × (list_any is_cut (rows_after shape all mid) ≡ false)
  turns a most row owed zs r i waits_on up t [] l un = (t, up, refl)
  turns a most row owed zs r i waits_on up t (y ∷ mid) l un =
      let back = unset_before shape pace e y (mid ++ zs) row l un in
      let before = turns a most row owed zs r i waits_on up t mid l.1 back in
      let rises : last_tick (mid ++ zs) ≤ y.tick = last_tick-rises shape pace e (mid ++ zs) y r i l in
      let there : has_wait (waits shape (core (mid ++ zs))) row ≡ true = unset_waits shape pace e mid zs row owed l.1 waits_on back in
      let still = unset_waits shape pace e (y ∷ mid) zs row owed l waits_on un in
      let over = step shape pace e a most row (mid ++ zs) y l y.happens l.0 there still (turn_at shape pace e a most row (mid ++ zs) y.tick rises before.1 there before.0) in
      let high : a ≤ last_tick (mid ++ zs) = before.1 in (
        record { low = over.low; high = over.high },
        omega (arith, high, rises),
        list_any-append is_cut (rows_after shape all mid) _ ∙ or_from _ _ before.2 (uncut y.happens y.cancels still),
      )
    where
      uncut : (h : Happens n) (cancels : Bool) → has_wait (waits shape (core_of h (core (mid ++ zs)))) row ≡ true → list_any is_cut (row_with shape all h y.tick cancels) ≡ false
      uncut h cancels still = grind arith

  module _ (a most row : ℕ) (zs : List (TimedEvent n m)) (s : TimedEvent n m) (r : 1 ≤ pace.read) (i : 1 ≤ pace.iter) (l : Lawful shape pace e (s ∷ zs)) (mids lates : List (Row n)) where
    -- where the event of a read's outcome comes it comes in time
    at_serve : (ws : List Awaited) (at first : ℕ) → IsFirst ws at → (at == row) ≡ true → NotEarly a row ws (Some (record { doing = Serving; first = first })) → a ≤ first
    at_serve [] at first head own low = absurd head
    at_serve (w ∷ ws) at first head own (inl up) = up
    at_serve (w ∷ ws) at first head own (inr (inl other)) = absurd (cc)
    at_serve (w ∷ ws) at first head own (inr (inr later)) = let same : (w.row == row) ≡ true = subst (λ k. (k == row) ≡ true) head own in absurd (cc)

    -- the rows behind the read, around those of an event
    abbrev Behind : Happens n → List (Row n)
    Behind h = (mids ++ row_with shape all h s.tick s.cancels) ++ lates

    as_set : (h : Happens n) (t o : Outcome n) → t ≡ o → InTime pace.read a most (Behind h) t → InTime pace.read a most (Behind h) o
    as_set h t o same k = subst (λ (o : Outcome n). InTime pace.read a most (Behind h) o) same k

    cut_row : (tearing cancels : Bool) → cancels ≡ false → first_cut_at s.tick (row_with shape all (Core (Cut tearing)) s.tick cancels ++ lates) ≡ true
    cut_row tearing true none = absurd (cc)
    cut_row tearing false none = eq-eqb s.tick s.tick refl

    at_event : (h : Happens n) (o : Outcome n) → MayCome shape pace e zs s h → s.cancels ≡ false → has_wait (waits shape (core zs)) row ≡ true → list_any is_cut mids ≡ false
        → no_cut_below s.tick lates ≡ true → TurnAt shape pace e a most row zs s.tick (running_at shape pace zs s.tick)
        → outcome_with shape zs h s.tick row ≡ Some o → InTime pace.read a most (Behind h) o
    at_event (Core (Write at line bytes given (wrote.Merged old))) o may whole there none late t is = as_set (Core (Write at line bytes given (wrote.Merged old))) _ o (row_set old row _ o is).1 tt
    at_event (Core (Write at line bytes given wrote.Full)) o may whole there none late t is = as_set (Core (Write at line bytes given wrote.Full)) _ o (row_set at row _ o is).1 tt
    at_event (Core (Write at line bytes given wrote.Exhausted)) o may whole there none late t is = as_set (Core (Write at line bytes given wrote.Exhausted)) _ o (row_set at row _ o is).1 tt
    at_event (Core (Read at line came.Busy)) o may whole there none late t is = as_set (Core (Read at line came.Busy)) _ o (row_set at row _ o is).1 tt
    at_event (Core (Read at line (came.Forwarded bytes))) o may whole there none late t is = as_set (Core (Read at line (came.Forwarded bytes))) _ o (row_set at row _ o is).1 tt
    at_event (Core (Serve answer)) o may whole there none late t is =
        let own = row_set answer.row row _ o is in
        let now = ending shape pace e a most row zs s l Serving may.on_time.0.0 t in
        let fits = fits_ending shape pace e a most row zs s l Serving may.on_time.0.0 in
        let end : s.tick ≡ s.first + pace.read = may.on_time.0.1 in
        let low : a ≤ s.first = at_serve (waits shape (core zs)) answer.row s.first (served-first shape (core zs) (waits shape (core zs)) answer may.may) own.0 now.low in
        let high : s.first + pace.read ≤ most =
        at_end pace.read pace.iter (work_time pace e) most (gives_way pace.policy) (busy_after shape zs) (made_after shape zs) s.first (turn pace.read row (waits shape (core zs))) fits.1
        (turn-some pace.read row (waits shape (core zs)) there) now.high in
        as_set (Core (Serve answer)) _ o own.1 (
          omega (arith, low, end),
          omega (arith, high, end),
          list_all-append (λ (q : Row n). not (is_cut q) || nat_le s.tick q.tick) (mids ++ []) lates
              ∙ and_from _ _
              (list_all-append (λ (q : Row n). not (is_cut q) || nat_le s.tick q.tick) mids []
              ∙ and_from _ _ (none-below s.tick mids none) refl) late,
        )
    at_event (Core (Begin (did.Stored at place))) o may whole there none late t is = as_set (Core (Begin (did.Stored at place))) _ o (row_set at row _ o is).1 tt
    at_event (Core (Iterate (did.Stored at place))) o may whole there none late t is = as_set (Core (Iterate (did.Stored at place))) _ o (row_set at row _ o is).1 tt
    at_event (Core (Cut tearing)) o may whole there none late t is =
        as_set (Core (Cut tearing)) (out.Lost s.tick) o (lost (has_wait (waits shape (core zs)) row) is) (
          ap (first_cut_at s.tick) (append_assoc mids (row_with shape all (Core (Cut tearing)) s.tick s.cancels) lates)
              ∙ first-behind s.tick mids _ none ∙ cut_row tearing s.cancels whole,
          at_cut pace.read pace.iter (work_time pace e) most (gives_way pace.policy) (busy_after shape zs) _ (made_after shape zs) s.tick (turn pace.read row (waits shape (core zs))) (running_at shape pace zs s.tick) r
              (turn-some pace.read row (waits shape (core zs)) there) (λ busy. few_times shape pace e zs l.1 busy) (running_at-fits shape pace e zs s.tick) may.on_time.0.2 t.high,
        )
      where
        lost : (b : Bool) → ◌≡◌ {A = Option (Outcome n)} (cond b (Some (out.Lost s.tick)) None) (Some o) → out.Lost s.tick ≡ o
        lost b is = grind arith
    at_event _ o may whole there none late t is = absurd (cc)

  -- so a read that begins to wait is in time in the end
  pub in_end : (a most row : ℕ) (owed : List ℕ) (later zs : List (TimedEvent n m)) → 1 ≤ pace.read → 1 ≤ pace.iter → Lawful shape pace e (later ++ zs)
      → Awaits (waits shape (core zs)) row owed → a ≤ last_tick zs → Turn shape pace e a most row zs → outcome_of shape (later ++ zs) row ≢ out.Unset
      → InTime pace.read a most (rows_after shape all later) (outcome_of shape (later ++ zs) row)
  in_end a most row owed later zs r i l waits_on up t set = by (setting shape pace e later zs row (outcome_of shape (later ++ zs) row) l unset set refl)
    where
      before : Lawful shape pace e zs
      before = lawful_before shape pace e later zs l

      unset : outcome_of shape zs row ≡ out.Unset
      unset = (opens shape pace e zs before).waiting row (awaits-has (waits shape (core zs)) row owed waits_on)

      by : SetAt shape later zs row (outcome_of shape (later ++ zs) row) → InTime pace.read a most (rows_after shape all later) (outcome_of shape (later ++ zs) row)
      by at =
          let whole : Lawful shape pace e (at.late ++ at.event ∷ (at.mid ++ zs)) =
          subst (λ (xs : List (TimedEvent n m)). Lawful shape pace e xs) (ap (λ (xs : List (TimedEvent n m)). xs ++ zs) at.split ∙ append_assoc at.late (at.event ∷ at.mid) zs) l in
          let here : Lawful shape pace e (at.event ∷ (at.mid ++ zs)) = lawful_before shape pace e at.late (at.event ∷ (at.mid ++ zs)) whole in
          let past = turns a most row owed zs r i waits_on up t at.mid here.1 at.unset in
          let there : has_wait (waits shape (core (at.mid ++ zs))) row ≡ true = unset_waits shape pace e at.mid zs row owed here.1 waits_on at.unset in
          let behind = at_event a most row (at.mid ++ zs) at.event r i here (rows_after shape all at.mid) (rows_after shape all at.late) at.event.happens (outcome_of shape (later ++ zs) row) here.0
          (uncancelled shape pace e (at.mid ++ zs) at.event at.event.happens row here.0 there) there past.2
          (late-cuts shape all pace e at.event.tick at.late (at.event ∷ (at.mid ++ zs)) r i whole (omega arith))
          (turn_at shape pace e a most row (at.mid ++ zs) at.event.tick (last_tick-rises shape pace e (at.mid ++ zs) at.event r i here) past.1 there past.0) at.sets in
          subst (λ (rows : List (Row n)). InTime pace.read a most rows (outcome_of shape (later ++ zs) row))
          (sym (rows_after-append shape all at.late (at.event ∷ at.mid)) ∙ ap (rows_after shape all) (sym at.split)) behind

  sums : (s o t x hold k p : ℕ) → s ≤ x → o ≤ hold → t ≡ k → s + o + t ≤ x + hold + k + p
  sums s o t x hold k p top most is = omega arith

  pub read_at : 1 ≤ pace.read → 1 ≤ pace.iter → Lawful shape pace e all → waits shape (core all) ≡ [] → (later : List (TimedEvent n m)) (x : TimedEvent n m) (ys : List (TimedEvent n m)) → all ≡ later ++ x ∷ ys
      → Passes (reads_in_time (rules_of e shape pace)) (rows_from shape all ys) (row_with shape all x.happens x.tick x.cancels) (rows_after shape all later)
  read_at r i l idle later x ys same =
      by x.happens x.cancels (may_at shape pace e all later x ys l same) (onwards_at shape pace e all later x ys l same) (λ arrives. waits_length shape pace e all later x ys r i l idle same arrives)
      (since-up shape pace e (x ∷ ys) r i here) (idle_runs shape pace e all r i l idle later x ys same)
      (λ most row owed waits_on t set.
      subst (λ (xs : List (TimedEvent n m)). InTime pace.read x.tick most (rows_after shape all later) (outcome_of shape xs row)) (sym same)
      (in_end x.tick most row owed later (x ∷ ys) r i whole waits_on (omega arith) t (subst (λ (xs : List (TimedEvent n m)). outcome_of shape xs row ≢ out.Unset) same set)))
    where
      whole : Lawful shape pace e (later ++ x ∷ ys)
      whole = subst (λ (xs : List (TimedEvent n m)). Lawful shape pace e xs) same l

      here : Lawful shape pace e (x ∷ ys)
      here = lawful_before shape pace e later (x ∷ ys) whole

      runs : Option Action
      runs = running_at shape pace ys x.tick

      most : ℕ
      most = x.tick + delay (rules_of e shape pace) pace.policy x.tick (rows_from shape all ys) (rows_after shape all later) + (length (waits shape (core ys)) + 1) * pace.read

      bound-is : length (waiting x.tick [] (rows_from shape all ys)) ≡ length (waits shape (core ys)) → bound (rules_of e shape pace) x.tick (rows_from shape all ys) (rows_after shape all later) ≡ most
      bound-is count = ap (λ k. x.tick + delay (rules_of e shape pace) pace.policy x.tick (rows_from shape all ys) (rows_after shape all later) + (k + 1) * pace.read) count

      by : (h : Happens n) (cancels : Bool) → MayCome shape pace e ys x h → Onwards shape all ys x.tick h
          → (ends_action h ≡ false → length (waiting x.tick [] (rows_from shape all ys)) ≡ length (waits shape (core ys)))
          → since (left_by shape (core ys) (change_after shape ys) h runs) x.tick ≤ x.tick
          → ((row line : ℕ) → is_cancelling pace.policy ≡ true → MayCome shape pace e ys x (Core (Read row line came.Waiting)) → cond (stores_by h == 1) x.tick (stored_at ys) ≡ stored_at ys
          → nat_lt (came_since (last_store x.tick (rows_from shape all ys ++ rows_after shape all later)) (rows_from shape all ys)) 4 ≡ true → is_writing runs ≡ false)
          → ((most row : ℕ) (owed : List ℕ) → Awaits (waits shape (core_of h (core ys))) row owed → TurnBy shape pace e x.tick most row ys x here h (left_by shape (core ys) (change_after shape ys) h runs)
          → outcome_of shape all row ≢ out.Unset → InTime pace.read x.tick most (rows_after shape all later) (outcome_of shape all row))
          → Passes (reads_in_time (rules_of e shape pace)) (rows_from shape all ys) (row_with shape all h x.tick cancels) (rows_after shape all later)
      by (Core (Write row line bytes given answer)) cancels may on count top free go = refl
      by (Core (Read row line (came.Forwarded bytes))) cancels may on count top free go =
          ap (λ (o : Outcome n). read_in_time (rules_of e shape pace) x.tick o (rows_from shape all ys) (rows_after shape all later))
          (own_answer shape pace e all ys x (Core (Read row line (came.Forwarded bytes))) row (out.Forwarded x.tick bytes) on refl (λ is. absurd (cc)))
      by (Core (Read row line came.Busy)) cancels may on count top free go =
          ap (λ (o : Outcome n). read_in_time (rules_of e shape pace) x.tick o (rows_from shape all ys) (rows_after shape all later))
          (own_answer shape pace e all ys x (Core (Read row line came.Busy)) row (out.Busy x.tick) on refl (λ is. absurd (cc)))
      by (Core (Read row line came.Waiting)) cancels may on count top free go =
          let v = awaited row line (newest (core ys) line) (layer_of (queue shape (core ys)) line) in
          let drops = drops_begin shape (core ys) (change_after shape ys) line runs in
          let new : has_wait (waits shape (core ys)) row ≡ false = (stand_apart shape (core ys) row may.asked).waiting_below row (omega arith) in
          let waits_on = awaits-new (waits shape (core ys)) v in
          in_time (rules_of e shape pace) x.tick most (rows_from shape all ys) (rows_after shape all later) (outcome_of shape all row) (bound-is (count refl))
          (go most row (newest (core ys) line) waits_on
          (record {
            low =
                not_early-new x.tick row (gives_way pace.policy) (busy_after shape ys)
                (waits shape (core ys)) v (cond drops None runs) new
                (drop_or shape pace ys drops runs (running_at-fits shape pace e ys x.tick));
            high = sums _ _ _ x.tick (delay (rules_of e shape pace) pace.policy x.tick (rows_from shape all ys) (rows_after shape all later)) ((length (waits shape (core ys)) + 1) * pace.read) _ top
                (delay-most (rules_of e shape pace) pace.policy x.tick (rows_from shape all ys) (rows_after shape all later) (busy_after shape ys) (cond drops None runs)
                (λ cancelling few. owes-idle pace.read pace.iter (work_time pace e) (busy_after shape ys) drops runs (free row line cancelling may refl few)))
                (turn-new pace.read row (waits shape (core ys)) v new refl);
          })
          (ended_read shape pace e all row (newest (core ys) line) idle
          (on.reads row (newest (core ys) line) (inl waits_on))))
      by (Core (Cut tearing)) false may on count top free go = refl
      by _ _ may on count top free go = tt

pub read_time_law : ReadTimeLaw
read_time_law n m e shape pace xs sized l still =
    walk shape xs (reads_in_time (rules_of e shape pace)) [] xs refl (read_at shape pace e xs sized.read sized.iter l still.unawaited)

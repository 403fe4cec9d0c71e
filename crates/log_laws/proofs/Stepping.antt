-- Each event of a lawful history keeps what the senses of a line show.
use Rattle.std.proofs.Common.{◌≡◌, ℕ, ◌+◌, ◌<◌, ◌≤◌, ◌==◌, ◌&&◌, ◌||◌, ◌⊎◌, inl, inr, Bool, true, false, List, [], ◌∷◌, ◌++◌, Option, Some, None, refl, sym, ap, ◌∙◌, subst, arith, cond, eq-eqb, eqb-true, ◌-◌, ◌^◌}
use Rattle.std.{specs.Prelude.{All, IfSome, IsTrue, is_some, map, nat_le, nat_lt}, proofs.lemmas.Bool.{le-leb, le-ltb, and_right, or_left, or_right}}
use Rattle.std.proofs.{lemmas.List.Elements.All-head, lemmas.List.Folds.list_any-append}
use Rattle.masked_bytes.proofs.Truth.{and_first, or_false}
use Rattle.cell_rows.specs.{Device.counted, declared.array.Sense.Sense}
use Rattle.bank_shape.specs.{Pausing.is_cancelling, Shape.{controls_of, controls_from}, declared.BankShape.BankShape, declared.answer.Keep.Keep, declared.answer.Served.Served}
use Rattle.bank_shape.specs.{declared.answer.Step.Step, declared.clock.Action.Action, declared.clock.Doing.TheVariants.Iterating, declared.pace.Pace.Pace}
use Rattle.bank_shape.specs.declared.answer.Keep.TheVariants as keep
use Rattle.bank_model.specs.After.{target_after, sources_of, work_after}
use Rattle.bank_model.specs.Changes.{change_after, change_by, written_by, keeping_after, keeping_by, halted_after, halted_by, line_of_change, all_controls}
use Rattle.bank_model.specs.{Events.{BankEvent, Serve, Begin, Iterate, Cut}, History.{queue, due_after, has_exhausted, in_progress}, Lawful.{Lawful, MayCome, IsNext, IsNextKept}}
use Rattle.bank_model.specs.{Running.{tears_bank, running, running_at, chosen_after, left, left_by}, Sensing.{is_at, most_steps, pulses_of, read_again, kept_sensed}}
use Rattle.bank_model.specs.Timing.{Happens, Core, Regs, Keeping, KeepBegin, KeepIterate, KeepCut, TimedEvent, is_doing, core, core_of, last_tick}
use Rattle.bank_laws.{specs.Laws.IsSized, specs.Outcomes.rows_from, specs.Settling.AreOpen, specs.Ticks.ends_action, proofs.Changing.{changed-idle, halted-stops}}
use Rattle.bank_laws.proofs.{Counted.{counted-cases, pulses-few}, Entries.either, Settling.lawful_before}
use Rattle.bank_laws.proofs.{Targets.{WorkAfter, spares_work, working, target-same, begin-works, unexhausted}, Ticks.last_tick-rises, Waiting.may_all}
use Rattle.right_runs.specs.{Banks.rules_of, Logs.{is_broken, follows}}
use Rattle.place_laws.proofs.WornOut.{change-within}
use Rattle.log_laws.proofs.{Breaking.{cut-here, read-behind, cut-broken}, Chains.{last_of, same_follows, step_follows}, Firsts.{BeganFrom, started-from, left-from}}
use Rattle.log_laws.proofs.{Owning.{own, among, own-none, own-lacks, own-all, numbers-from, numbers-all}, Pulsing.{Due, Busy, Torn, Unseen, Seen, Shown, quiet, noted, tears}}
use Rattle.log_laws.proofs.Unworn.{worn_below, unworn}

-- what goes on after an event was spared by it
goes-spares : {n : ℕ} (event : BankEvent n) (h : List (BankEvent n)) → in_progress (event ∷ h) ≡ true → spares_work event ≡ true
goes-spares event h p = grind arith

-- what stands is no change that doesn't
clash : (shape : BankShape) (line : ℕ) (change : Option ℕ) → change ≡ None → line_of_change shape change ≡ Some line → ⊥
clash shape line change is some = grind arith

-- a change that is written takes nothing's place
written-line : (shape : BankShape) (line : ℕ) (answer : Keep) (change : Option ℕ) → line_of_change shape (written_by answer change) ≡ Some line → line_of_change shape change ≡ Some line
written-line shape line answer change is = grind arith

at-some : (l : Option ℕ) (line : ℕ) → is_at l line ≡ true → l ≡ Some line
at-some None line h = absurd (cc)
at-some (Some at) line h = ap Some (eqb-true at line h)

some-at : (l : Option ℕ) (line : ℕ) → l ≡ Some line → is_at l line ≡ true
some-at None line h = absurd (cc)
some-at (Some at) line h = eq-eqb at line (by h)
  where
    by : ◌≡◌ {A = Option ℕ} (Some at) (Some line) → at ≡ line
    by h = cc

if-at : (b : Bool) (l : Option ℕ) (line : ℕ) → is_at (cond b l None) line ≡ true → (b ≡ true) × (l ≡ Some line) × (is_some (cond b l None) ≡ true)
if-at true (Some at) line h = (refl, at-some (Some at) line h, refl)
if-at _ _ line h = absurd (cc)

tears-none : (change : Option ℕ) (action : Option Action) → true ≡ tears_bank change action → change ≡ None
tears-none change action is = grind arith

module _ {n m : ℕ} (e : ℕ) (shape : BankShape) (pace : Pace) (wears : Bool) (line : ℕ) (wears_is : wears ≡ nat_lt line (controls_from shape)) (all : List (TimedEvent n m)) (sized : IsSized shape pace) (lawful : Lawful shape pace e all) (open_rows : AreOpen shape all) (pre : List (TimedEvent n m)) (x : TimedEvent n m) (xs : List (TimedEvent n m)) (same : all ≡ pre ++ x ∷ xs) where
  abbrev Known : List (TimedEvent n m) → Type 0
  Known zs = Shown shape pace (rules_of e shape pace) (rows_from shape all all) wears line all zs

  abbrev TornHere : List (TimedEvent n m) → Sense n m → Type 0
  TornHere zs s = Torn shape pace (rules_of e shape pace) (rows_from shape all all) wears line all zs s

  abbrev UnseenHere : List (TimedEvent n m) → Type 0
  UnseenHere zs = Unseen shape pace (rules_of e shape pace) (rows_from shape all all) wears line all zs

  abbrev SeenHere : List (TimedEvent n m) → Sense n m → List (Sense n m) → Type 0
  SeenHere zs s ss = Seen shape pace (rules_of e shape pace) (rows_from shape all all) wears line all zs s ss

  abbrev DueHere : List (TimedEvent n m) → Type 0
  DueHere zs = Due shape pace (rules_of e shape pace) (rows_from shape all all) wears line all zs

  abbrev BusyHere : List (TimedEvent n m) → Type 0
  BusyHere zs = Busy shape pace (rules_of e shape pace) (rows_from shape all all) wears line all zs

  here : Lawful shape pace e (x ∷ xs)
  here = lawful_before shape pace e pre (x ∷ xs) (subst (λ (zs : List (TimedEvent n m)). Lawful shape pace e zs) same lawful)

  rises : last_tick xs ≤ x.tick
  rises = last_tick-rises shape pace e xs x sized.read sized.iter here

  may : (event : BankEvent n) → x.happens ≡ Core event → IsNext shape pace e xs x event
  may event is = subst (λ h. MayCome shape pace e xs x h) is here.0

  kept : (event : Keeping) → x.happens ≡ Regs event → IsNextKept shape pace e xs x event
  kept event is = subst (λ h. MayCome shape pace e xs x h) is here.0

  core_is : (h : Happens n) → x.happens ≡ h → core (x ∷ xs) ≡ core_of h (core xs)
  core_is h is = ap (λ h. core_of h (core xs)) is

  change_is : (h : Happens n) → x.happens ≡ h → change_after shape (x ∷ xs) ≡ change_by shape (core xs) h (change_after shape xs)
  change_is h is = ap (λ h. change_by shape (core xs) h (change_after shape xs)) is

  keeping_is : (h : Happens n) → x.happens ≡ h → keeping_after (x ∷ xs) ≡ keeping_by h (keeping_after xs)
  keeping_is h is = ap (λ h. keeping_by h (keeping_after xs)) is

  halted_is : (h : Happens n) → x.happens ≡ h → halted_after (x ∷ xs) ≡ halted_by h (halted_after xs)
  halted_is h is = ap (λ h. halted_by h (halted_after xs)) is

  running_is : (h : Happens n) → x.happens ≡ h → running shape pace (x ∷ xs) ≡ left_by shape (core xs) (change_after shape xs) h (running_at shape pace xs x.tick)
  running_is h is = ap (λ h. left_by shape (core xs) (change_after shape xs) h (running_at shape pace xs x.tick)) is

  began_by : (p : ℕ) → p ≤ last_tick xs → BeganFrom p (running shape pace xs) → BeganFrom p (running_at shape pace xs x.tick)
  began_by p le b = started-from p (running shape pace xs) (chosen_after shape pace xs) (last_tick xs) x.tick b le

  keeps : (event : BankEvent n) → x.happens ≡ Core event → (p : ℕ) → p ≤ last_tick xs → BeganFrom p (running shape pace xs) → BeganFrom p (running shape pace (x ∷ xs))
  keeps event is p le b =
      subst (λ r. BeganFrom p r) (sym (running_is (Core event) is)) (left-from shape (core xs) (change_after shape xs) event p (running_at shape pace xs x.tick) (began_by p le b))

  ends_none : running shape pace (x ∷ xs) ≡ None → (p : ℕ) → p ≤ last_tick xs → BeganFrom p (running shape pace xs) → BeganFrom p (running shape pace (x ∷ xs))
  ends_none is p le b = subst (λ r. BeganFrom p r) (sym is) tt

  pulses_by : (b : Bool) → is_at x.pulsed line ≡ b → pulses_of (x ∷ xs) line ≡ cond b (counted (pulses_of xs line)) (pulses_of xs line)
  pulses_by b is = ap (λ b. cond b (counted (pulses_of xs line)) (pulses_of xs line)) is

  works : in_progress (core xs) ≡ true → WorkAfter shape (core xs)
  works p = working shape (most_steps e) (core xs) (may_all shape pace e xs here.1) p

  target_on : (event : BankEvent n) → x.happens ≡ Core event → spares_work event ≡ true → WorkAfter shape (core xs) → target_after shape (core (x ∷ xs)) ≡ target_after shape (core xs)
  target_on event is spares work = ap (λ h. target_after shape h) (core_is (Core event) is) ∙ (target-same shape event (core xs) spares work).1

  work_on : (event : BankEvent n) → x.happens ≡ Core event → spares_work event ≡ true → WorkAfter shape (core xs) → WorkAfter shape (core (x ∷ xs))
  work_on event is spares work = subst (λ h. WorkAfter shape h) (sym (core_is (Core event) is)) (target-same shape event (core xs) spares work).0

  -- a line write that is to be begun isn't in progress
  due-busy : DueHere xs → BusyHere xs → ⊥
  due-busy (inl k) (inl j) = absurd (cc (k.2, j.1))
  due-busy (inl k) (inr j) = clash shape line (change_after shape xs) k.0 j.0
  due-busy (inr k) (inl j) = clash shape line (change_after shape xs) j.0 k.0
  due-busy (inr k) (inr j) = absurd (cc (k.1, j.1))

  -- a control line isn't among those that a worn row ends
  control-wears : controls_from shape ≤ line → wears ≡ false
  control-wears le = wears_is ∙ le-ltb line (controls_from shape) le

  line-wears : (change : Option ℕ) → line_of_change shape change ≡ Some line → wears ≡ false
  line-wears None is = absurd (cc)
  line-wears (Some item) is = control-wears (let at : controls_from shape + item ≡ line = by is in omega (arith, at))
    where
      by : ◌≡◌ {A = Option ℕ} (Some (controls_from shape + item)) (Some line) → controls_from shape + item ≡ line
      by h = cc

  -- what was torn stays so while the same line write is to be begun
  torn_on : (DueHere xs → DueHere (x ∷ xs)) → pulses_of (x ∷ xs) line ≡ pulses_of xs line → (s : Sense n m) → TornHere xs s → TornHere (x ∷ xs) s
  torn_on due pulses s t = record {
    up = pulses ∙ t.up;
    few = t.few;
    due = due t.due;
    broken = λ later z its to le. t.broken pre x same to (let up : last_tick xs ≤ x.tick = rises in omega (arith, up, le));
  }

  due_on : (event : BankEvent n) → x.happens ≡ Core event → spares_work event ≡ true → (in_progress (core xs) ≡ false → in_progress (event ∷ core xs) ≡ false)
      → change_by shape (core xs) (Core event) (change_after shape xs) ≡ change_after shape xs → (keeping_after xs ≡ false → keeping_by (Core event) (keeping_after xs) ≡ false) → DueHere xs → DueHere (x ∷ xs)
  due_on event is spares stops still quiet (inl k) = inl (
    change_is (Core event) is ∙ still ∙ k.0,
    work_on event is spares k.1,
    ap in_progress (core_is (Core event) is) ∙ stops k.2,
    target_on event is spares k.1 ∙ k.3,
  )
  due_on event is spares stops still quiet (inr k) = inr (
    ap (line_of_change shape) (change_is (Core event) is ∙ still) ∙ k.0,
    keeping_is (Core event) is ∙ quiet k.1,
    halted_is (Core event) is ∙ k.2,
  )

  busy_back : (event : BankEvent n) → x.happens ≡ Core event → (in_progress (event ∷ core xs) ≡ true → in_progress (core xs) ≡ true)
      → change_by shape (core xs) (Core event) (change_after shape xs) ≡ change_after shape xs → (keeping_by (Core event) (keeping_after xs) ≡ true → keeping_after xs ≡ true) → BusyHere (x ∷ xs) → BusyHere xs
  busy_back event is goes still quiet (inl k) =
      let now : in_progress (event ∷ core xs) ≡ true = sym (ap in_progress (core_is (Core event) is)) ∙ k.1 in
      let before : in_progress (core xs) ≡ true = goes now in
      inl (sym (change_is (Core event) is ∙ still) ∙ k.0, before, sym (target_on event is (goes-spares event (core xs) now) (works before)) ∙ k.2)
  busy_back event is goes still quiet (inr k) =
      inr (sym (ap (line_of_change shape) (change_is (Core event) is ∙ still)) ∙ k.0, quiet (sym (keeping_is (Core event) is) ∙ k.1))

  -- an event that leaves the line alone
  passes : (event : BankEvent n) → x.happens ≡ Core event → spares_work event ≡ true → (in_progress (core xs) ≡ false → in_progress (event ∷ core xs) ≡ false)
      → (in_progress (event ∷ core xs) ≡ true → in_progress (core xs) ≡ true) → change_by shape (core xs) (Core event) (change_after shape xs) ≡ change_after shape xs
      → (keeping_after xs ≡ false → keeping_by (Core event) (keeping_after xs) ≡ false) → (keeping_by (Core event) (keeping_after xs) ≡ true → keeping_after xs ≡ true)
      → own line x.senses ≡ [] → is_at x.pulsed line ≡ false → Known xs → Known (x ∷ xs)
  passes event is spares stops goes still quiets keeping none unpulsed known =
      quiet shape pace (rules_of e shape pace) (rows_from shape all all) wears line all xs x none (pulses_by false unpulsed) rises (keeps event is)
      (torn_on (due_on event is spares stops still quiets) (pulses_by false unpulsed)) (λ u b. u.untouched (busy_back event is goes still keeping b)) known

  sensed_all : (t : Sense n m) (ts : List (Sense n m)) → All (λ s. (s.tick ≡ x.tick) × (s.pulses ≡ pulses_of (x ∷ xs) s.line)) x.senses → own line x.senses ≡ t ∷ ts
      → All (λ s. (s.tick ≡ x.tick) × (s.pulses ≡ pulses_of (x ∷ xs) line)) (t ∷ ts)
  sensed_all t ts says are =
      subst (λ (ss : List (Sense n m)). All (λ s. (s.tick ≡ x.tick) × (s.pulses ≡ pulses_of (x ∷ xs) line)) ss) are (own-all line x.tick (λ l. pulses_of (x ∷ xs) l) x.senses says)

  first_sensed : (t : Sense n m) (ts : List (Sense n m)) → All (λ s. (s.tick ≡ x.tick) × (s.pulses ≡ pulses_of (x ∷ xs) s.line)) x.senses → own line x.senses ≡ t ∷ ts
      → (t.tick ≡ x.tick) × (t.pulses ≡ pulses_of (x ∷ xs) line)
  first_sensed t ts says are = All-head (λ (s : Sense n m). (s.tick ≡ x.tick) × (s.pulses ≡ pulses_of (x ∷ xs) line)) t ts (sensed_all t ts says are)

  -- what is sensed is among the lines
  own-there : (t : Sense n m) (ts : List (Sense n m)) → own line x.senses ≡ t ∷ ts → among line (map (λ s. s.line) x.senses) ≡ true
  own-there t ts are = by (among line (map (λ s. s.line) x.senses)) refl
    where
      by : (b : Bool) → among line (map (λ s. s.line) x.senses) ≡ b → b ≡ true
      by true is = refl
      by false is = let none : own line x.senses ≡ [] = own-lacks line x.senses is in absurd (cc)

  abbrev Fine : Sense n m → Type 0
  Fine t = (wears && worn_below t.tick (rows_from shape all all)) ≡ false

  none_worn : (t : Sense n m) → t.tick ≡ x.tick → WorkAfter shape (core xs) → IsTrue (ends_action x.happens) → Fine t
  none_worn t at work ends =
      and_right wears (worn_below t.tick (rows_from shape all all))
      (subst (λ k. worn_below k (rows_from shape all all) ≡ false) (sym at)
      (unworn shape pace e all pre x xs sized.read sized.iter lawful open_rows same (unexhausted (has_exhausted (core xs)) (due_after shape (core xs)) (queue shape (core xs)) work) ends))

  fine_control : (t : Sense n m) → wears ≡ false → Fine t
  fine_control t is = ap (λ b. b && worn_below t.tick (rows_from shape all all)) is

  due_fine : (t : Sense n m) → t.tick ≡ x.tick → IsTrue (ends_action x.happens) → DueHere xs → Fine t
  due_fine t at ends (inl k) = none_worn t at k.1 ends
  due_fine t at ends (inr k) = fine_control t (line-wears (change_after shape xs) k.0)

  -- a sense of the line, which isn't pulsed: as the last one, or behind a tear
  link_still : (t : Sense n m) → t.tick ≡ x.tick → t.pulses ≡ pulses_of xs line → (DueHere xs → Fine t) → (s : Sense n m) (ss : List (Sense n m)) → SeenHere xs s ss
      → follows (rules_of e shape pace) (rows_from shape all all) wears (last_of s ss) t ≡ true
  link_still t at pulses fine s ss seen = by seen.now
    where
      up_by : (torn : TornHere xs (last_of s ss)) → (counted (last_of s ss).pulses ≡ (last_of s ss).pulses) ⊎ (counted (last_of s ss).pulses ≡ (last_of s ss).pulses + 1)
          → follows (rules_of e shape pace) (rows_from shape all all) wears (last_of s ss) t ≡ true
      up_by torn (inl still) = same_follows (rules_of e shape pace) (rows_from shape all all) wears (last_of s ss) t (sym (pulses ∙ torn.up ∙ still))
      up_by torn (inr more) =
          step_follows (rules_of e shape pace) (rows_from shape all all) wears (last_of s ss) t (sym (pulses ∙ torn.up ∙ more))
          (or_right (nat_le ((last_of s ss).tick + pace.iter) t.tick) _ (torn.broken pre x same t.tick (let up : last_tick xs ≤ x.tick = rises in omega (arith, up, at))))
          (fine torn.due)

      by : (pulses_of xs line ≡ (last_of s ss).pulses) ⊎ TornHere xs (last_of s ss) → follows (rules_of e shape pace) (rows_from shape all all) wears (last_of s ss) t ≡ true
      by (inl k) = same_follows (rules_of e shape pace) (rows_from shape all all) wears (last_of s ss) t (sym (pulses ∙ k))
      by (inr torn) = up_by torn (counted-cases ((last_of s ss).pulses) torn.few)

  -- a sense of the line once more pulsed, in progress before: apart from the last one, or broken off
  link_more : (t : Sense n m) → t.pulses ≡ counted (pulses_of xs line) → BusyHere xs → Fine t
      → ((s : Sense n m) (ss : List (Sense n m)) → SeenHere xs s ss → (nat_le ((last_of s ss).tick + pace.iter) t.tick || is_broken (rules_of e shape pace) (rows_from shape all all) (last_of s ss).tick t.tick) ≡ true)
      → (s : Sense n m) (ss : List (Sense n m)) → SeenHere xs s ss → follows (rules_of e shape pace) (rows_from shape all all) wears (last_of s ss) t ≡ true
  link_more t pulses busy fine apart s ss seen = now seen.now
    where
      up_by : pulses_of xs line ≡ (last_of s ss).pulses → (counted (pulses_of xs line) ≡ pulses_of xs line) ⊎ (counted (pulses_of xs line) ≡ pulses_of xs line + 1)
          → follows (rules_of e shape pace) (rows_from shape all all) wears (last_of s ss) t ≡ true
      up_by known_pulses (inl still) = same_follows (rules_of e shape pace) (rows_from shape all all) wears (last_of s ss) t (sym (pulses ∙ still ∙ known_pulses))
      up_by known_pulses (inr more) =
          step_follows (rules_of e shape pace) (rows_from shape all all) wears (last_of s ss) t (sym (pulses ∙ more ∙ ap (λ k. k + 1) known_pulses)) (apart s ss seen) fine

      now : (pulses_of xs line ≡ (last_of s ss).pulses) ⊎ TornHere xs (last_of s ss) → follows (rules_of e shape pace) (rows_from shape all all) wears (last_of s ss) t ≡ true
      now (inl k) = up_by k (counted-cases (pulses_of xs line) (pulses-few xs line))
      now (inr torn) = absurd (due-busy torn.due busy)

  -- an iteration ends an iteration's time behind the last sense
  iterated : (t : Sense n m) → t.tick ≡ x.tick → running_at shape pace xs x.tick ≡ Some (record { doing = Iterating; first = x.first }) → x.tick ≡ x.first + pace.iter → (s : Sense n m) (ss : List (Sense n m)) → SeenHere xs s ss
      → (nat_le ((last_of s ss).tick + pace.iter) t.tick || is_broken (rules_of e shape pace) (rows_from shape all all) (last_of s ss).tick t.tick) ≡ true
  iterated t tick runs end s ss seen = or_left (nat_le ((last_of s ss).tick + pace.iter) t.tick) _ (le-leb ((last_of s ss).tick + pace.iter) t.tick apart)
    where
      began : (last_of s ss).tick ≤ x.first
      began = subst (λ (r : Option Action). BeganFrom ((last_of s ss).tick) r) runs (began_by ((last_of s ss).tick) seen.below seen.before)

      apart : (last_of s ss).tick + pace.iter ≤ t.tick
      apart = let le : (last_of s ss).tick ≤ x.first = began in omega (arith, le, end, tick)

  -- a serve or a begin that senses the line
  senses : (event : BankEvent n) → x.happens ≡ Core event → (t : Sense n m) (ts : List (Sense n m)) → own line x.senses ≡ t ∷ ts → is_at x.pulsed line ≡ false
      → left shape (core xs) (change_after shape xs) event (running_at shape pace xs x.tick) ≡ None → IsTrue (ends_action (Core event)) → Known xs → Known (x ∷ xs)
  senses event is t ts are unpulsed leaves ends known =
      let first = first_sensed t ts (may event is).senses are in
      noted shape pace (rules_of e shape pace) (rows_from shape all all) wears line all xs x t ts are (sensed_all t ts (may event is).senses are) (running_is (Core event) is ∙ leaves)
      (λ u. pulses_by false unpulsed ∙ u.unpulsed)
      (link_still t first.0 (first.1 ∙ pulses_by false unpulsed) (due_fine t first.0 (subst (λ h. IsTrue (ends_action h)) (sym is) ends))) known

  -- the target of an event that senses it last
  target_sensed : (sources : List ℕ) → map (λ s. s.line) x.senses ≡ sources ++ target_after shape (core xs) ∷ [] → own line x.senses ≡ []
      → target_after shape (core xs) ≡ line → ⊥
  target_sensed sources lines none at =
      let missing : among line (map (λ s. s.line) x.senses) ≡ false = own-none line x.senses none in
      let there : among line (map (λ s. s.line) x.senses) ≡ true =
      ap (among line) lines ∙ list_any-append (λ l. l == line) sources (target_after shape (core xs) ∷ [])
      ∙ or_right (among line sources) _ (or_left (target_after shape (core xs) == line) false (eq-eqb (target_after shape (core xs)) line at)) in
      absurd (cc)

  -- behind a step of the bank's line write none of a change is in progress, and the target is the same
  bank_busy : (event : BankEvent n) → x.happens ≡ Core event → keeping_by (Core event) (keeping_after xs) ≡ false → WorkAfter shape (core xs) → (target_after shape (core xs) ≡ line → ⊥) → BusyHere (x ∷ xs) → ⊥
  bank_busy event is rests work other (inl k) =
      other (sym (target_on event is (goes-spares event (core xs) (sym (ap in_progress (core_is (Core event) is)) ∙ k.1)) work) ∙ k.2)
  bank_busy event is rests work other (inr k) = absurd (cc (keeping_is (Core event) is, k.1, rests))

  begins : (answer : Step) → x.happens ≡ Core (Begin answer) → Known xs → Known (x ∷ xs)
  begins answer is known = by (own line x.senses) refl
    where
      unpulsed : is_at x.pulsed line ≡ false
      unpulsed = ap (λ p. is_at p line) (may (Begin answer) is).pulsed

      work : WorkAfter shape (core xs)
      work = begin-works shape (core xs) (may (Begin answer) is).may.0

      by : (ss : List (Sense n m)) → own line x.senses ≡ ss → Known (x ∷ xs)
      by [] none =
          quiet shape pace (rules_of e shape pace) (rows_from shape all all) wears line all xs x none (pulses_by false unpulsed) rises (keeps (Begin answer) is)
          (λ s t. absurd (due t.due)) (λ u b. bank_busy (Begin answer) is refl work unsensed b) known
        where
          unsensed : target_after shape (core xs) ≡ line → ⊥
          unsensed at = target_sensed (sources_of shape (core xs) (work_after shape (core xs))) (may (Begin answer) is).lines none at

          due : DueHere xs → ⊥
          due (inl k) = unsensed k.3
          due (inr k) = clash shape line (change_after shape xs) (may (Begin answer) is).on_time.2 k.0
      by (t ∷ ts) are = senses (Begin answer) is t ts are unpulsed refl refl known

  serves : (answer : Served n) → x.happens ≡ Core (Serve answer) → Known xs → Known (x ∷ xs)
  serves answer is known = by (own line x.senses) refl
    where
      unpulsed : is_at x.pulsed line ≡ false
      unpulsed = ap (λ p. is_at p line) (may (Serve answer) is).pulsed

      by : (ss : List (Sense n m)) → own line x.senses ≡ ss → Known (x ∷ xs)
      by [] none = passes (Serve answer) is refl (λ p. p) (λ p. p) refl (λ p. p) (λ p. p) none unpulsed known
      by (t ∷ ts) are = senses (Serve answer) is t ts are unpulsed refl refl known

  iterates : (answer : Step) → x.happens ≡ Core (Iterate answer) → Known xs → Known (x ∷ xs)
  iterates answer is known = either (target_after shape (core xs) == line) pulsing other
    where
      busy : in_progress (core xs) ≡ true
      busy = (may (Iterate answer) is).may.0

      free : change_after shape xs ≡ None
      free = (may (Iterate answer) is).on_time.2

      pulsed : is_at x.pulsed line ≡ (target_after shape (core xs) == line)
      pulsed = ap (λ p. is_at p line) (may (Iterate answer) is).pulsed

      other : (target_after shape (core xs) == line) ≡ false → Known (x ∷ xs)
      other isnt =
          let none : own line x.senses ≡ [] = own-lacks line x.senses (ap (among line) (may (Iterate answer) is).lines ∙ ap (λ b. b || false) isnt) in
          quiet shape pace (rules_of e shape pace) (rows_from shape all all) wears line all xs x none (pulses_by false (pulsed ∙ isnt)) rises (keeps (Iterate answer) is)
          (λ s t. absurd (due t.due)) (λ u b. bank_busy (Iterate answer) is refl (works busy) unlike b) known
        where
          unlike : target_after shape (core xs) ≡ line → ⊥
          unlike at = absurd (cc (eq-eqb (target_after shape (core xs)) line at, isnt))

          due : DueHere xs → ⊥
          due (inl k) = absurd (cc (busy, k.2))
          due (inr k) = clash shape line (change_after shape xs) free k.0

      pulsing : (target_after shape (core xs) == line) ≡ true → Known (x ∷ xs)
      pulsing it_is = by (own line x.senses) refl
        where
          at : target_after shape (core xs) ≡ line
          at = eqb-true (target_after shape (core xs)) line it_is

          by : (ss : List (Sense n m)) → own line x.senses ≡ ss → Known (x ∷ xs)
          by [] none = absurd (target_sensed [] (may (Iterate answer) is).lines none at)
          by (t ∷ ts) are =
              let first = first_sensed t ts (may (Iterate answer) is).senses are in
              noted shape pace (rules_of e shape pace) (rows_from shape all all) wears line all xs x t ts are (sensed_all t ts (may (Iterate answer) is).senses are) (running_is (Core (Iterate answer)) is)
              (λ u. absurd (u.untouched (inl (free, busy, at))))
              (link_more t (first.1 ∙ pulses_by true (pulsed ∙ it_is)) (inl (free, busy, at)) (none_worn t first.0 (works busy) (subst (λ h. IsTrue (ends_action h)) (sym is) refl))
              (iterated t first.0 (may (Iterate answer) is).on_time.0.0 (may (Iterate answer) is).on_time.0.1)) known

  -- A cut: its line write, if one is torn, and the control lines, which it reads

  cut_busy : (tearing : Bool) → x.happens ≡ Core (Cut tearing) → is_at x.pulsed line ≡ true → BusyHere xs
  cut_busy true is at =
      let m = may (Cut true) is in
      inl (
        tears-none (change_after shape xs) (running_at shape pace xs x.tick) m.on_time.1,
        m.may,
        eqb-true (target_after shape (core xs)) line (sym (ap (λ p. is_at p line) m.pulsed) ∙ at),
      )
  cut_busy false is at =
      let m = may (Cut false) is in
      let k = if-at (is_doing Iterating (running_at shape pace xs x.tick)) (line_of_change shape (change_after shape xs)) line (sym (ap (λ p. is_at p line) m.pulsed) ∙ at) in
      inr (k.1, m.on_time.4 k.2)

  cut_due : (tearing : Bool) → x.happens ≡ Core (Cut tearing) → DueHere xs → DueHere (x ∷ xs)
  cut_due tearing is = due_on (Cut tearing) is refl (λ p. refl) refl (λ p. refl)

  cut_idle : (tearing : Bool) → x.happens ≡ Core (Cut tearing) → BusyHere (x ∷ xs) → ⊥
  cut_idle tearing is (inl k) = absurd (cc (ap in_progress (core_is (Core (Cut tearing)) is), k.1))
  cut_idle tearing is (inr k) = absurd (cc (keeping_is (Core (Cut tearing)) is, k.1))

  read_lines : (tearing : Bool) → x.happens ≡ Core (Cut tearing) → among line (map (λ s. s.line) x.senses) ≡ among line (read_again shape x.cancels)
  read_lines tearing is = ap (among line) (may (Cut tearing) is).lines

  -- what a cut senses is a control line, and the cut is no cancel
  reads : (b : Bool) → among line (read_again shape b) ≡ true → (b ≡ false) × (controls_from shape ≤ line)
  reads true h = absurd (cc)
  reads false h = (refl, numbers-from (controls_from shape) (controls_of shape) line h)

  cut_sensed : (tearing : Bool) → x.happens ≡ Core (Cut tearing) → (t : Sense n m) (ts : List (Sense n m)) → own line x.senses ≡ t ∷ ts → Known xs → Known (x ∷ xs)
  cut_sensed tearing is t ts are known = by (is_at x.pulsed line) refl
    where
      first : (t.tick ≡ x.tick) × (t.pulses ≡ pulses_of (x ∷ xs) line)
      first = first_sensed t ts (may (Cut tearing) is).senses are

      whole : (x.cancels ≡ false) × (controls_from shape ≤ line)
      whole = reads x.cancels (sym (read_lines tearing is) ∙ own-there t ts are)

      fine : Fine t
      fine = fine_control t (control-wears whole.1)

      broken : (s : Sense n m) (ss : List (Sense n m)) → SeenHere xs s ss
          → (nat_le ((last_of s ss).tick + pace.iter) t.tick || is_broken (rules_of e shape pace) (rows_from shape all all) (last_of s ss).tick t.tick) ≡ true
      broken s ss seen =
          or_right (nat_le ((last_of s ss).tick + pace.iter) t.tick) _
          (cut-here shape (rules_of e shape pace) all pre x xs tearing (last_of s ss).tick t.tick same is whole.0
          (let le : (last_of s ss).tick ≤ last_tick xs = seen.below in let up : last_tick xs ≤ x.tick = rises in omega (arith, le, up)) (let at : t.tick ≡ x.tick = first.0 in omega (arith, at)))

      by : (b : Bool) → is_at x.pulsed line ≡ b → Known (x ∷ xs)
      by false at =
          noted shape pace (rules_of e shape pace) (rows_from shape all all) wears line all xs x t ts are (sensed_all t ts (may (Cut tearing) is).senses are) (running_is (Core (Cut tearing)) is)
          (λ u. pulses_by false at ∙ u.unpulsed) (link_still t first.0 (first.1 ∙ pulses_by false at) (λ due. fine)) known
      by true at =
          let busy = cut_busy tearing is at in
          noted shape pace (rules_of e shape pace) (rows_from shape all all) wears line all xs x t ts are (sensed_all t ts (may (Cut tearing) is).senses are) (running_is (Core (Cut tearing)) is)
          (λ u. absurd (u.untouched busy)) (link_more t (first.1 ∙ pulses_by true at) busy fine broken) known

  -- the control line of a change is read, unless the cut is a cancel; and then none stands
  cut_control : (change : Option ℕ) (cancels : Bool) → IfSome change (λ item. item < controls_of shape) → (cancels ≡ true → change ≡ None) → line_of_change shape change ≡ Some line
      → among line (read_again shape cancels) ≡ true
  cut_control None cancels within whole is = absurd (cc)
  cut_control (Some item) true within whole is = let k : Some item ≡ None = whole refl in absurd (cc)
  cut_control (Some item) false within whole is = subst (λ l. among l (all_controls shape) ≡ true) (by is) (numbers-all (controls_from shape) (controls_of shape) item within)
    where
      by : ◌≡◌ {A = Option ℕ} (Some (controls_from shape + item)) (Some line) → controls_from shape + item ≡ line
      by h = cc

  cuts : (tearing : Bool) → x.happens ≡ Core (Cut tearing) → Known xs → Known (x ∷ xs)
  cuts tearing is known = by (own line x.senses) refl
    where
      by : (ss : List (Sense n m)) → own line x.senses ≡ ss → Known (x ∷ xs)
      by (t ∷ ts) are = cut_sensed tearing is t ts are known
      by [] none = pulsing (is_at x.pulsed line) refl
        where
          pulsing : (b : Bool) → is_at x.pulsed line ≡ b → Known (x ∷ xs)
          pulsing false at =
              quiet shape pace (rules_of e shape pace) (rows_from shape all all) wears line all xs x none (pulses_by false at) rises (keeps (Cut tearing) is)
              (torn_on (cut_due tearing is) (pulses_by false at)) (λ u b. cut_idle tearing is b) known
          pulsing true at =
              tears shape pace (rules_of e shape pace) (rows_from shape all all) wears line all xs x none rises (running_is (Core (Cut tearing)) is) (λ u. u.untouched busy) torn known
            where
              busy : BusyHere xs
              busy = cut_busy tearing is at

              next : BusyHere xs → DueHere (x ∷ xs)
              next (inl k) = inl (
                change_is (Core (Cut tearing)) is ∙ k.0,
                work_on (Cut tearing) is refl (works k.1),
                ap in_progress (core_is (Core (Cut tearing)) is),
                target_on (Cut tearing) is refl (works k.1) ∙ k.2,
              )
              next (inr k) =
                  let missing : among line (map (λ s. s.line) x.senses) ≡ false = own-none line x.senses none in
                  let there : among line (map (λ s. s.line) x.senses) ≡ true =
                  read_lines tearing is
                  ∙ cut_control (change_after shape xs) x.cancels (change-within shape pace e xs sized.regions sized.lines here.1) (may (Cut tearing) is).on_time.3 k.0 in
                  absurd (cc (missing, there))

              torn : (s : Sense n m) → s.tick ≤ last_tick xs → (pulses_of xs line ≡ s.pulses) ⊎ TornHere xs s → TornHere (x ∷ xs) s
              torn s le (inr t) = absurd (due-busy t.due busy)
              torn s le (inl k) = record {
                up = pulses_by true at ∙ ap counted k;
                few = subst (λ p. p ≤ 2 ^ 64 - 1) k (pulses-few xs line);
                due = next busy;
                broken = λ later z its to after.
                    cut-broken shape (rules_of e shape pace) pace e all later z x xs tearing s.tick to lawful its is
                    (λ c. and_first (is_cancelling pace.policy) _ ((may (Cut tearing) is).on_time.2 c)) (let up : last_tick xs ≤ x.tick = rises in omega (arith, up, le)) after;
              }

  -- The steps of the writing of a change

  -- while a change stands no line write of the bank is in progress
  stands_idle : IsTrue (is_some (change_after shape xs)) → in_progress (core xs) ≡ false
  stands_idle some = changed-idle shape pace e xs here.1 some

  due_line : IsTrue (is_some (change_after shape xs)) → DueHere xs → line_of_change shape (change_after shape xs) ≡ Some line
  due_line some (inl k) = absurd (cc (ap is_some k.0, some))
  due_line some (inr k) = k.0

  busy_line : (event : Keeping) → x.happens ≡ Regs event → BusyHere (x ∷ xs) → (line_of_change shape (change_by shape (core xs) (Regs event) (change_after shape xs)) ≡ Some line) × (keeping_by {n = n} (Regs event) (keeping_after xs) ≡ true)
  busy_line event is (inl k) = absurd (cc (ap in_progress (core_is (Regs event) is), k.1, stands_idle (kept event is).stands))
  busy_line event is (inr k) = (sym (ap (line_of_change shape) (change_is (Regs event) is)) ∙ k.0, sym (keeping_is (Regs event) is) ∙ k.1)

  -- a step of another control line's
  kept_other : (event : Keeping) → x.happens ≡ Regs event → (line_of_change shape (change_by shape (core xs) (Regs event) (change_after shape xs)) ≡ Some line → line_of_change shape (change_after shape xs) ≡ Some line)
      → is_at (line_of_change shape (change_after shape xs)) line ≡ false → own line x.senses ≡ [] → is_at x.pulsed line ≡ false → Known xs → Known (x ∷ xs)
  kept_other event is back isnt none unpulsed known =
      quiet shape pace (rules_of e shape pace) (rows_from shape all all) wears line all xs x none (pulses_by false unpulsed) rises (ends_none (running_is (Regs event) is))
      (λ s t. absurd (other (due_line (kept event is).stands t.due))) (λ u b. other (back (busy_line event is b).0)) known
    where
      other : line_of_change shape (change_after shape xs) ≡ Some line → ⊥
      other at = absurd (cc (some-at (line_of_change shape (change_after shape xs)) line at, isnt))

  among_begin : (l : Option ℕ) (answer : Keep) → among line (kept_sensed l (KeepBegin answer)) ≡ is_at l line
  among_begin None answer = refl
  among_begin (Some at) answer = or_false (at == line)

  among_iterate : (l : Option ℕ) (answer : Keep) → among line (kept_sensed l (KeepIterate answer)) ≡ is_at l line
  among_iterate None answer = refl
  among_iterate (Some at) answer = or_false (at == line)

  among_cut : (l : Option ℕ) (tearing : Bool) → among line (kept_sensed l (KeepCut tearing)) ≡ false
  among_cut l tearing = grind arith

  keep_begins : (answer : Keep) → x.happens ≡ Regs (KeepBegin answer) → Known xs → Known (x ∷ xs)
  keep_begins answer is known = either (is_at (line_of_change shape (change_after shape xs)) line) own_line other
    where
      comes : IsNextKept shape pace e xs x (KeepBegin answer)
      comes = kept (KeepBegin answer) is

      unpulsed : is_at x.pulsed line ≡ false
      unpulsed = ap (λ p. is_at p line) comes.pulsed

      lines : among line (map (λ s. s.line) x.senses) ≡ is_at (line_of_change shape (change_after shape xs)) line
      lines = ap (among line) comes.lines ∙ among_begin (line_of_change shape (change_after shape xs)) answer

      other : is_at (line_of_change shape (change_after shape xs)) line ≡ false → Known (x ∷ xs)
      other isnt = kept_other (KeepBegin answer) is (written-line shape line answer (change_after shape xs)) isnt (own-lacks line x.senses (lines ∙ isnt)) unpulsed known

      own_line : is_at (line_of_change shape (change_after shape xs)) line ≡ true → Known (x ∷ xs)
      own_line it_is = by (own line x.senses) refl
        where
          by : (ss : List (Sense n m)) → own line x.senses ≡ ss → Known (x ∷ xs)
          by [] none = absurd (cc (own-none line x.senses none, lines, it_is))
          by (t ∷ ts) are =
              let first = first_sensed t ts comes.senses are in
              let fine = fine_control t (line-wears (change_after shape xs) (at-some (line_of_change shape (change_after shape xs)) line it_is)) in
              noted shape pace (rules_of e shape pace) (rows_from shape all all) wears line all xs x t ts are (sensed_all t ts comes.senses are) (running_is (Regs (KeepBegin answer)) is)
              (λ u. pulses_by false unpulsed ∙ u.unpulsed) (link_still t first.0 (first.1 ∙ pulses_by false unpulsed) (λ due. fine)) known

  keep_iterates : (answer : Keep) → x.happens ≡ Regs (KeepIterate answer) → Known xs → Known (x ∷ xs)
  keep_iterates answer is known = either (is_at (line_of_change shape (change_after shape xs)) line) own_line other
    where
      comes : IsNextKept shape pace e xs x (KeepIterate answer)
      comes = kept (KeepIterate answer) is

      pulsed : is_at x.pulsed line ≡ is_at (line_of_change shape (change_after shape xs)) line
      pulsed = ap (λ p. is_at p line) comes.pulsed

      lines : among line (map (λ s. s.line) x.senses) ≡ is_at (line_of_change shape (change_after shape xs)) line
      lines = ap (among line) comes.lines ∙ among_iterate (line_of_change shape (change_after shape xs)) answer

      other : is_at (line_of_change shape (change_after shape xs)) line ≡ false → Known (x ∷ xs)
      other isnt = kept_other (KeepIterate answer) is (written-line shape line answer (change_after shape xs)) isnt (own-lacks line x.senses (lines ∙ isnt)) (pulsed ∙ isnt) known

      own_line : is_at (line_of_change shape (change_after shape xs)) line ≡ true → Known (x ∷ xs)
      own_line it_is = by (own line x.senses) refl
        where
          at : line_of_change shape (change_after shape xs) ≡ Some line
          at = at-some (line_of_change shape (change_after shape xs)) line it_is

          by : (ss : List (Sense n m)) → own line x.senses ≡ ss → Known (x ∷ xs)
          by [] none = absurd (cc (own-none line x.senses none, lines, it_is))
          by (t ∷ ts) are =
              let first = first_sensed t ts comes.senses are in
              noted shape pace (rules_of e shape pace) (rows_from shape all all) wears line all xs x t ts are (sensed_all t ts comes.senses are) (running_is (Regs (KeepIterate answer)) is)
              (λ u. absurd (u.untouched (inr (at, comes.may.0))))
              (link_more t (first.1 ∙ pulses_by true (pulsed ∙ it_is)) (inr (at, comes.may.0)) (fine_control t (line-wears (change_after shape xs) at)) (iterated t first.0 comes.on_time.0.0 comes.on_time.0.1)) known

  keep_cuts : (tearing : Bool) → x.happens ≡ Regs (KeepCut tearing) → Known xs → Known (x ∷ xs)
  keep_cuts tearing is known = by (is_at x.pulsed line) refl
    where
      comes : IsNextKept shape pace e xs x (KeepCut tearing)
      comes = kept (KeepCut tearing) is

      none : own line x.senses ≡ []
      none = own-lacks line x.senses (ap (among line) comes.lines ∙ among_cut (line_of_change shape (change_after shape xs)) tearing)

      due : DueHere xs → DueHere (x ∷ xs)
      due (inl k) = absurd (cc (ap is_some k.0, comes.stands))
      due (inr k) = inr (ap (line_of_change shape) (change_is (Regs (KeepCut tearing)) is) ∙ k.0, keeping_is (Regs (KeepCut tearing)) is, halted_is (Regs (KeepCut tearing)) is ∙ k.2)

      by : (b : Bool) → is_at x.pulsed line ≡ b → Known (x ∷ xs)
      by false at =
          quiet shape pace (rules_of e shape pace) (rows_from shape all all) wears line all xs x none (pulses_by false at) rises (ends_none (running_is (Regs (KeepCut tearing)) is))
          (torn_on due (pulses_by false at)) (λ u b. absurd (cc ((busy_line (KeepCut tearing) is b).1))) known
      by true at =
          tears shape pace (rules_of e shape pace) (rows_from shape all all) wears line all xs x none rises (running_is (Regs (KeepCut tearing)) is) (λ u. u.untouched busy) torn known
        where
          k : (tearing ≡ true) × (line_of_change shape (change_after shape xs) ≡ Some line) × (is_some (cond tearing (line_of_change shape (change_after shape xs)) None) ≡ true)
          k = if-at tearing (line_of_change shape (change_after shape xs)) line (sym (ap (λ p. is_at p line) comes.pulsed) ∙ at)

          busy : BusyHere xs
          busy = inr (k.1, comes.may k.0)

          runs_on : (b : Bool) → (b ≡ true → keeping_after xs ≡ false) → b ≡ false
          runs_on true stops = absurd (cc (stops refl, comes.may k.0))
          runs_on false stops = refl

          torn : (s : Sense n m) → s.tick ≤ last_tick xs → (pulses_of xs line ≡ s.pulses) ⊎ TornHere xs s → TornHere (x ∷ xs) s
          torn s le (inr t) = absurd (due-busy t.due busy)
          torn s le (inl p) = record {
            up = pulses_by true at ∙ ap counted p;
            few = subst (λ p. p ≤ 2 ^ 64 - 1) p (pulses-few xs line);
            due = inr (
              ap (line_of_change shape) (change_is (Regs (KeepCut tearing)) is) ∙ k.1,
              keeping_is (Regs (KeepCut tearing)) is,
              halted_is (Regs (KeepCut tearing)) is ∙ runs_on (halted_after xs) (halted-stops shape pace e xs here.1),
            );
            broken = λ later z its to after.
                read-behind shape (rules_of e shape pace) pace e all later z x xs s.tick to lawful its (and_first (is_cancelling pace.policy) _ comes.on_time.3) comes.on_time.2
                (let up : last_tick xs ≤ x.tick = rises in omega (arith, up, le)) after;
          }

  -- every event keeps what is known
  pub step : Known xs → Known (x ∷ xs)
  step known = by x.happens refl
    where
      unsensed : map (λ s. s.line) x.senses ≡ [] → own line x.senses ≡ []
      unsensed none = own-lacks line x.senses (ap (among line) none)

      by : (h : Happens n) → x.happens ≡ h → Known (x ∷ xs)
      by (Core (Serve answer)) is = serves answer is known
      by (Core (Begin answer)) is = begins answer is known
      by (Core (Iterate answer)) is = iterates answer is known
      by (Core (Cut tearing)) is = cuts tearing is known
      by (Core event) is =
          let m = may event is in
          passes event is refl (λ p. p) (λ p. p) refl (λ p. p) (λ p. p) (unsensed m.lines) (ap (λ p. is_at p line) m.pulsed) known
      by (Regs (KeepBegin answer)) is = keep_begins answer is known
      by (Regs (KeepIterate answer)) is = keep_iterates answer is known
      by (Regs (KeepCut tearing)) is = keep_cuts tearing is known

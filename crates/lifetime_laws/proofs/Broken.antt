-- The line writes of a slot's own array line that are broken off: by a cut of the power, or by a read, at most four times each. So the
-- line writes of the line, by the rows.
use Rattle.std.proofs.Common.{◌≡◌, ℕ, zero, suc, ◌+◌, ◌-◌, ◌*◌, ◌/◌, ◌<◌, ◌≤◌, ◌==◌, ◌&&◌, not, Bool, true, false, List, ◌∷◌, [], Option, Some, None, refl, ◌∙◌, arith}
use Rattle.std.{specs.Prelude.{count_by, is_some}, proofs.lemmas.Bool.{eqb-true, eq-eqb, both_ways}, proofs.lemmas.Nat.le-div}
use Rattle.start_gap.specs.Rotation.{gap_after}
use Rattle.row_rules.specs.{Answers.is_stored, Rows.is_cut, Ticking.tries, declared.Row.Row}
use Rattle.bank_shape.specs.{Pausing.is_cancelling, declared.BankShape.BankShape, declared.pace.Pace.Pace, declared.pace.Policy.Policy}
use Rattle.bank_shape.specs.declared.pace.Policy.TheVariants.{Pause, Plain, Cancel}
use Rattle.bank_shape.specs.declared.answer.Step.TheVariants as did
use Rattle.bank_model.specs.{After.target_after, Changes.{change_after, change_by}, Events.{BankEvent, Begin, Iterate, Cut}, History.{in_progress, goes_on, moved_in, stored_in}}
use Rattle.bank_model.specs.{Lawful.{Lawful, MayCome}, Running.{cancels_after, cancels_with}, Sensing.most_steps, Timing.{Happens, Core, Regs, TimedEvent, core, core_of}}
use Rattle.bank_model.specs.Works.{tally, works_on}
use Rattle.bank_laws.{specs.Outcomes.table_of, proofs.Targets.{WorkAfter, spares_work, working, target-same}, proofs.Waiting.may_all}
use Rattle.right_runs.specs.{LineWrites.{stores_at, most_works}, Places.region_stores}
use Rattle.place_laws.proofs.{Cancels.cancels-kept, Moves.keeps, Pulses.cuts-counted, Storing.{stored-counted, region-stored}, Tables.region-all, Trying.{cuts_in, cuts_power}}
use Rattle.lifetime_laws.{specs.Works.WorksLaw, proofs.Counting.{one-few, passing-within}}
use Rattle.lifetime_laws.proofs.{Ended.{below_one, gave_tally, cut_tally, works-split, moves-into, gives-once, not-over}, Landing.{any, stored_tally, stores-landed}}
use Rattle.lifetime_laws.proofs.Stays.{copies_law}
use Rattle.masked_bytes.proofs.{Counting.one_if, Truth.and_first}

-- the line writes of an array line that were done or given up
abbrev ended_tally : {n : ℕ} → BankShape → ℕ → List (BankEvent n) → ℕ
ended_tally shape at h = tally (λ h answer. not (goes_on answer) && target_after shape h == at) (λ h. false) h

works-parts : {n : ℕ} (shape : BankShape) (at : ℕ) (h : List (BankEvent n)) → works_on shape at h ≡ ended_tally shape at h + cut_tally shape at h
works-parts shape at [] = refl
works-parts shape at (Begin answer ∷ h) = omega (arith, works-parts shape at h)
works-parts shape at (Iterate answer ∷ h) = omega (arith, works-parts shape at h)
works-parts shape at (Cut tearing ∷ h) = omega (arith, works-parts shape at h)
works-parts shape at (_ ∷ h) = works-parts shape at h

-- the line writes that were broken off are at most four for each that was done or given up and each cut, the cuts, and those of the
-- work at hand, which is one of the array line
record IsBroken (broken ended cuts count : ℕ) (change : Option ℕ) (Own : Type 0) : Type 0 where
  held : ℕ
  few : broken ≤ 4 * (ended + cuts) + cuts + held
  under : held ≤ count
  alone : is_some change ≡ true → held ≡ 0
  own : 1 ≤ held → Own

-- the steps of one event, over plain numbers
module _ (broken ended cuts count : ℕ) (change : Option ℕ) (Own : Type 0) (k : IsBroken broken ended cuts count change Own) where
  none-held : (Own → ⊥) → k.held ≡ 0
  none-held isnt = omega (arith, below_one k.held (λ le. isnt (k.own le)))

  broken-kept : (New : Type 0) → (Own → New) → IsBroken (0 + broken) (0 + ended) (0 + cuts) count change New
  broken-kept New go = record { held = k.held; few = omega (arith, k.few); under = k.under; alone = k.alone; own = λ le. go (k.own le) }

  broken-passed : (New : Type 0) → (Own → New) → IsBroken broken ended (0 + cuts) count change New
  broken-passed New go = record { held = k.held; few = omega (arith, k.few); under = k.under; alone = k.alone; own = λ le. go (k.own le) }

  broken-ended : (here : Bool) (new : Option ℕ) (New : Type 0) → count ≤ 4 → (Own → here ≡ true) → IsBroken (0 + broken) (one_if here + ended) (0 + cuts) 0 new New
  broken-ended true new New four its = record { held = 0; few = omega (arith, k.few, k.under, four); under = omega arith; alone = λ is. refl; own = λ le. absurd (omega (arith, le)) }
  broken-ended false new New four its =
      let none : k.held ≡ 0 = none-held (λ own. absurd (cc (its own))) in
      record { held = 0; few = omega (arith, k.few, none); under = omega arith; alone = λ is. refl; own = λ le. absurd (omega (arith, le)) }

  broken-cut : (here : Bool) (New : Type 0) → count ≤ 4 → IsBroken (one_if here + broken) (0 + ended) (1 + cuts) 0 change New
  broken-cut here New four = record { held = 0; few = omega (arith, k.few, k.under, four, one-few here); under = omega arith; alone = λ is. refl; own = λ le. absurd (omega (arith, le)) }

  broken-cancelled : (here : Bool) (New : Type 0) → change ≡ None → (here ≡ true → New) → (Own → New) → IsBroken (one_if here + broken) (0 + ended) (0 + cuts) (count + 1) change New
  broken-cancelled true New none now go =
      record { held = k.held + 1; few = omega (arith, k.few); under = omega (arith, k.under); alone = λ is. no change none is; own = λ le. now refl }
    where
      no : (change : Option ℕ) → change ≡ None → is_some change ≡ true → k.held + 1 ≡ 0
      no None none is = absurd (cc (is))
      no (Some item) none is = absurd (cc (none))
  broken-cancelled false New none now go = record { held = k.held; few = omega (arith, k.few); under = omega (arith, k.under); alone = k.alone; own = λ le. go (k.own le) }

  -- what happens to a change that stands
  broken-stands : (next : ℕ) (new : Option ℕ) → is_some change ≡ true → IsBroken broken ended (0 + cuts) next new Own
  broken-stands next new stands =
      record { held = 0; few = omega (arith, k.few, k.alone stands); under = omega arith; alone = λ is. refl; own = λ le. absurd (omega (arith, le)) }

module _ {n : ℕ} (shape : BankShape) (at : ℕ) where
  -- there is a work to do, and it is one of the array line
  abbrev IsItsWork : List (BankEvent n) → Type 0
  IsItsWork h = WorkAfter shape h × (target_after shape h ≡ at)

  goes : (event : BankEvent n) (h : List (BankEvent n)) → spares_work event ≡ true → IsItsWork h → IsItsWork (event ∷ h)
  goes event h spares its = let same = target-same shape event h spares its.0 in (same.0, same.1 ∙ its.1)

module _ {n m : ℕ} (shape : BankShape) (pace : Pace) (e at : ℕ) where
  abbrev Broken : List (TimedEvent n m) → Type 0
  Broken xs = IsBroken (cut_tally shape at (core xs)) (ended_tally shape at (core xs)) (cuts_in xs) (cancels_after xs) (change_after shape xs) (IsItsWork shape at (core xs))

  broken-off : (xs : List (TimedEvent n m)) → Lawful shape pace e xs → Broken xs
  broken-off [] l = record { held = 0; few = omega arith; under = omega arith; alone = λ is. refl; own = λ le. absurd (omega (arith, le)) }
  broken-off (x ∷ xs) l = by x.happens x.cancels refl l.0 (broken-off xs l.1)
    where
      By : Happens n → Bool → Type 0
      By h c =
          IsBroken (cut_tally shape at (core_of h (core xs))) (ended_tally shape at (core_of h (core xs))) (one_if (cuts_power h c) + cuts_in xs)
          (cancels_with h c (cancels_after xs)) (change_by shape (core xs) h (change_after shape xs)) (IsItsWork shape at (core_of h (core xs)))

      four : cancels_after xs ≤ 4
      four = (cancels-kept shape pace e xs l.1).most

      its : IsItsWork shape at (core xs) → (target_after shape (core xs) == at) ≡ true
      its own = eq-eqb (target_after shape (core xs)) at own.1

      by : (h : Happens n) (c : Bool) → x.cancels ≡ c → MayCome shape pace e xs x h → Broken xs → By h c
      by (Core (Begin did.More)) c is may k = broken-kept _ _ _ _ _ _ k _ (goes shape at (Begin did.More) (core xs) refl)
      by (Core (Begin _)) c is may k = broken-ended _ _ _ _ _ _ k _ _ _ four its
      by (Core (Iterate did.More)) c is may k = broken-kept _ _ _ _ _ _ k _ (goes shape at (Iterate did.More) (core xs) refl)
      by (Core (Iterate _)) c is may k = broken-ended _ _ _ _ _ _ k _ _ _ four its
      by (Core (Cut tearing)) false is may k = broken-cut _ _ _ _ _ _ k (in_progress (core xs) && target_after shape (core xs) == at) _ four
      by (Core (Cut tearing)) true is may k =
          broken-cancelled _ _ _ _ _ _ k (in_progress (core xs) && target_after shape (core xs) == at) _ (may.on_time.3 is) (λ here. now (in_progress (core xs)) refl here)
          (goes shape at (Cut tearing) (core xs) refl)
        where
          now : (busy : Bool) → in_progress (core xs) ≡ busy → (busy && target_after shape (core xs) == at) ≡ true → IsItsWork shape at (Cut tearing ∷ core xs)
          now true busy here = goes shape at (Cut tearing) (core xs) refl (working shape (most_steps e) (core xs) (may_all shape pace e xs l.1) busy, eqb-true (target_after shape (core xs)) at here)
          now false busy here = absurd (cc (here))
      by (Core event) c is may k = broken-passed _ _ _ _ _ _ k _ (goes shape at event (core xs) refl)
      by (Regs event) c is may k = broken-stands _ _ _ _ _ _ k _ _ may.stands

  -- where reads don't cancel, the cuts that break off a line write of an array line are cuts of the power
  cuts-few : is_cancelling pace.policy ≡ false → (xs : List (TimedEvent n m)) → Lawful shape pace e xs → cut_tally shape at (core xs) ≤ cuts_in xs
  cuts-few plain [] l = omega arith
  cuts-few plain (x ∷ xs) l = by x.happens x.cancels refl l.0 (cuts-few plain xs l.1)
    where
      by : (h : Happens n) (c : Bool) → x.cancels ≡ c → MayCome shape pace e xs x h → cut_tally shape at (core xs) ≤ cuts_in xs
          → cut_tally shape at (core_of h (core xs)) ≤ one_if (cuts_power h c) + cuts_in xs
      by (Core (Cut tearing)) true is may few =
          absurd (both_ways (is_cancelling pace.policy) plain
          (and_first (is_cancelling pace.policy) _ (may.on_time.2 is)))
      by (Core (Cut tearing)) false is may few = omega (arith, few, one-few (in_progress (core xs) && target_after shape (core xs) == at))
      by _ c is may few = omega (arith, few)

-- all line writes, as often as each may be begun, where one more would end if one is at hand
pub by-policy : (policy : Policy) (works ended broken cuts held most : ℕ) → works ≡ ended + broken → ended + cuts ≤ most → (is_cancelling policy ≡ false → broken ≤ cuts)
    → broken ≤ 4 * (ended + cuts) + cuts + held → held ≤ 4 → (1 ≤ held → ended + cuts + 1 ≤ most) → works ≤ tries policy * most
by-policy Pause works ended broken cuts held most is few plain more four room = omega (arith, is, few, plain refl)
by-policy Plain works ended broken cuts held most is few plain more four room = omega (arith, is, few, plain refl)
by-policy Cancel works ended broken cuts zero most is few plain more four room = omega (arith, is, few, more)
by-policy Cancel works ended broken cuts (suc held) most is few plain more four room = omega (arith, is, more, four, room (omega arith))

pub works_law : WorksLaw
works_law n m e shape pace xs slot sized l exists =
    let may = may_all shape pace e xs l in
    let at : ℕ = shape.base + slot in
    let r : ℕ = slot / (shape.lines + 1) in
    let split = works-split shape at (most_steps e) (core xs) may in
    let parts = works-parts shape at (core xs) in
    let stored : stores_at at (table_of shape xs) ≡ stored_tally any at (core xs) = stores-landed shape pace e at xs l in
    let moved = moves-into shape slot exists (most_steps e) (core xs) may in
    let gave = gives-once shape slot exists (most_steps e) (core xs) may in
    let cuts : count_by (λ (q : Row n). is_cut q) (table_of shape xs) ≡ cuts_in xs = cuts-counted shape xs xs in
    let count : region_stores is_stored shape r (table_of shape xs) ≡ stored_in shape.lines (core xs) r =
    region-all shape xs r ∙ stored-counted shape pace e (λ line. line / shape.lines == r) xs l ∙ region-stored shape.lines (core xs) r in
    let k = keeps shape (most_steps e) (core xs) sized.psi may in
    let few : moved_in shape.lines (core xs) r ≤ region_stores is_stored shape r (table_of shape xs) / shape.psi =
    quotient shape.psi (moved_in shape.lines (core xs) r) (region_stores is_stored shape r (table_of shape xs)) sized.psi (omega (arith, count, k.few r)) in
    let copies = copies_law shape.lines (slot - r * (shape.lines + 1)) (region_stores is_stored shape r (table_of shape xs) / shape.psi) in
    let wider = passing-within (λ t. gap_after shape.lines t == slot - r * (shape.lines + 1)) (moved_in shape.lines (core xs) r) (region_stores is_stored shape r (table_of shape xs) / shape.psi) few in
    let b : Broken shape pace e at xs = broken-off shape pace e at xs l in
    by-policy pace.policy (works_on shape at (core xs)) (ended_tally shape at (core xs)) (cut_tally shape at (core xs)) (cuts_in xs) b.held (most_works shape (table_of shape xs) slot)
    parts (omega (arith, split, parts, stored, moved, gave.few, cuts, copies, wider)) (λ plain. cuts-few shape pace e at plain xs l) b.few
    (omega (arith, b.under, (cancels-kept shape pace e xs l).most))
    (λ holds.
    let own = b.own holds in
    let none : gave_tally shape at (core xs) < 1 = below_one (gave_tally shape at (core xs)) (λ le. not-over shape slot exists (core xs) own.0 own.1 (gave.over le)) in
    omega (arith, split, parts, stored, moved, none, cuts, copies, wider))
  where
    quotient : (psi k s : ℕ) → 1 ≤ psi → psi * k ≤ s → k ≤ s / psi
    quotient psi k s some le = le-div k s psi some (omega (arith, le))

-- The pulses of one control line, and its line writes, by the changes of its item.
use Rattle.std.proofs.Common.{◌≡◌, ℕ, ◌+◌, ◌*◌, ◌<◌, ◌≤◌, ◌==◌, ◌&&◌, not, Bool, true, false, List, [], ◌∷◌, inl, inr, Option, Some, None, refl, sym, ap, ◌∙◌, subst, arith, cond}
use Rattle.std.{specs.Prelude.is_some, proofs.lemmas.Bool.{eqb-true, eq-eqb, ne_eqb, cases_eq, both_ways}}
use Rattle.masked_bytes.proofs.{Counting.one_if, Truth.{and_first, and_second}}
use Rattle.spare_pool.{specs.Table.Table, proofs.Lines.line_by-within}
use Rattle.bank_shape.specs.{Pausing.is_cancelling, Shape.{slots_of, control_line}, declared.BankShape.BankShape, declared.answer.Step.Step, declared.clock.Action.Action}
use Rattle.bank_shape.specs.{declared.clock.Doing.TheVariants.Iterating, declared.pace.Pace.Pace}
use Rattle.bank_shape.specs.declared.answer.Keep.TheVariants as keep
use Rattle.bank_model.specs.After.{work_after, slot_of_work, target_after}
use Rattle.bank_model.specs.Changes.{change_after, change_by, changed_by, keeping_after, keeping_by, rounds_after, rounds_by, halted_after, halted_by, line_of_change}
use Rattle.bank_model.specs.{Events.{BankEvent, Begin, Iterate, Cut}, History.retired, Lawful.{Lawful, MayCome}, Running.{running_at, cancels_after, cancels_with}}
use Rattle.bank_model.specs.Sensing.{is_at, most_steps, pulses_of, pulsed_by, torn_control, kept_pulsed}
use Rattle.bank_model.specs.{Timing.{Happens, Core, Regs, KeepBegin, KeepIterate, KeepCut, TimedEvent, is_doing, core, core_of}, Works.{ends_keeping, is_written, written_on}}
use Rattle.bank_laws.{specs.Laws.IsSized, proofs.Changing.halted-stops, proofs.Settling.above_all, proofs.Waiting.may_all}
use Rattle.place_laws.proofs.{Cancels.cancels-kept, Moves.next_product, Slots.retired-few, Trying.{cuts_in, cuts_power}}
use Rattle.log_laws.proofs.Within.{work-own}
use Rattle.lifetime_laws.proofs.{Counting.one-few, Ended.below_one, Writing.pulsed-more}

-- whether a change is of this item
abbrev pub is_item : ℕ → Option ℕ → Bool
is_item item None = false
is_item item (Some at) = at == item

-- how many changes of an item the events of a bank brought
abbrev pub changes_of : {n : ℕ} → BankShape → ℕ → List (BankEvent n) → ℕ
changes_of shape item [] = 0
changes_of shape item (Begin answer ∷ h) = one_if (is_item item (changed_by shape h answer None)) + changes_of shape item h
changes_of shape item (Iterate answer ∷ h) = one_if (is_item item (changed_by shape h answer None)) + changes_of shape item h
changes_of shape item (_ ∷ h) = changes_of shape item h

-- the pulses of an item's control line: at most w for each line write of it that was done, has halted or was broken off, and those of the
-- one in progress. Each change has one that was done or has halted, but for the one that stands; reads break off four of each at most
pub record IsKept (w pulses rounds changes cuts count : ℕ) (here keeping halted cancelling : Bool) : Type 0 where
  pub ended : ℕ
  pub broken : ℕ
  pub held : ℕ
  pub few : pulses ≤ w * (ended + broken) + cond (here && keeping) rounds 0
  pub room : keeping ≡ true → rounds + 1 ≤ w
  pub made : ended + cond (here && not halted) 1 0 ≤ changes
  pub cut : broken ≤ 4 * (ended + cuts) + cuts + held
  pub under : held ≤ count
  pub alone : 1 ≤ held → (here && not halted) ≡ true
  pub plain : cancelling ≡ false → broken ≤ cuts

off-cond : (a b : Bool) (r : ℕ) → a ≡ false → cond (a && b) r 0 ≡ 0
off-cond true b r off = absurd (cc (off))
off-cond false b r off = refl

pub stops-cond : (a : Bool) (r : ℕ) → cond (a && false) r 0 ≡ 0
stops-cond a r = grind arith

pub none-cond : (b : Bool) → ◌≡◌ {A = ℕ} (cond b 0 0) 0
none-cond b = grind arith

fewer-cond : (b c : Bool) → cond (b && c) 1 0 ≤ one_if b
fewer-cond true c = one-few c
fewer-cond false c = omega arith

-- a pulse that tears nothing
untorn : (torn : Bool) → (torn ≡ true → false ≡ true) → one_if torn ≡ 0
untorn true tears = absurd (cc (tears refl))
untorn false tears = refl

-- the steps of one event, over plain numbers
module _ (w p r c q n : ℕ) (here keeping halted cancelling : Bool) (k : IsKept w p r c q n here keeping halted cancelling) where
  off-held : here ≡ false → k.held ≡ 0
  off-held off =
      omega (arith, below_one k.held (λ le. both_ways here off (and_first here (not halted) (k.alone le))))

  -- an event that has nothing to do with changes
  kept-passed : (new : ℕ) → new ≤ p → IsKept w new r c (0 + q) n here keeping halted cancelling
  kept-passed new more = record {
    ended = k.ended;
    broken = k.broken;
    held = k.held;
    few = omega (arith, k.few, more);
    room = k.room;
    made = k.made;
    cut = omega (arith, k.cut);
    under = k.under;
    alone = k.alone;
    plain = λ is. omega (arith, k.plain is);
  }

  -- a begin or an iteration of the bank's own line write, while no change stands: it may bring one of this item
  kept-begun : (new count : ℕ) (b : Bool) → new ≤ p → here ≡ false → IsKept w new 0 (one_if b + c) (0 + q) count b false halted cancelling
  kept-begun new count b more off = record {
    ended = k.ended;
    broken = k.broken;
    held = 0;
    few = omega (arith, k.few, more, off-cond here keeping r off, stops-cond b 0);
    room = λ is. absurd (cc (is));
    made = omega (arith, k.made, fewer-cond b (not halted));
    cut = omega (arith, k.cut, off-held off);
    under = omega arith;
    alone = λ le. absurd (omega (arith, le));
    plain = λ is. omega (arith, k.plain is);
  }

  -- a cut of the power, which may tear the writing of a change of this item
  kept-cut : (new : ℕ) (torn b : Bool) → (here && keeping) ≡ b → new ≤ p + one_if torn → (torn ≡ true → b ≡ true) → n ≤ 4 → IsKept w new 0 c (1 + q) 0 here false halted cancelling
  kept-cut new torn true is more tears four =
      let few : p ≤ w * (k.ended + k.broken) + r = subst (λ b. p ≤ w * (k.ended + k.broken) + cond b r 0) is k.few in
      let room : r + 1 ≤ w = k.room (and_second here keeping is) in
      let next : w * (k.ended + (k.broken + 1)) ≡ w * (k.ended + k.broken) + w =
      ap (λ x. w * x) (omega arith) ∙ next_product w (k.ended + k.broken) in
      record {
        ended = k.ended;
        broken = k.broken + 1;
        held = 0;
        few = omega (arith, few, more, one-few torn, room, next, stops-cond here 0);
        room = λ is. absurd (cc (is));
        made = k.made;
        cut = omega (arith, k.cut, k.under, four);
        under = omega arith;
        alone = λ le. absurd (omega (arith, le));
        plain = λ is. omega (arith, k.plain is);
      }
  kept-cut new torn false is more tears four =
      let few : p ≤ w * (k.ended + k.broken) + 0 = subst (λ b. p ≤ w * (k.ended + k.broken) + cond b r 0) is k.few in
      record {
        ended = k.ended;
        broken = k.broken;
        held = 0;
        few = omega (arith, few, more, untorn torn tears, stops-cond here 0);
        room = λ is. absurd (cc (is));
        made = k.made;
        cut = omega (arith, k.cut, k.under, four);
        under = omega arith;
        alone = λ le. absurd (omega (arith, le));
        plain = λ is. omega (arith, k.plain is);
      }

  -- a cancel of the bank's own line write, while no change stands
  kept-still : (new : ℕ) → new ≤ p → here ≡ false → IsKept w new 0 c (0 + q) (n + 1) here false halted cancelling
  kept-still new more off = record {
    ended = k.ended;
    broken = k.broken;
    held = k.held;
    few = omega (arith, k.few, more, off-cond here keeping r off, stops-cond here 0);
    room = λ is. absurd (cc (is));
    made = k.made;
    cut = omega (arith, k.cut);
    under = omega (arith, k.under);
    alone = k.alone;
    plain = λ is. omega (arith, k.plain is);
  }

  -- the writing of a change begins and goes on
  kept-writes : (new : ℕ) → new ≤ p → keeping ≡ false → 1 ≤ w → IsKept w new 0 c (0 + q) n here true halted cancelling
  kept-writes new more off some =
      let rested : cond (here && keeping) r 0 ≡ 0 = ap (λ b. cond (here && b) r 0) off ∙ stops-cond here r in
      record {
        ended = k.ended;
        broken = k.broken;
        held = k.held;
        few = omega (arith, k.few, more, rested, none-cond (here && true));
        room = λ is. omega (arith, some);
        made = k.made;
        cut = omega (arith, k.cut);
        under = k.under;
        alone = k.alone;
        plain = λ is. omega (arith, k.plain is);
      }

  kept-goes : (new : ℕ) → new ≤ p + one_if here → keeping ≡ true → r + 1 < w → IsKept w new (r + 1) c (0 + q) n here true halted cancelling
  kept-goes new more on lt =
      let busy : cond (here && keeping) r 0 ≡ cond (here && true) r 0 = ap (λ b. cond (here && b) r 0) on in
      record {
        ended = k.ended;
        broken = k.broken;
        held = k.held;
        few = omega (arith, k.few, more, busy, grown here);
        room = λ is. omega (arith, lt);
        made = k.made;
        cut = omega (arith, k.cut);
        under = k.under;
        alone = k.alone;
        plain = λ is. omega (arith, k.plain is);
      }
    where
      grown : (b : Bool) → cond (b && true) r 0 + one_if b ≡ cond (b && true) (r + 1) 0
      grown b = grind arith

  -- what a line write of this control line has taken as it ends
  spent-begin : (new : ℕ) → new ≤ p → keeping ≡ false → new ≤ w * (k.ended + k.broken) + cond here w 0
  spent-begin new more off =
      let rested : cond (here && keeping) r 0 ≡ 0 = ap (λ b. cond (here && b) r 0) off ∙ stops-cond here r in
      omega (arith, k.few, more, rested)

  spent-iterate : (new : ℕ) → new ≤ p + one_if here → keeping ≡ true → r < w → new ≤ w * (k.ended + k.broken) + cond here w 0
  spent-iterate new more on lt =
      let busy : cond (here && keeping) r 0 ≡ cond (here && true) r 0 = ap (λ b. cond (here && b) r 0) on in
      omega (arith, k.few, more, busy, last here)
    where
      last : (b : Bool) → cond (b && true) r 0 + one_if b ≤ cond b w 0
      last true = omega (arith, lt)
      last false = omega arith

  -- a change is written, so none stands; or its writing has halted, and it stands for good
  kept-done : (new rounds : ℕ) (b : Bool) → here ≡ b → new ≤ w * (k.ended + k.broken) + cond b w 0 → halted ≡ false → n ≤ 4 → IsKept w new rounds c (0 + q) 0 false false halted cancelling
  kept-done new rounds true is spent fine four =
      let next : w * (k.ended + 1 + k.broken) ≡ w * (k.ended + k.broken) + w =
      ap (λ x. w * x) (omega arith) ∙ next_product w (k.ended + k.broken) in
      let made : one_if (here && not halted) ≡ 1 = ap (λ b. one_if (b && not halted)) is ∙ ap (λ b. one_if (not b)) fine in
      record {
        ended = k.ended + 1;
        broken = k.broken;
        held = 0;
        few = omega (arith, spent, next);
        room = λ is. absurd (cc (is));
        made = omega (arith, k.made, made);
        cut = omega (arith, k.cut, k.under, four);
        under = omega arith;
        alone = λ le. absurd (omega (arith, le));
        plain = λ is. omega (arith, k.plain is);
      }
  kept-done new rounds false is spent fine four = record {
    ended = k.ended;
    broken = k.broken;
    held = 0;
    few = omega (arith, spent);
    room = λ is. absurd (cc (is));
    made = omega (arith, k.made);
    cut = omega (arith, k.cut, off-held is);
    under = omega arith;
    alone = λ le. absurd (omega (arith, le));
    plain = λ is. omega (arith, k.plain is);
  }

  kept-halts : (new rounds : ℕ) (b : Bool) → here ≡ b → new ≤ w * (k.ended + k.broken) + cond b w 0 → halted ≡ false → n ≤ 4 → IsKept w new rounds c (0 + q) 0 here false true cancelling
  kept-halts new rounds true is spent fine four =
      let next : w * (k.ended + 1 + k.broken) ≡ w * (k.ended + k.broken) + w =
      ap (λ x. w * x) (omega arith) ∙ next_product w (k.ended + k.broken) in
      let made : one_if (here && not halted) ≡ 1 = ap (λ b. one_if (b && not halted)) is ∙ ap (λ b. one_if (not b)) fine in
      record {
        ended = k.ended + 1;
        broken = k.broken;
        held = 0;
        few = omega (arith, spent, next, stops-cond here rounds);
        room = λ is. absurd (cc (is));
        made = omega (arith, k.made, made, stops-cond here 1);
        cut = omega (arith, k.cut, k.under, four);
        under = omega arith;
        alone = λ le. absurd (omega (arith, le));
        plain = λ is. omega (arith, k.plain is);
      }
  kept-halts new rounds false is spent fine four = record {
    ended = k.ended;
    broken = k.broken;
    held = 0;
    few = omega (arith, spent, stops-cond here rounds);
    room = λ is. absurd (cc (is));
    made = omega (arith, k.made, stops-cond here 1);
    cut = omega (arith, k.cut, off-held is);
    under = omega arith;
    alone = λ le. absurd (omega (arith, le));
    plain = λ is. omega (arith, k.plain is);
  }

  -- a read breaks off the writing of a change
  kept-broken : (new : ℕ) (torn b : Bool) → (here && keeping) ≡ b → new ≤ p + one_if torn → (torn ≡ true → b ≡ true) → (keeping ≡ true → halted ≡ false) → cancelling ≡ true
      → IsKept w new 0 c (0 + q) (n + 1) here false halted cancelling
  kept-broken new torn true is more tears fine cancels =
      let few : p ≤ w * (k.ended + k.broken) + r = subst (λ b. p ≤ w * (k.ended + k.broken) + cond b r 0) is k.few in
      let parts = both here keeping is in
      let room : r + 1 ≤ w = k.room parts.1 in
      let next : w * (k.ended + (k.broken + 1)) ≡ w * (k.ended + k.broken) + w =
      ap (λ x. w * x) (omega arith) ∙ next_product w (k.ended + k.broken) in
      let stands : (here && not halted) ≡ true = ap (λ b. b && not halted) parts.0 ∙ ap not (fine parts.1) in
      record {
        ended = k.ended;
        broken = k.broken + 1;
        held = k.held + 1;
        few = omega (arith, few, more, one-few torn, room, next, stops-cond here 0);
        room = λ is. absurd (cc (is));
        made = k.made;
        cut = omega (arith, k.cut);
        under = omega (arith, k.under);
        alone = λ le. stands;
        plain = λ no. absurd (cc (no, cancels));
      }
    where
      both : (a b : Bool) → (a && b) ≡ true → (a ≡ true) × (b ≡ true)
      both true b is = (refl, is)
      both false b is = absurd (cc (is))
  kept-broken new torn false is more tears fine cancels =
      let few : p ≤ w * (k.ended + k.broken) + 0 = subst (λ b. p ≤ w * (k.ended + k.broken) + cond b r 0) is k.few in
      record {
        ended = k.ended;
        broken = k.broken;
        held = k.held;
        few = omega (arith, few, more, untorn torn tears, stops-cond here 0);
        room = λ is. absurd (cc (is));
        made = k.made;
        cut = omega (arith, k.cut);
        under = omega (arith, k.under);
        alone = k.alone;
        plain = λ is. omega (arith, k.plain is);
      }

-- the control line of an item is pulsed only with a change of that item
module _ (shape : BankShape) (item : ℕ) where
  its-line : (change : Option ℕ) → is_at (line_of_change shape change) (control_line shape item) ≡ is_item item change
  its-line None = refl
  its-line (Some other) = elim (cases_eq other item) [
    | inl same ↦ eq-eqb (control_line shape other) (control_line shape item) (ap (control_line shape) same) ∙ sym (eq-eqb other item same)
    | inr isnt ↦ ne_eqb (control_line shape other) (control_line shape item) (λ e. isnt (omega (arith, e))) ∙ sym (ne_eqb other item isnt)
  ]

  torn-stands : {n : ℕ} (h : List (BankEvent n)) (change : Option ℕ) (keeping tearing : Bool) (action : Option Action) → target_after shape h < control_line shape item
      → (is_some (torn_control shape change action) ≡ true → keeping ≡ true)
      → is_at (pulsed_by shape h (torn_control shape change action) (Cut tearing)) (control_line shape item) ≡ true → (is_item item change && keeping) ≡ true
  torn-stands h change keeping true action low torn is = absurd (omega (arith, low, eqb-true (target_after shape h) (control_line shape item) is))
  torn-stands h change keeping false action low torn is = by (is_doing Iterating action) torn is
    where
      own : (change : Option ℕ) → is_item item change ≡ true → (is_some (line_of_change shape change) ≡ true → keeping ≡ true) → (is_item item change && keeping) ≡ true
      own None its torn = absurd (cc (its))
      own (Some other) its torn = ap (λ b. b && keeping) its ∙ torn refl

      by : (b : Bool) → (is_some (cond b (line_of_change shape change) None) ≡ true → keeping ≡ true) → is_at (cond b (line_of_change shape change) None) (control_line shape item) ≡ true
          → (is_item item change && keeping) ≡ true
      by true torn is = own change (sym (its-line change) ∙ is) torn
      by false torn is = absurd (cc (is))

-- where no change stands, none of this item does
none-item : (item : ℕ) (change : Option ℕ) → change ≡ None → is_item item change ≡ false
none-item item None is = refl
none-item item (Some other) is = absurd (cc (is))

-- what the bank's own line write brings while no change stands
begun-item : {n : ℕ} (shape : BankShape) (item : ℕ) (h : List (BankEvent n)) (answer : Step) (change : Option ℕ) → change ≡ None
    → is_item item (changed_by shape h answer None) ≡ is_item item (changed_by shape h answer change)
begun-item shape item h answer None is = refl
begun-item shape item h answer (Some other) is = absurd (cc (is))

module _ {n m : ℕ} (shape : BankShape) (pace : Pace) (e item : ℕ) where
  abbrev pub Kept : List (TimedEvent n m) → Type 0
  Kept xs =
      IsKept (most_steps e) (pulses_of xs (control_line shape item)) (rounds_after xs) (changes_of shape item (core xs)) (cuts_in xs) (cancels_after xs)
      (is_item item (change_after shape xs)) (keeping_after xs) (halted_after xs) (is_cancelling pace.policy)

  -- the same of the line writes themselves, of which each counts one
  abbrev pub Written : List (TimedEvent n m) → Type 0
  Written xs =
      IsKept 1 (written_on shape (control_line shape item) xs) 0 (changes_of shape item (core xs)) (cuts_in xs) (cancels_after xs)
      (is_item item (change_after shape xs)) (keeping_after xs) (halted_after xs) (is_cancelling pace.policy)

-- what has ended, and one more of this line
spent-once : (p c q n : ℕ) (here keeping halted cancelling : Bool) (k : IsKept 1 p 0 c q n here keeping halted cancelling) (new : ℕ) → new ≤ p + one_if here
    → new ≤ 1 * (k.ended + k.broken) + cond here 1 0
spent-once p c q n here keeping halted cancelling k new more = omega (arith, k.few, more, none-cond (here && keeping))

module _ {n m : ℕ} (shape : BankShape) (pace : Pace) (e item : ℕ) (sized : IsSized shape pace) where
  -- the bank's own line write writes no control line
  target-low : (xs : List (TimedEvent n m)) → Lawful shape pace e xs → target_after shape (core xs) < control_line shape item
  target-low xs l =
      let may = may_all shape pace e xs l in
      let b = above_all shape pace e xs l in
      let own = (work-own shape sized.regions sized.lines (most_steps e) (core xs) may b.0 b.1).0 in
      let table : Table = record { slots = slots_of shape; spares = shape.spares; replaced = retired (core xs) } in
      omega (arith, line_by-within table (slot_of_work shape (core xs) (work_after shape (core xs))) own, retired-few shape (most_steps e) (core xs) may)

  pub kept : (xs : List (TimedEvent n m)) → Lawful shape pace e xs → Kept shape pace e item xs
  kept [] l = record {
    ended = 0;
    broken = 0;
    held = 0;
    few = omega arith;
    room = λ is. absurd (cc (is));
    made = omega arith;
    cut = omega arith;
    under = omega arith;
    alone = λ le. absurd (omega (arith, le));
    plain = λ is. omega arith;
  }
  kept (x ∷ xs) l = by x.happens x.cancels refl l.0 (kept xs l.1)
    where
      at : ℕ
      at = control_line shape item

      By : Happens n → Bool → Type 0
      By h c =
          IsKept (most_steps e) (pulses_of (x ∷ xs) at) (rounds_by h (rounds_after xs)) (changes_of shape item (core_of h (core xs))) (one_if (cuts_power h c) + cuts_in xs)
          (cancels_with h c (cancels_after xs)) (is_item item (change_by shape (core xs) h (change_after shape xs))) (keeping_by h (keeping_after xs)) (halted_by h (halted_after xs))
          (is_cancelling pace.policy)

      four : cancels_after xs ≤ 4
      four = (cancels-kept shape pace e xs l.1).most

      quiet : x.pulsed ≡ None → pulses_of (x ∷ xs) at ≤ pulses_of xs at
      quiet is =
          let le : pulses_of (x ∷ xs) at ≤ pulses_of xs at + 0 = pulsed-more x xs at None is in
          omega (arith, le)

      elsewhere : x.pulsed ≡ Some (target_after shape (core xs)) → pulses_of (x ∷ xs) at ≤ pulses_of xs at
      elsewhere is =
          let off : (target_after shape (core xs) == at) ≡ false = ne_eqb (target_after shape (core xs)) at (λ e. omega (arith, e, target-low xs l.1)) in
          omega (arith, pulsed-more x xs at (Some (target_after shape (core xs))) is, ap one_if off)

      on_change : x.pulsed ≡ line_of_change shape (change_after shape xs) → pulses_of (x ∷ xs) at ≤ pulses_of xs at + one_if (is_item item (change_after shape xs))
      on_change is =
          omega (
            arith,
            pulsed-more x xs at (line_of_change shape (change_after shape xs)) is,
            ap one_if (its-line shape item (change_after shape xs)),
          )

      -- the writing of a change that goes on has not halted
      unhalted : keeping_after xs ≡ true → halted_after xs ≡ false
      unhalted on = by_cases (halted_after xs) refl
        where
          by_cases : (b : Bool) → halted_after xs ≡ b → b ≡ false
          by_cases true is = absurd (cc (halted-stops shape pace e xs l.1 is, on))
          by_cases false is = refl

      -- an event of the bank's own line write
      brings : (answer : Step) (count : ℕ) → pulses_of (x ∷ xs) at ≤ pulses_of xs at → change_after shape xs ≡ None → Kept shape pace e item xs
          → IsKept (most_steps e) (pulses_of (x ∷ xs) at) 0 (one_if (is_item item (changed_by shape (core xs) answer None)) + changes_of shape item (core xs)) (0 + cuts_in xs) count
          (is_item item (changed_by shape (core xs) answer (change_after shape xs))) false (halted_after xs) (is_cancelling pace.policy)
      brings answer count le none k =
          subst (λ b. IsKept (most_steps e) (pulses_of (x ∷ xs) at) 0 (one_if (is_item item (changed_by shape (core xs) answer None)) + changes_of shape item (core xs)) (0 + cuts_in xs) count
          b false (halted_after xs) (is_cancelling pace.policy)) (begun-item shape item (core xs) answer (change_after shape xs) none)
          (kept-begun _ _ _ _ _ _ _ _ _ _ k (pulses_of (x ∷ xs) at) count (is_item item (changed_by shape (core xs) answer None)) le (none-item item (change_after shape xs) none))

      by : (h : Happens n) (c : Bool) → x.cancels ≡ c → MayCome shape pace e xs x h → Kept shape pace e item xs → By h c
      by (Core (Begin answer)) c is may k = brings answer _ (quiet may.pulsed) may.on_time.2 k
      by (Core (Iterate answer)) c is may k = brings answer _ (elsewhere may.pulsed) may.on_time.2 k
      by (Core (Cut tearing)) false is may k =
          let control = torn_control shape (change_after shape xs) (running_at shape pace xs x.tick) in
          kept-cut _ _ _ _ _ _ _ _ _ _ k (pulses_of (x ∷ xs) at) (is_at (pulsed_by shape (core xs) control (Cut tearing)) at) (is_item item (change_after shape xs) && keeping_after xs) refl
          (pulsed-more x xs at _ may.pulsed)
          (torn-stands shape item (core xs) (change_after shape xs) (keeping_after xs) tearing (running_at shape pace xs x.tick) (target-low xs l.1) may.on_time.4) four
      by (Core (Cut tearing)) true is may k =
          let none : change_after shape xs ≡ None = may.on_time.3 is in
          kept-still _ _ _ _ _ _ _ _ _ _ k (pulses_of (x ∷ xs) at) (off_item none) (none-item item (change_after shape xs) none)
        where
          off_item : change_after shape xs ≡ None → pulses_of (x ∷ xs) at ≤ pulses_of xs at
          off_item none =
              unpulsed (is_at (pulsed_by shape (core xs)
              (torn_control shape (change_after shape xs) (running_at shape pace xs x.tick))
              (Cut tearing)) at) refl
            where
              unpulsed : (b : Bool) → is_at (pulsed_by shape (core xs)
                  (torn_control shape (change_after shape xs) (running_at shape pace xs x.tick))
                  (Cut tearing)) at ≡ b → pulses_of (x ∷ xs) at ≤ pulses_of xs at
              unpulsed true torn =
                  absurd (both_ways (is_item item (change_after shape xs))
                  (none-item item (change_after shape xs) none)
                  (and_first (is_item item (change_after shape xs)) (keeping_after xs)
                  (torn-stands shape item (core xs) (change_after shape xs) (keeping_after xs) tearing
                  (running_at shape pace xs x.tick)
                  (target-low xs l.1) may.on_time.4 torn)))
              unpulsed false torn = omega (arith, pulsed-more x xs at _ may.pulsed, ap one_if torn)
      by (Core _) c is may k = kept-passed _ _ _ _ _ _ _ _ _ _ k (pulses_of (x ∷ xs) at) (quiet may.pulsed)
      by (Regs (KeepBegin keep.More)) c is may k = kept-writes _ _ _ _ _ _ _ _ _ _ k (pulses_of (x ∷ xs) at) (quiet may.pulsed) may.may.0 (omega arith)
      by (Regs (KeepBegin keep.Done)) c is may k =
          kept-done _ _ _ _ _ _ _ _ _ _ k (pulses_of (x ∷ xs) at) 0 (is_item item (change_after shape xs)) refl
          (spent-begin _ _ _ _ _ _ _ _ _ _ k (pulses_of (x ∷ xs) at) (quiet may.pulsed) may.may.0) may.may.1 four
      by (Regs (KeepBegin keep.Halted)) c is may k = absurd (may.may.2 refl)
      by (Regs (KeepIterate keep.More)) c is may k = kept-goes _ _ _ _ _ _ _ _ _ _ k (pulses_of (x ∷ xs) at) (on_change may.pulsed) may.may.0 (may.may.2 refl)
      by (Regs (KeepIterate keep.Done)) c is may k =
          kept-done _ _ _ _ _ _ _ _ _ _ k (pulses_of (x ∷ xs) at) (rounds_after xs + 1) (is_item item (change_after shape xs)) refl
          (spent-iterate _ _ _ _ _ _ _ _ _ _ k (pulses_of (x ∷ xs) at) (on_change may.pulsed) may.may.0 may.may.1) (unhalted may.may.0) four
      by (Regs (KeepIterate keep.Halted)) c is may k =
          kept-halts _ _ _ _ _ _ _ _ _ _ k (pulses_of (x ∷ xs) at) (rounds_after xs + 1) (is_item item (change_after shape xs)) refl
          (spent-iterate _ _ _ _ _ _ _ _ _ _ k (pulses_of (x ∷ xs) at) (on_change may.pulsed) may.may.0 may.may.1) (unhalted may.may.0) four
      by (Regs (KeepCut tearing)) c is may k =
          kept-broken _ _ _ _ _ _ _ _ _ _ k (pulses_of (x ∷ xs) at) (is_at (kept_pulsed (line_of_change shape (change_after shape xs)) (KeepCut tearing)) at)
          (is_item item (change_after shape xs) && keeping_after xs) refl (pulsed-more x xs at _ may.pulsed)
          (torn tearing may.may) unhalted (and_first (is_cancelling pace.policy) _ may.on_time.3)
        where
          torn : (tearing : Bool) → (tearing ≡ true → keeping_after xs ≡ true) → is_at (kept_pulsed (line_of_change shape (change_after shape xs)) (KeepCut tearing)) at ≡ true
              → (is_item item (change_after shape xs) && keeping_after xs) ≡ true
          torn true on its = ap (λ b. b && keeping_after xs) (sym (its-line shape item (change_after shape xs)) ∙ its) ∙ on refl
          torn false on its = absurd (cc (its))

  pub written : (xs : List (TimedEvent n m)) → Lawful shape pace e xs → Written shape pace e item xs
  written [] l = record {
    ended = 0;
    broken = 0;
    held = 0;
    few = omega arith;
    room = λ is. absurd (cc (is));
    made = omega arith;
    cut = omega arith;
    under = omega arith;
    alone = λ le. absurd (omega (arith, le));
    plain = λ is. omega arith;
  }
  written (x ∷ xs) l = by x.happens x.cancels refl l.0 (written xs l.1)
    where
      p : ℕ
      p = written_on shape (control_line shape item) xs

      here : Bool
      here = is_item item (change_after shape xs)

      on : Bool
      on = is_written shape (control_line shape item) xs

      its : on ≡ here
      its = its-line shape item (change_after shape xs)

      By : Happens n → Bool → Type 0
      By h c =
          IsKept 1 (one_if (ends_keeping h (keeping_after xs) && on) + p) 0 (changes_of shape item (core_of h (core xs))) (one_if (cuts_power h c) + cuts_in xs)
          (cancels_with h c (cancels_after xs)) (is_item item (change_by shape (core xs) h (change_after shape xs))) (keeping_by h (keeping_after xs)) (halted_by h (halted_after xs))
          (is_cancelling pace.policy)

      four : cancels_after xs ≤ 4
      four = (cancels-kept shape pace e xs l.1).most

      same : 0 + p ≤ p
      same = omega arith

      -- the writing of a change that goes on has not halted
      unhalted : keeping_after xs ≡ true → halted_after xs ≡ false
      unhalted is_on = by_cases (halted_after xs) refl
        where
          by_cases : (b : Bool) → halted_after xs ≡ b → b ≡ false
          by_cases true is = absurd (cc (halted-stops shape pace e xs l.1 is, is_on))
          by_cases false is = refl

      -- a line write of this line that is broken off counts one
      turned : (a b c : Bool) → b ≡ c → one_if (a && b) ≤ one_if (c && a)
      turned true true true is = omega arith
      turned false true true is = omega arith
      turned true false false is = omega arith
      turned false false false is = omega arith
      turned a true false is = absurd (cc (is))
      turned a false true is = absurd (cc (is))

      breaks : one_if (keeping_after xs && on) + p ≤ p + one_if (here && keeping_after xs)
      breaks = omega (arith, turned (keeping_after xs) on here its)

      -- one that is done or has halted counts one, if it is of this line
      ends : one_if on + p ≤ p + one_if here
      ends = omega (arith, ap one_if its)

      brings : (answer : Step) (count : ℕ) → change_after shape xs ≡ None → Written shape pace e item xs
          → IsKept 1 (0 + p) 0 (one_if (is_item item (changed_by shape (core xs) answer None)) + changes_of shape item (core xs)) (0 + cuts_in xs) count
          (is_item item (changed_by shape (core xs) answer (change_after shape xs))) false (halted_after xs) (is_cancelling pace.policy)
      brings answer count none k =
          subst (λ b. IsKept 1 (0 + p) 0 (one_if (is_item item (changed_by shape (core xs) answer None)) + changes_of shape item (core xs)) (0 + cuts_in xs) count
          b false (halted_after xs) (is_cancelling pace.policy)) (begun-item shape item (core xs) answer (change_after shape xs) none)
          (kept-begun _ _ _ _ _ _ _ _ _ _ k (0 + p) count (is_item item (changed_by shape (core xs) answer None)) same (none-item item (change_after shape xs) none))

      by : (h : Happens n) (c : Bool) → x.cancels ≡ c → MayCome shape pace e xs x h → Written shape pace e item xs → By h c
      by (Core (Begin answer)) c is may k = brings answer _ may.on_time.2 k
      by (Core (Iterate answer)) c is may k = brings answer _ may.on_time.2 k
      by (Core (Cut tearing)) false is may k =
          kept-cut _ _ _ _ _ _ _ _ _ _ k (one_if (keeping_after xs && on) + p) (here && keeping_after xs) (here && keeping_after xs) refl breaks (λ torn. torn) four
      by (Core (Cut tearing)) true is may k =
          let none : change_after shape xs ≡ None = may.on_time.3 is in
          let off : here ≡ false = none-item item (change_after shape xs) none in
          kept-still _ _ _ _ _ _ _ _ _ _ k (one_if (keeping_after xs && on) + p)
          (omega (arith, breaks, ap (λ b. one_if (b && keeping_after xs)) off)) off
      by (Core _) c is may k = kept-passed _ _ _ _ _ _ _ _ _ _ k (0 + p) same
      by (Regs (KeepBegin keep.More)) c is may k = kept-writes _ _ _ _ _ _ _ _ _ _ k (0 + p) same may.may.0 (omega arith)
      by (Regs (KeepBegin keep.Done)) c is may k =
          kept-done _ _ _ _ _ _ _ _ _ _ k (one_if on + p) 0 here refl
          (spent-once _ _ _ _ _ _ _ _ k (one_if on + p) ends) may.may.1 four
      by (Regs (KeepBegin keep.Halted)) c is may k = absurd (may.may.2 refl)
      by (Regs (KeepIterate keep.More)) c is may k =
          subst (λ b. IsKept 1 (0 + p) 0 (changes_of shape item (core xs)) (0 + cuts_in xs) (cancels_after xs) here b (halted_after xs) (is_cancelling pace.policy)) may.may.0
          (kept-passed _ _ _ _ _ _ _ _ _ _ k (0 + p) same)
      by (Regs (KeepIterate keep.Done)) c is may k =
          kept-done _ _ _ _ _ _ _ _ _ _ k (one_if on + p) 0 here refl
          (spent-once _ _ _ _ _ _ _ _ k (one_if on + p) ends) (unhalted may.may.0) four
      by (Regs (KeepIterate keep.Halted)) c is may k =
          kept-halts _ _ _ _ _ _ _ _ _ _ k (one_if on + p) 0 here refl
          (spent-once _ _ _ _ _ _ _ _ k (one_if on + p) ends) (unhalted may.may.0) four
      by (Regs (KeepCut tearing)) c is may k =
          kept-broken _ _ _ _ _ _ _ _ _ _ k (one_if (keeping_after xs && on) + p) (here && keeping_after xs) (here && keeping_after xs) refl breaks (λ torn. torn) unhalted
          (and_first (is_cancelling pace.policy) _ may.on_time.3)

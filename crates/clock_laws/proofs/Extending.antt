-- How the events of several calls add up, and what a bank does not touch.
use Rattle.std.proofs.Common.{◌≡◌, ◌⊎◌, ℕ, ◌+◌, ◌<◌, ◌≤◌, ◌==◌, Bool, true, false, cond, List, [], ◌∷◌, ◌++◌, Option, Some, None, refl, sym, ap, ◌∙◌, arith, eqb-true, append-nil, append_assoc}
use Rattle.std.specs.Prelude.{IfSome}
use Rattle.cell_rows.specs.{Device.counted, declared.array.Sense.Sense}
use Rattle.bank_shape.specs.{Shape.lines_in, declared.BankShape.BankShape}
use Rattle.bank_model.specs.{Adding.{senses_of, pulses_on, torn_by, tears_on}, Events.BankEvent, Sensing.is_at, Timing.{Happens, Core, TimedEvent}}
use Rattle.clock_laws.{specs.Arriving.arrival, specs.Extending.{NothingAddedLaw, OneAddedLaw, ArrivalAddedLaw, BothAddedLaw, is_tear}, proofs.Arriving.untouched}

pub nothing_added_law : NothingAddedLaw
nothing_added_law n m shape array = record {
  lines = refl;
  others = λ line off. refl;
  pulses = λ line. refl;
  tears = refl;
  wear = refl;
  bounds = refl;
  log = λ after is. (after, is, sym (append-nil after));
}

-- One event

off-pulsed : (shape : BankShape) (pulsed : Option ℕ) (line : ℕ) → IfSome pulsed (λ at. (shape.base ≤ at) × (at < shape.base + lines_in shape))
    → ((line < shape.base) ⊎ (shape.base + lines_in shape ≤ line)) → is_at pulsed line ≡ false
off-pulsed shape None line within off = refl
off-pulsed shape (Some at) line within off = by (at == line) (eqb-true at line) off
  where
    by : (b : Bool) → (b ≡ true → at ≡ line) → ((line < shape.base) ⊎ (shape.base + lines_in shape ≤ line)) → b ≡ false
    by b is off = grind arith

tears-one : {n : ℕ} (happens : Happens n) (pulsed : Option ℕ) (tears : ℕ) → cond (is_tear happens pulsed) (counted tears) tears ≡ torn_by happens pulsed tears
tears-one happens pulsed tears = grind arith

pub one_added_law : OneAddedLaw
one_added_law n m shape x sensed tearing old new senses within is touches = record {
  lines = touches.lines;
  others = λ line off. touches.others line (off-pulsed shape x.pulsed line within off);
  pulses = λ line. pulsed_so line (is_at x.pulsed line) refl;
  tears =
      touches.tears ∙ ap (λ b. cond b (counted old.tears) old.tears) is ∙ tears-one x.happens x.pulsed old.tears;
  wear = touches.wear;
  bounds = touches.bounds;
  log = λ after told.
      let before = touches.log after told in
      (before.0, before.1, before.2 ∙ ap (λ (added : List (Sense n m)). before.0 ++ added) (sym senses));
}
  where
    pulsed_so : (line : ℕ) (b : Bool) → is_at x.pulsed line ≡ b → (new.line line).pulses ≡ cond (is_at x.pulsed line) (counted (old.line line).pulses) (old.line line).pulses
    pulsed_so line true at = touches.pulses line at ∙ ap (λ b. cond b (counted (old.line line).pulses) (old.line line).pulses) (sym at)
    pulsed_so line false at = ap (λ l. l.pulses) (touches.others line at) ∙ ap (λ b. cond b (counted (old.line line).pulses) (old.line line).pulses) (sym at)

-- nothing is torn where nothing is pulsed
none-torn : {n : ℕ} (event : BankEvent n) → false ≡ is_tear (Core event) None
none-torn event = grind arith

pub arrival_added_law : ArrivalAddedLaw
arrival_added_law n m tick shape event array =
    one_added_law n m shape (arrival tick event) [] false array array refl tt (none-torn event) (untouched tick array)

-- Several events

module _ {n m : ℕ} where
  senses-both : (newer older : List (TimedEvent n m)) → senses_of (newer ++ older) ≡ senses_of older ++ senses_of newer
  senses-both [] older = sym (append-nil (senses_of older))
  senses-both (x ∷ newer) older = ap (λ (senses : List (Sense n m)). senses ++ x.senses) (senses-both newer older) ∙ append_assoc (senses_of older) (senses_of newer) x.senses

  pulses-both : (newer older : List (TimedEvent n m)) (line count : ℕ) → pulses_on (newer ++ older) line count ≡ pulses_on newer line (pulses_on older line count)
  pulses-both [] older line count = refl
  pulses-both (x ∷ newer) older line count = ap (λ pulses. cond (is_at x.pulsed line) (counted pulses) pulses) (pulses-both newer older line count)

  tears-both : (newer older : List (TimedEvent n m)) (count : ℕ) → tears_on (newer ++ older) count ≡ tears_on newer (tears_on older count)
  tears-both [] older count = refl
  tears-both (x ∷ newer) older count = ap (λ tears. torn_by x.happens x.pulsed tears) (tears-both newer older count)

pub both_added_law : BothAddedLaw
both_added_law n m shape newer older first between last before after = record {
  lines = after.lines ∙ before.lines;
  others = λ line off. after.others line off ∙ before.others line off;
  pulses = λ line.
      after.pulses line ∙ ap (λ count. pulses_on newer line count) (before.pulses line) ∙ sym (pulses-both newer older line (first.line line).pulses);
  tears = after.tears ∙ ap (λ count. tears_on newer count) before.tears ∙ sym (tears-both newer older first.tears);
  wear = after.wear ∙ before.wear;
  bounds = after.bounds ∙ before.bounds;
  log = λ senses told.
      let late = after.log senses told in
      let early = before.log late.0 late.1 in (
        early.0,
        early.1,
        late.2 ∙ ap (λ (log : List (Sense n m)). log ++ senses_of newer) early.2 ∙ append_assoc early.0 (senses_of older) (senses_of newer)
            ∙ ap (λ (log : List (Sense n m)). early.0 ++ log) (sym (senses-both newer older)),
      );
}

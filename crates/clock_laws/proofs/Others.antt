-- The rows that stand, and that no other outcome is touched.
use Rattle.std.proofs.Common.{arith, ◌≡◌, ℕ, ◌==◌, ◌||◌, Bool, true, false, cond, if◌then◌else◌, List, [], ◌∷◌, ◌++◌, map, Option, Some, None, refl, sym, ap, subst, ◌∙◌, eqb-true}
use Rattle.std.specs.Prelude.{unwrap_or}
use Rattle.masked_bytes.{specs.Entries.{candidate, has_row}, specs.declared.entry.Entry.Entry, proofs.Truth.{neither_first, neither_second}}
use Rattle.result_rows.specs.declared.Outcome.{Outcome}
use Rattle.result_rows.specs.declared.Outcome.TheVariants as out
use Rattle.bank_shape.specs.{declared.BankShape.BankShape, declared.Work.TheVariants.Nothing, declared.answer.Served.Served, declared.pace.Pace.Pace}
use Rattle.bank_shape.specs.declared.waiting.Waiting.{Waiting}
use Rattle.bank_shape.specs.declared.answer.WriteAnswer.TheVariants as wrote
use Rattle.bank_shape.specs.declared.answer.ReadAnswer.TheVariants as came
use Rattle.bank_shape.specs.declared.answer.Step.TheVariants as did
use Rattle.bank_model.specs.{After.due_work, Answers.{MayHappen, IsServed, IsDone, head_busy_after}, Events.{BankEvent, Write, Read, Serve, Begin, Iterate, Cut}}
use Rattle.bank_model.specs.{History.{Awaited, queue, waits, due_after, has_exhausted}, Lawful.{Lawful, MayCome}, Sensing.most_steps}
use Rattle.bank_model.specs.Timing.{Happens, Core, Regs, TimedEvent, core, core_of}
use Rattle.bank_laws.{specs.Outcomes.{outcome_by, outcome_with, on_row}, specs.Standing.{has_wait, WaitsApart, AreRowsApart}, proofs.Answering.candidate-there}
use Rattle.bank_laws.proofs.Standing.{stand_apart}
use Rattle.bank_invariant.{specs.Holds.waiting_of, proofs.Taking.answer_merged}
use Rattle.clock_laws.specs.{Recording.outcome_on, Standing.{has_waiting, WaitingApart, AreApart, ApartLaw, is_arrival_of, arrives_with, OtherRowsLaw}}
use Rattle.clock_laws.proofs.Absent.{queue-lacks, waits-lack}

-- Rows that stand

pub same_wait : (n : ℕ) (ws : List Awaited) (row : ℕ) → has_waiting (map (waiting_of {n = n}) ws) row ≡ has_wait ws row
same_wait n [] row = refl
same_wait n (w ∷ ws) row = ap (λ b. (w.row == row) || b) (same_wait n ws row)

same_apart : (n : ℕ) (ws : List Awaited) → WaitsApart ws → WaitingApart (map (waiting_of {n = n}) ws)
same_apart n [] apart = tt
same_apart n (w ∷ ws) apart = (same_wait n ws w.row ∙ apart.0, same_apart n ws apart.1)

module _ {n : ℕ} where
  apart-of : (es : List (Entry n)) (ws : List Awaited) (next : ℕ) → AreRowsApart es ws next → AreApart es (map (waiting_of {n = n}) ws) next
  apart-of es ws next apart = record {
    queued_below = apart.queued_below;
    waiting_below = λ row below. same_wait n ws row ∙ apart.waiting_below row below;
    queued_apart = apart.queued_apart;
    waiting_apart = same_apart n ws apart.waiting_apart;
    one_place = λ row there. same_wait n ws row ∙ apart.one_place row there;
  }

pub apart_law : ApartLaw
apart_law n m e xs clock array leads =
    let apart : AreRowsApart (queue clock.bank.kept.shape (core xs)) (waits clock.bank.kept.shape (core xs)) clock.bank.rows_below =
    stand_apart clock.bank.kept.shape (core xs) clock.bank.rows_below leads.holds.rows in
    subst (λ (es : List (Entry n)). AreApart es clock.bank.waiting clock.bank.rows_below) (sym leads.holds.entries)
    (subst (λ (ws : List (Waiting n)). AreApart (queue clock.bank.kept.shape (core xs)) ws clock.bank.rows_below) (sym leads.holds.waiting)
    (apart-of (queue clock.bank.kept.shape (core xs)) (waits clock.bank.kept.shape (core xs)) clock.bank.rows_below apart))

-- Rows that don't

module _ {n : ℕ} where
  -- a row that isn't there is another
  other-row : (es : List (Entry n)) (at row : ℕ) → has_row es at ≡ true → has_row es row ≡ false → (at == row) ≡ false
  other-row es at row there none = by (at == row) (eqb-true at row)
    where
      by : (b : Bool) → (b ≡ true → at ≡ row) → b ≡ false
      by false is = refl
      by true is = let bad : has_row es at ≡ false = ap (λ r. has_row es r) (is refl) ∙ none in cc

  on-other : (at row : ℕ) (outcome : Outcome n) → (at == row) ≡ false → on_row at row outcome ≡ None
  on-other at row outcome off = ap (λ b. cond b (Some outcome) None) off

  module _ (shape : BankShape) (h : List (BankEvent n)) (row : ℕ) (none : has_row (queue shape h) row ≡ false) (waits_not : has_wait (waits shape h) row ≡ false) where
    -- the write that is stored is the head
    stored-other : (mark : Bool) (due : Option ℕ) (es : List (Entry n)) (at place : ℕ) → queue shape h ≡ es
        → IsDone shape h (if mark then Nothing else due_work shape h due es) (did.Stored at place) → (at == row) ≡ false
    stored-other mark due es at place is done = grind arith

    served-other : (ws : List Awaited) (answer : Served n) → has_wait ws row ≡ false → IsServed shape h ws answer → (answer.row == row) ≡ false
    served-other [] answer lacks is = absurd is
    served-other (w ∷ ws) answer lacks is = ap (λ r. r == row) is.0 ∙ neither_first (w.row == row) _ lacks

    no-outcome : (most tick : ℕ) (event : BankEvent n) → MayHappen shape h most event → is_arrival_of (Core event) row ≡ false → outcome_by (waits shape h) event tick row ≡ None
    no-outcome most tick (Write at line bytes given (wrote.Merged old)) may off =
        let told = answer_merged shape h (has_exhausted h) (candidate (head_busy_after shape h) (queue shape h) line) old may.2 in
        on-other old row _ (other-row (queue shape h) old row (candidate-there (head_busy_after shape h) (queue shape h) line old told.1) none)
    no-outcome most tick (Write at line bytes given wrote.Full) may off = on-other at row _ off
    no-outcome most tick (Write at line bytes given wrote.Exhausted) may off = on-other at row _ off
    no-outcome most tick (Read at line came.Busy) may off = on-other at row _ off
    no-outcome most tick (Read at line (came.Forwarded bytes)) may off = on-other at row _ off
    no-outcome most tick (Serve answer) may off = on-other answer.row row _ (served-other (waits shape h) answer waits_not may)
    no-outcome most tick (Begin (did.Stored at place)) may off =
        on-other at row _ (stored-other (has_exhausted h) (due_after shape h) (queue shape h) at place refl may.1)
    no-outcome most tick (Iterate (did.Stored at place)) may off =
        on-other at row _ (stored-other (has_exhausted h) (due_after shape h) (queue shape h) at place refl may.1)
    no-outcome most tick (Cut tearing) may off = ap (λ b. cond b (Some (out.Lost tick)) None) waits_not
    no-outcome most tick _ may off = refl

module _ {n m : ℕ} (shape : BankShape) (pace : Pace) (e row : ℕ) (before : ℕ → Outcome n) where
  -- a row that neither stands nor waits after events, and whose outcome is as before them
  record IsAside (added xs : List (TimedEvent n m)) : Type 0 where
    queued : has_row (queue shape (core (added ++ xs))) row ≡ false
    waiting : has_wait (waits shape (core (added ++ xs))) row ≡ false
    outcome : outcome_on shape added xs before row ≡ before row

  aside : (added xs : List (TimedEvent n m)) → Lawful shape pace e (added ++ xs) → has_row (queue shape (core xs)) row ≡ false → has_wait (waits shape (core xs)) row ≡ false
      → arrives_with added row ≡ false → IsAside added xs
  aside [] xs lawful none waits_not off = record { queued = none; waiting = waits_not; outcome = refl }
  aside (x ∷ added) xs lawful none waits_not off =
      let rest : IsAside added xs = aside added xs lawful.1 none waits_not (neither_second (is_arrival_of x.happens row) _ off) in
      let one = by x.happens (added ++ xs) lawful.0 rest.queued rest.waiting (neither_first (is_arrival_of x.happens row) _ off) in
      record {
        queued = one.0;
        waiting = one.1;
        outcome = ap (λ outcome. unwrap_or outcome (outcome_on shape added xs before row)) one.2 ∙ rest.outcome;
      }
    where
      by : (h : Happens n) (ys : List (TimedEvent n m)) → MayCome shape pace e ys x h → has_row (queue shape (core ys)) row ≡ false → has_wait (waits shape (core ys)) row ≡ false
          → is_arrival_of h row ≡ false
          → (has_row (queue shape (core_of h (core ys))) row ≡ false) × (has_wait (waits shape (core_of h (core ys))) row ≡ false) × (outcome_with shape ys h x.tick row ≡ None)
      by (Core event) ys may none waits_not off = (
        queue-lacks shape (core ys) row none event off,
        waits-lack shape (core ys) row waits_not event off,
        no-outcome shape (core ys) row none waits_not (most_steps e) x.tick event may.may off,
      )
      by (Regs event) ys may none waits_not off = (none, waits_not, refl)

pub other_rows_law : OtherRowsLaw
other_rows_law n m e row added xs clock array before leads lawful none waits_not off =
    (aside clock.bank.kept.shape clock.pace e row before added xs lawful
    (ap (λ es. has_row es row) (sym leads.holds.entries) ∙ none)
    (sym (same_wait n (waits clock.bank.kept.shape (core xs)) row) ∙ ap (λ ws. has_waiting ws row) (sym leads.holds.waiting) ∙ waits_not)
    off).outcome

-- A write of a line is out of the queue exactly where its row was stored.
use Rattle.std.proofs.Common.{◌≡◌, ℕ, ◌==◌, ◌⊎◌, inl, inr, Bool, true, false, List, [], ◌∷◌, ◌++◌, Some, None, refl, sym, ap, ◌∙◌, subst, arith, cond, eqb, eq-eqb, eqb-true}
use Rattle.std.{specs.Prelude.unwrap_or, proofs.lemmas.Bool.or_right}
use Rattle.result_rows.specs.declared.Outcome.{Outcome}
use Rattle.result_rows.specs.declared.Outcome.TheVariants as out
use Rattle.row_rules.specs.Answers.{is_stored}
use Rattle.bank_shape.specs.{declared.BankShape.BankShape, declared.answer.WriteAnswer.WriteAnswer, declared.pace.Pace.Pace}
use Rattle.bank_shape.specs.declared.answer.WriteAnswer.TheVariants as wrote
use Rattle.bank_shape.specs.declared.answer.ReadAnswer.TheVariants as came
use Rattle.bank_shape.specs.declared.answer.Step.TheVariants as did
use Rattle.bank_model.specs.{Events.{BankEvent, Write, Read, Serve, Begin, Iterate, Cut, RowsBelow, line_of_row, up_to}, History.waits, Lawful.{Lawful, MayCome}}
use Rattle.bank_model.specs.{Sensing.most_steps, Timing.{Happens, Core, Regs, TimedEvent, core, core_of}}
use Rattle.bank_laws.{specs.Outcomes.{on_row, outcome_with, outcome_of}, specs.Standing.has_wait, specs.Ticks.ends_action, proofs.Entries.either}
use Rattle.bank_laws.proofs.{Settling.{opens, above_all, step_stays}, Waiting.may_all, Wears.stored_by}
use Rattle.log_laws.proofs.{Covering.{out_in, out-fresh}, Fitting.{out_with, out_with-not, out_with-kept}, Naming.{line-kept, up_to-kept}}

pub core-append : {n m : ℕ} (mid ys : List (TimedEvent n m)) → core (mid ++ ys) ≡ core mid ++ core ys
core-append [] ys = refl
core-append {n} {m} (x ∷ mid) ys = by x.happens (core-append mid ys)
  where
    by : (h : Happens n) → core (mid ++ ys) ≡ core mid ++ core ys → core_of h (core (mid ++ ys)) ≡ core_of h (core mid) ++ core ys
    by (Core event) rest = ap (λ h. event ∷ h) rest
    by (Regs event) rest = rest

module _ {n : ℕ} where
  -- what was stored stays so
  pub out-more : (line : ℕ) (event : BankEvent n) (h : List (BankEvent n)) (row : ℕ) → out_in line h row ≡ true → out_in line (event ∷ h) row ≡ true
  out-more line (Begin (did.Stored at place)) h row k = out_with-kept (line_of_row at h == line) (out_in line h) at row k
  out-more line (Iterate (did.Stored at place)) h row k = out_with-kept (line_of_row at h == line) (out_in line h) at row k
  out-more line _ h row k = k

  -- an outcome that is no store stores nothing
  on_row-not : (at row : ℕ) (t o : Outcome n) → is_stored t ≡ false → is_stored o ≡ false → is_stored (unwrap_or (on_row at row t) o) ≡ false
  on_row-not at row t o none was = by (eqb at row)
    where
      by : (b : Bool) → is_stored (unwrap_or (cond b (Some t) None) o) ≡ false
      by b = grind arith

  lost-not : (b : Bool) (tick : ℕ) (o : Outcome n) → is_stored o ≡ false → is_stored (unwrap_or (cond b (Some (out.Lost tick)) None) o) ≡ false
  lost-not b tick o was = grind arith

  -- and a store stores its row
  on_row-out : (line : ℕ) (h : List (BankEvent n)) (at row tick place : ℕ) (o : Outcome n) → line_of_row row h ≡ line → is_stored o ≡ false → out_in line h row ≡ false
      → is_stored (unwrap_or (on_row at row (out.Stored tick place)) o) ≡ out_with (line_of_row at h == line) (out_in line h) at row
  on_row-out line h at row tick place o is was none = by (eqb at row) refl
    where
      own : (b : Bool) → b ≡ true → eqb at row ≡ true → true ≡ out_with b (out_in line h) at row
      own true k same = sym (or_right (out_in line h row) _ same)
      own false k same = absurd (cc)

      by : (b : Bool) → eqb at row ≡ b → is_stored (unwrap_or (cond b (Some (out.Stored tick place)) None) o) ≡ out_with (line_of_row at h == line) (out_in line h) at row
      by true same = own (line_of_row at h == line) (eq-eqb (line_of_row at h) line (ap (λ r. line_of_row r h) (eqb-true at row same) ∙ is)) same
      by false other = was ∙ sym (out_with-not (line_of_row at h == line) (out_in line h) at row none other)

  not_stored : (o : Outcome n) → ((u p : ℕ) → o ≡ out.Stored u p → ⊥) → is_stored o ≡ false
  not_stored (out.Stored tick place) isnt = absurd (isnt tick place refl)
  not_stored _ isnt = refl

module _ {n m : ℕ} (shape : BankShape) (pace : Pace) (e : ℕ) where
  -- over one more event
  step_out : (zs : List (TimedEvent n m)) (y : TimedEvent n m) (h : Happens n) (row line : ℕ) → Lawful shape pace e zs → MayCome shape pace e zs y h → line_of_row row (core zs) ≡ line
      → is_stored (outcome_of shape zs row) ≡ out_in line (core zs) row
      → is_stored (unwrap_or (outcome_with shape zs h y.tick row) (outcome_of shape zs row)) ≡ out_in line (core_of h (core zs)) row
  step_out zs y h row line l may is same = either (is_stored (outcome_of shape zs row)) (λ there. stay h may there) (λ isnt. by h isnt (sym same ∙ isnt))
    where
      more : (h : Happens n) → out_in line (core zs) row ≡ true → out_in line (core_of h (core zs)) row ≡ true
      more (Core event) k = out-more line event (core zs) row k
      more (Regs event) k = k

      stay : (h : Happens n) → MayCome shape pace e zs y h → is_stored (outcome_of shape zs row) ≡ true → is_stored (unwrap_or (outcome_with shape zs h y.tick row) (outcome_of shape zs row)) ≡ out_in line (core_of h (core zs)) row
      stay h may there =
          ap is_stored (step_stays shape pace e zs y h row l (opens shape pace e zs l) may (λ un. absurd (cc (ap is_stored un)))) ∙ there ∙ sym (more h (sym same ∙ there))

      o : Outcome n
      o = outcome_of shape zs row

      by : (h : Happens n) → is_stored (outcome_of shape zs row) ≡ false → out_in line (core zs) row ≡ false → is_stored (unwrap_or (outcome_with shape zs h y.tick row) (outcome_of shape zs row)) ≡ out_in line (core_of h (core zs)) row
      by (Core (Write at to bytes given (wrote.Merged old))) isnt none = on_row-not old row (out.Merged y.tick) o refl isnt ∙ sym none
      by (Core (Write at to bytes given wrote.Full)) isnt none = on_row-not at row (out.Full y.tick) o refl isnt ∙ sym none
      by (Core (Write at to bytes given wrote.Exhausted)) isnt none = on_row-not at row (out.Worn y.tick) o refl isnt ∙ sym none
      by (Core (Read at to came.Busy)) isnt none = on_row-not at row (out.Busy y.tick) o refl isnt ∙ sym none
      by (Core (Read at to (came.Forwarded bytes))) isnt none = on_row-not at row (out.Forwarded y.tick bytes) o refl isnt ∙ sym none
      by (Core (Serve answer)) isnt none = on_row-not answer.row row (out.Read y.tick answer.place answer.bytes) o refl isnt ∙ sym none
      by (Core (Begin (did.Stored at place))) isnt none = on_row-out line (core zs) at row y.tick place o is isnt none
      by (Core (Iterate (did.Stored at place))) isnt none = on_row-out line (core zs) at row y.tick place o is isnt none
      by (Core (Cut tearing)) isnt none = lost-not (has_wait (waits shape (core zs)) row) y.tick o isnt ∙ sym none
      by _ isnt none = isnt ∙ sym none

  module _ (x : TimedEvent n m) (ys : List (TimedEvent n m)) (row line : ℕ) (bytes : List ℕ) (given : List Bool) (answer : WriteAnswer) (is : x.happens ≡ Core (Write row line bytes given answer)) where
    whole : (mid : List (TimedEvent n m)) → core (mid ++ x ∷ ys) ≡ core mid ++ Write row line bytes given answer ∷ core ys
    whole mid = core-append mid (x ∷ ys) ∙ ap (λ h. core mid ++ core_of h (core ys)) is

    -- a write's line and its history, among all events
    pub line-in : (mid : List (TimedEvent n m)) → Lawful shape pace e (mid ++ x ∷ ys) → line_of_row row (core (mid ++ x ∷ ys)) ≡ line
    line-in mid l =
        let b = above_all shape pace e (mid ++ x ∷ ys) l in
        ap (line_of_row row) (whole mid) ∙ line-kept (core mid) row line bytes given answer (core ys) b.0 (subst (λ h. RowsBelow h b.0) (whole mid) b.1)

    pub up_to-in : (mid : List (TimedEvent n m)) → Lawful shape pace e (mid ++ x ∷ ys) → up_to row (core (mid ++ x ∷ ys)) ≡ Write row line bytes given answer ∷ core ys
    up_to-in mid l =
        let b = above_all shape pace e (mid ++ x ∷ ys) l in
        ap (up_to row) (whole mid) ∙ up_to-kept (core mid) row line bytes given answer (core ys) b.0 (subst (λ h. RowsBelow h b.0) (whole mid) b.1)

    -- a write isn't stored as it comes
    pub unstored-first : Lawful shape pace e (x ∷ ys) → is_stored (outcome_of shape (x ∷ ys) row) ≡ false
    unstored-first l =
        not_stored (outcome_of shape (x ∷ ys) row) (λ u p s. by u p (stored_by shape pace e ys x x.happens row u p s))
      where
        unset : outcome_of shape ys row ≡ out.Unset
        unset = (opens shape pace e ys l.1).coming row (subst (λ h. MayCome shape pace e ys x h) is l.0).asked

        by : (u p : ℕ) → ((ends_action x.happens ≡ true) × (u ≡ x.tick)) ⊎ (outcome_of shape ys row ≡ out.Stored u p) → ⊥
        by u p (inl k) = absurd (cc (sym k.0 ∙ ap ends_action is))
        by u p (inr s) = let j : ◌≡◌ {A = Outcome n} out.Unset (out.Stored u p) = sym unset ∙ s in absurd (cc)

    pub out-same : (mid : List (TimedEvent n m)) → Lawful shape pace e (mid ++ x ∷ ys) → is_stored (outcome_of shape (mid ++ x ∷ ys) row) ≡ out_in line (core (mid ++ x ∷ ys)) row
    out-same [] l =
        unstored-first l
        ∙ sym (ap (λ h. out_in line h row) (whole []) ∙ out-fresh shape (most_steps e) (core ys) row line row (may_all shape pace e ys l.1) (subst (λ h. MayCome shape pace e ys x h) is l.0).asked (omega arith))
    out-same (y ∷ mid) l = step_out (mid ++ x ∷ ys) y y.happens row line l.1 l.0 (line-in mid l.1) (out-same mid l.1)

-- Which outcome a row has in the end, by the answer of its event.
use Rattle.std.proofs.Common.{arith, ◌≡◌, ◌≢◌, ℕ, ◌⊎◌, inl, inr, Bool, true, false, List, [], ◌∷◌, ◌++◌, Option, Some, None, refl, sym, ap, ◌∙◌, subst, cond, eq-eqb}
use Rattle.std.specs.Prelude.{unwrap_or}
use Rattle.result_rows.specs.declared.Outcome.{Outcome}
use Rattle.result_rows.specs.declared.Outcome.TheVariants as out
use Rattle.row_rules.specs.{Answers.accepts, Serving.may_have, declared.Asks.TheVariants.Writes}
use Rattle.bank_shape.specs.{declared.BankShape.BankShape, declared.answer.WriteAnswer.WriteAnswer, declared.pace.Pace.Pace}
use Rattle.bank_shape.specs.declared.answer.WriteAnswer.TheVariants as wrote
use Rattle.bank_model.specs.{Events.Write, History.queue, Lawful.{Lawful, MayCome}, Timing.{Happens, Core, TimedEvent, core}}
use Rattle.bank_laws.{specs.Outcomes.{on_row, outcome_with, outcome_of, ended}, specs.Settling.AreOpen, proofs.Answering.merged-there}
use Rattle.bank_laws.proofs.{Fates.{IsLeft, WriteFate, WriteFateBy, ReadFate, ReadFateBy, write_fate, read_fate, new-push, new-merged}, Settling.stays}

-- what an event leaves stands in the end as said
pub record Onwards {n m : ℕ} (shape : BankShape) (all ys : List (TimedEvent n m)) (tick : ℕ) (h : Happens n) : Type 0 where
  pub stay : (row : ℕ) → unwrap_or (outcome_with shape ys h tick row) (outcome_of shape ys row) ≢ out.Unset
      → outcome_of shape all row ≡ unwrap_or (outcome_with shape ys h tick row) (outcome_of shape ys row)
  pub writes : (row : ℕ) → WriteFateBy shape ys tick h row → WriteFate shape all row
  pub reads : (row : ℕ) (owed : List ℕ) → ReadFateBy shape ys tick h row owed → ReadFate shape all row owed

pub onwards : {n m : ℕ} (shape : BankShape) (pace : Pace) (e : ℕ) (later : List (TimedEvent n m)) (x : TimedEvent n m) (ys : List (TimedEvent n m))
    → Lawful shape pace e (later ++ x ∷ ys) → Onwards shape (later ++ x ∷ ys) ys x.tick x.happens
onwards shape pace e later x ys l = record {
  stay = λ row set. stays shape pace e later (x ∷ ys) row l set;
  writes = λ row f. write_fate shape pace e later (x ∷ ys) row l f;
  reads = λ row owed f. read_fate shape pace e later (x ∷ ys) row owed l f;
}

-- whether an answer accepts a write
abbrev pub accepting : WriteAnswer → Bool
accepting wrote.Accepted = true
accepting (wrote.Merged old) = true
accepting wrote.Full = false
accepting wrote.Exhausted = false

-- the outcome of a write by its answer: it is refused at once, or stored, merged or queued
abbrev pub IsOutcome : {n : ℕ} → ℕ → WriteAnswer → Outcome n → Type 0
IsOutcome tick wrote.Accepted outcome = IsLeft outcome ⊎ (outcome ≡ out.Queued tick)
IsOutcome tick (wrote.Merged old) outcome = IsLeft outcome ⊎ (outcome ≡ out.Queued tick)
IsOutcome tick wrote.Full outcome = outcome ≡ out.Full tick
IsOutcome tick wrote.Exhausted outcome = outcome ≡ out.Worn tick

module _ {n : ℕ} where
  pub own_row : (row : ℕ) (t o : Outcome n) → unwrap_or (on_row row row t) o ≡ t
  own_row row t o = subst (λ b. unwrap_or (cond b (Some t) None) o ≡ t) (sym (eq-eqb row row refl)) refl

  left-ended : (tick : ℕ) (o : Outcome n) → IsLeft o → ended tick o ≡ o
  left-ended tick o l = grind arith

  left-accepts : (o : Outcome n) → IsLeft o → accepts o ≡ true
  left-accepts o l = grind arith

  left-may : (tick line : ℕ) (bytes : List ℕ) (given : List Bool) (o : Outcome n) → IsLeft o → may_have tick (Writes line bytes given) [] o ≡ true
  left-may tick line bytes given o l = grind arith

  -- the rows and the events agree on which writes are accepted
  pub outcome-accepts : (tick : ℕ) (answer : WriteAnswer) (o : Outcome n) → IsOutcome tick answer o → accepts o ≡ accepting answer
  outcome-accepts tick wrote.Accepted o (inl l) = left-accepts o l
  outcome-accepts tick wrote.Accepted o (inr is) = ap accepts is
  outcome-accepts tick (wrote.Merged old) o (inl l) = left-accepts o l
  outcome-accepts tick (wrote.Merged old) o (inr is) = ap accepts is
  outcome-accepts tick _ o is = ap accepts is

  -- a write's outcome is one of a write
  pub outcome-may : (tick line : ℕ) (bytes : List ℕ) (given : List Bool) (answer : WriteAnswer) (o : Outcome n) → IsOutcome tick answer o
      → may_have tick (Writes line bytes given) [] o ≡ true
  outcome-may tick line bytes given wrote.Accepted o (inl l) = left-may tick line bytes given o l
  outcome-may tick line bytes given wrote.Accepted o (inr is) = ap (may_have tick (Writes line bytes given) []) is ∙ eq-eqb tick tick refl
  outcome-may tick line bytes given (wrote.Merged old) o (inl l) = left-may tick line bytes given o l
  outcome-may tick line bytes given (wrote.Merged old) o (inr is) = ap (may_have tick (Writes line bytes given) []) is ∙ eq-eqb tick tick refl
  outcome-may tick line bytes given _ o is = ap (may_have tick (Writes line bytes given) []) is ∙ eq-eqb tick tick refl

module _ {n m : ℕ} (shape : BankShape) (pace : Pace) (e : ℕ) (all ys : List (TimedEvent n m)) (x : TimedEvent n m) where
  fate_outcome : (tick row : ℕ) → AreOpen shape all → WriteFate shape all row → IsLeft (ended tick (outcome_of shape all row)) ⊎ (ended tick (outcome_of shape all row) ≡ out.Queued tick)
  fate_outcome tick row o (inl there) = inr (ap (ended tick) (o.queued row there))
  fate_outcome tick row o (inr left) = inl (subst (λ (o : Outcome n). IsLeft o) (sym (left-ended tick (outcome_of shape all row) left)) left)

  -- a row that an event answers at once keeps that answer
  pub own_answer : (h : Happens n) (row : ℕ) (t : Outcome n) → Onwards shape all ys x.tick h → outcome_with shape ys h x.tick row ≡ on_row row row t → t ≢ out.Unset → outcome_of shape all row ≡ t
  own_answer h row t on is set =
      let own : unwrap_or (outcome_with shape ys h x.tick row) (outcome_of shape ys row) ≡ t = ap (λ (o : Option (Outcome n)). unwrap_or o (outcome_of shape ys row)) is ∙ own_row row t (outcome_of shape ys row) in
      on.stay row (λ unset. set (sym own ∙ unset)) ∙ own

  pub write_outcome : (row line : ℕ) (bytes : List ℕ) (given : List Bool) (answer : WriteAnswer) → AreOpen shape all → MayCome shape pace e ys x (Core (Write row line bytes given answer))
      → Onwards shape all ys x.tick (Core (Write row line bytes given answer)) → IsOutcome x.tick answer (ended x.tick (outcome_of shape all row))
  write_outcome row line bytes given wrote.Accepted o may on = fate_outcome x.tick row o (on.writes row (inl (new-push (queue shape (core ys)) (record { row = row; line = line; bytes = bytes; given = given }))))
  write_outcome row line bytes given (wrote.Merged old) o may on =
      fate_outcome x.tick row o (on.writes row (inl (new-merged old row bytes given (queue shape (core ys)) (merged-there shape (core ys) line old may.may.2))))
  write_outcome row line bytes given wrote.Full o may on =
      ap (ended x.tick) (own_answer (Core (Write row line bytes given wrote.Full)) row (out.Full x.tick) on refl (λ is. absurd (cc)))
  write_outcome row line bytes given wrote.Exhausted o may on =
      ap (ended x.tick) (own_answer (Core (Write row line bytes given wrote.Exhausted)) row (out.Worn x.tick) on refl (λ is. absurd (cc)))

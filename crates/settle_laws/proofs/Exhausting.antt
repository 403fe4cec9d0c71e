-- A bank that is exhausted accepts no write that comes later.
use Rattle.std.proofs.Common.{◌≡◌, ℕ, cond, Bool, true, false, List, [], ◌++◌, inl, inr, refl, sym, ap, subst, ◌∙◌}
use Rattle.std.specs.Prelude.{All}
use Rattle.masked_bytes.specs.Entries.{candidate, layer_of}
use Rattle.result_rows.specs.declared.Outcome.{Outcome}
use Rattle.result_rows.specs.declared.Outcome.TheVariants as out
use Rattle.row_rules.specs.{Answers.accepts, declared.Asks.Asks, declared.Asks.TheVariants.{Reads, Writes, Cuts}}
use Rattle.bank_shape.specs.{declared.BankShape.BankShape, declared.answer.ReadAnswer.ReadAnswer, declared.answer.WriteAnswer.WriteAnswer, declared.pace.Pace.Pace}
use Rattle.bank_shape.specs.declared.answer.WriteAnswer.TheVariants as wrote
use Rattle.bank_shape.specs.declared.answer.ReadAnswer.TheVariants as came
use Rattle.bank_model.specs.{Answers.{accept_answer, head_busy_after, write_answer}, Events.{Write, Read, newest}, History.{awaited, has_exhausted, queue, waits}, Lawful.Lawful}
use Rattle.bank_model.specs.Timing.{Core, TimedEvent, core}
use Rattle.bank_laws.{specs.Outcomes.{ended, outcome_of}, proofs.Ending.{Onwards, own_answer}, proofs.Fates.{IsSettled, ReadFate, awaits-has, awaits-new}, proofs.Settling.opens}
use Rattle.bank_laws.proofs.Wears.{exhausted_later}
use Rattle.module_laws.specs.Asking.{Asked, AreAsked}
use Rattle.settle_laws.proofs.{Banks.known_of, Coming.each-later}

settled-rejects : {n : ℕ} (owed : List ℕ) (o : Outcome n) → IsSettled owed o → accepts o ≡ false
settled-rejects owed (out.Read tick place bytes) settled = refl
settled-rejects owed (out.Lost tick) settled = refl
settled-rejects owed _ settled = absurd settled

module _ {n m : ℕ} (shape : BankShape) (pace : Pace) (e : ℕ) (xs : List (TimedEvent n m)) (exhausted : has_exhausted (core xs) ≡ true) (all : List (TimedEvent n m)) (l : Lawful shape pace e all) (over : Bool) where
  -- a row comes to no accepted write
  abbrev Rejects : Asked n → Asks n → Type 0
  Rejects a asks = accepts (known_of over shape all a asks) ≡ false

  abbrev Is : Asked n → Type 0
  Is a = Rejects a a.asks

  of-write : (over : Bool) (a : Asked n) (line : ℕ) (bytes : List ℕ) (given : List Bool) (tick : ℕ) → outcome_of shape all a.row ≡ out.Worn tick → accepts (known_of over shape all a (Writes line bytes given)) ≡ false
  of-write true a line bytes given tick is = ap (λ (o : Outcome n). accepts (ended a.tick o)) is
  of-write false a line bytes given tick is = ap accepts is

  of-read : (over : Bool) (a : Asked n) (line : ℕ) → accepts (outcome_of shape all a.row) ≡ false → accepts (known_of over shape all a (Reads line)) ≡ false
  of-read true a line is = is
  of-read false a line is = is

  of-cut : (over : Bool) (a : Asked n) → accepts (known_of over shape all a Cuts) ≡ false
  of-cut true a = refl
  of-cut false a = refl

  -- of an event and those before it, those of the history among them
  module _ (ys : List (TimedEvent n m)) (x : TimedEvent n m) (still : has_exhausted (core ys) ≡ true) where
    refuses : (answer : WriteAnswer) (line : ℕ) → answer ≡ write_answer shape (core ys) line → answer ≡ wrote.Exhausted
    refuses answer line is =
        is ∙ ap (λ b. cond b wrote.Exhausted (accept_answer shape (core ys) (candidate (head_busy_after shape (core ys)) (queue shape (core ys)) line))) still

    written : (row line : ℕ) (bytes : List ℕ) (given : List Bool) (answer : WriteAnswer) → answer ≡ wrote.Exhausted → Onwards shape all ys x.tick (Core (Write row line bytes given answer))
        → outcome_of shape all row ≡ out.Worn x.tick
    written row line bytes given wrote.Exhausted is on = own_answer shape pace e all ys x (Core (Write row line bytes given wrote.Exhausted)) row (out.Worn x.tick) on refl (λ is. absurd (cc))
    written row line bytes given _ is on = absurd (cc is)

    came-in : (row line : ℕ) (answer : ReadAnswer n) → Onwards shape all ys x.tick (Core (Read row line answer)) → accepts (outcome_of shape all row) ≡ false
    came-in row line (came.Forwarded bytes) on =
        ap accepts (own_answer shape pace e all ys x (Core (Read row line (came.Forwarded bytes))) row (out.Forwarded x.tick bytes) on refl (λ is. absurd (cc)))
    came-in row line came.Busy on = ap accepts (own_answer shape pace e all ys x (Core (Read row line came.Busy)) row (out.Busy x.tick) on refl (λ is. absurd (cc)))
    came-in row line came.Waiting on =
        by (on.reads row (newest (core ys) line) (inl (awaits-new (waits shape (core ys)) (awaited row line (newest (core ys) line) (layer_of (queue shape (core ys)) line)))))
      where
        by : ReadFate shape all row (newest (core ys) line) → accepts (outcome_of shape all row) ≡ false
        by (inl awaits) = ap accepts ((opens shape pace e all l).waiting row (awaits-has (waits shape (core all)) row (newest (core ys) line) awaits))
        by (inr settled) = settled-rejects (newest (core ys) line) (outcome_of shape all row) settled

  pub rejected : (since : List (TimedEvent n m)) → all ≡ since ++ xs → (later asked : List (Asked n)) → AreAsked (since ++ xs) (later ++ asked) → AreAsked xs asked
      → All (λ (a : Asked n). accepts (known_of over shape all a a.asks) ≡ false) later
  rejected =
      each-later shape pace e xs all l Is
      (λ later since x same row line bytes given answer may on.
      let still = exhausted_later shape pace e since xs exhausted in
      of-write over (record { row = row; tick = x.tick; asks = Writes line bytes given }) line bytes given x.tick
      (written (since ++ xs) x still row line bytes given answer (refuses (since ++ xs) x still answer line may.may.2) on))
      (λ later since x same row line answer may on.
      of-read over (record { row = row; tick = x.tick; asks = Reads line }) line (came-in (since ++ xs) x (exhausted_later shape pace e since xs exhausted) row line answer on))
      (λ a is_cut. subst (λ (asks : Asks n). Rejects a asks) (sym is_cut) (of-cut over a))

-- The rows and the events agree on the newest bytes, and every row of a bank's table is served as it should be.
use Rattle.std.proofs.Common.{arith, ◌≡◌, ℕ, ◌==◌, ◌&&◌, not, inl, inr, Bool, true, false, List, [], ◌∷◌, ◌++◌, Some, None, length, refl, sym, ap, ◌∙◌, subst, cond, eqb, append_assoc, eq-eqb}
use Rattle.std.proofs.lemmas.Bool.{and_from}
use Rattle.result_rows.specs.declared.Outcome.{Outcome}
use Rattle.result_rows.specs.declared.Outcome.TheVariants as out
use Rattle.masked_bytes.specs.{Entries.layer_of, Masked.{laid, gives_all}}
use Rattle.row_rules.specs.{Answers.accepts, Serving.{may_have, same_bytes, is_served}, declared.Asks.TheVariants.Reads}
use Rattle.row_rules.specs.Rows as rows
use Rattle.bank_shape.specs.{Acting.{Choice, chosen_by}, Pausing.gives_way, declared.BankShape.BankShape, declared.answer.ReadAnswer.ReadAnswer}
use Rattle.bank_shape.specs.{declared.answer.WriteAnswer.WriteAnswer, declared.pace.Pace.Pace}
use Rattle.bank_shape.specs.declared.answer.WriteAnswer.TheVariants as wrote
use Rattle.bank_shape.specs.declared.answer.ReadAnswer.TheVariants as came
use Rattle.bank_shape.specs.declared.clock.Doing.TheVariants as doing
use Rattle.bank_model.specs.{Answers.read_answer, Events.{BankEvent, Write, Read, Cut, newest}, History.{Awaited, awaited, queue, waits}, Lawful.{Lawful, IsIdle, MayCome}}
use Rattle.bank_model.specs.{Running.choice_after, Timing.{Happens, Core, TimedEvent, core, core_of, is_empty}}
use Rattle.bank_laws.specs.{Outcomes.{outcome_of, ended, row_with, rows_from}, RowLaws.ServedLaw, Settling.AreOpen}
use Rattle.bank_laws.proofs.{Ending.{Onwards, onwards, accepting, outcome-accepts, outcome-may, own_answer, write_outcome}, Fates.{Awaits, IsSettled, ReadFate, awaits-new}}
use Rattle.bank_laws.proofs.{Settling.{opens, lawful_before}, Walking.{Passes, walk, rows_after}}

pub same_bytes-same : (xs ys : List ℕ) → xs ≡ ys → same_bytes xs ys ≡ true
same_bytes-same xs ys e = subst (λ ys. same_bytes xs ys ≡ true) e (itself xs)
  where
    itself : (xs : List ℕ) → same_bytes xs xs ≡ true
    itself [] = refl
    itself (x ∷ xs) = and_from (x == x) _ (eq-eqb x x refl) (itself xs)

-- where nothing is chosen no read waits
pub none-waits : (way reads : Bool) (c : Choice) → chosen_by way reads c ≡ None → reads ≡ false
none-waits way false c is = refl
none-waits true true c is = absurd (cc)
none-waits false true c is = by c.busy is
  where
    by : (b : Bool) → cond b (Some c.going_on) (Some doing.Serving) ≡ None → true ≡ false
    by b is = grind arith

empty-waits : (ws : List Awaited) → not (is_empty ws) ≡ false → ws ≡ []
empty-waits ws h = grind arith

pub idle-waits : {n m : ℕ} (shape : BankShape) (pace : Pace) (xs : List (TimedEvent n m)) → IsIdle shape pace xs → waits shape (core xs) ≡ []
idle-waits shape pace xs idle = empty-waits (waits shape (core xs)) (none-waits (gives_way pace.policy) (not (is_empty (waits shape (core xs)))) (choice_after shape pace xs) idle.chosen)

lay_taken : (a b : Bool) (xs ys : List ℕ) → b ≡ true → cond (a && b) xs ys ≡ cond a xs ys
lay_taken a b xs ys h = grind arith

lay_left : (a b : Bool) (xs ys : List ℕ) → b ≡ false → cond (a && b) xs ys ≡ ys
lay_left a b xs ys h = grind arith

module _ {n : ℕ} where
  -- the bytes of a forwarded answer are the newest
  pub forwarded-newest : (shape : BankShape) (h : List (BankEvent n)) (line : ℕ) (bytes : List ℕ) → came.Forwarded bytes ≡ read_answer shape h line → bytes ≡ newest h line
  forwarded-newest shape h line bytes f = by (gives_all ((layer_of (queue shape h) line).given)) (eqb (length (waits shape h)) shape.reads) f
    where
      by : (b c : Bool) → ◌≡◌ {A = ReadAnswer n} (came.Forwarded bytes) (cond b (came.Forwarded (newest h line)) (cond c came.Busy came.Waiting)) → bytes ≡ newest h line
      by b c f = grind arith

module _ {n m : ℕ} (shape : BankShape) (pace : Pace) (e : ℕ) (all : List (TimedEvent n m)) where
  -- of each split of a lawful history: its event was allowed, and what it leaves stands in the end
  pub may_at : (later : List (TimedEvent n m)) (x : TimedEvent n m) (ys : List (TimedEvent n m)) → Lawful shape pace e all → all ≡ later ++ x ∷ ys → MayCome shape pace e ys x x.happens
  may_at later x ys l same = (lawful_before shape pace e later (x ∷ ys) (subst (λ (xs : List (TimedEvent n m)). Lawful shape pace e xs) same l)).0

  pub onwards_at : (later : List (TimedEvent n m)) (x : TimedEvent n m) (ys : List (TimedEvent n m)) → Lawful shape pace e all → all ≡ later ++ x ∷ ys → Onwards shape all ys x.tick x.happens
  onwards_at later x ys l same =
      subst (λ (xs : List (TimedEvent n m)). Onwards shape xs ys x.tick x.happens) (sym same) (onwards shape pace e later x ys (subst (λ (xs : List (TimedEvent n m)). Lawful shape pace e xs) same l))

  newest_write : (ys : List (TimedEvent n m)) (x : TimedEvent n m) (at row line : ℕ) (bytes : List ℕ) (given : List Bool) (answer : WriteAnswer)
      → accepts (ended x.tick (outcome_of shape all row)) ≡ accepting answer → rows.newest (rows_from shape all ys) line ≡ newest (core ys) line
      → cond (eqb at line && accepts (ended x.tick (outcome_of shape all row))) (laid bytes given (rows.newest (rows_from shape all ys) line)) (rows.newest (rows_from shape all ys) line)
      ≡ newest (Write row at bytes given answer ∷ core ys) line
  newest_write ys x at row line bytes given wrote.Full acc ih = lay_left (eqb at line) _ _ _ acc ∙ ih
  newest_write ys x at row line bytes given wrote.Exhausted acc ih = lay_left (eqb at line) _ _ _ acc ∙ ih
  newest_write ys x at row line bytes given _ acc ih = lay_taken (eqb at line) _ _ _ acc ∙ ap (λ under. cond (eqb at line) (laid bytes given under) under) ih

  -- the newest bytes by the rows are those by the events
  pub newest_same : (later ys : List (TimedEvent n m)) (line : ℕ) → Lawful shape pace e all → AreOpen shape all → all ≡ later ++ ys → rows.newest (rows_from shape all ys) line ≡ newest (core ys) line
  newest_same later [] line l o same = refl
  newest_same later (x ∷ ys) line l o same =
      by x.happens x.cancels (may_at later x ys l same) (onwards_at later x ys l same) (newest_same (later ++ x ∷ []) ys line l o (same ∙ sym (append_assoc later (x ∷ []) ys)))
    where
      by : (h : Happens n) (cancels : Bool) → MayCome shape pace e ys x h → Onwards shape all ys x.tick h → rows.newest (rows_from shape all ys) line ≡ newest (core ys) line
          → rows.newest (row_with shape all h x.tick cancels ++ rows_from shape all ys) line ≡ newest (core_of h (core ys)) line
      by (Core (Write row at bytes given answer)) cancels may on ih =
          newest_write ys x at row line bytes given answer
          (outcome-accepts x.tick answer (ended x.tick (outcome_of shape all row)) (write_outcome shape pace e all ys x row at bytes given answer o may on)) ih
      by (Core (Cut tearing)) true may on ih = ih
      by _ _ may on ih = ih

  read_may : (tick line : ℕ) (newest : List ℕ) (owed : List ℕ) (o : Outcome n) → owed ≡ newest → IsSettled owed o → may_have tick (Reads line) newest o ≡ true
  read_may tick line newest owed (out.Read at place bytes) is s = same_bytes-same bytes newest (s ∙ is)
  read_may tick line newest owed (out.Lost at) is s = refl
  read_may tick line newest owed _ is s = absurd s

  waited_may : (tick line row : ℕ) (newest owed : List ℕ) → waits shape (core all) ≡ [] → owed ≡ newest → ReadFate shape all row owed → may_have tick (Reads line) newest (outcome_of shape all row) ≡ true
  waited_may tick line row newest owed none is (inl a) = absurd (subst (λ ws. Awaits ws row owed) none a)
  waited_may tick line row newest owed none is (inr s) = read_may tick line newest owed (outcome_of shape all row) is s

  -- the row of each event is served
  served_at : Lawful shape pace e all → AreOpen shape all → waits shape (core all) ≡ [] → (later : List (TimedEvent n m)) (x : TimedEvent n m) (ys : List (TimedEvent n m)) → all ≡ later ++ x ∷ ys
      → Passes is_served (rows_from shape all ys) (row_with shape all x.happens x.tick x.cancels) (rows_after shape all later)
  served_at l o none later x ys same =
      by x.happens x.cancels (may_at later x ys l same) (onwards_at later x ys l same) (λ line. newest_same (later ++ x ∷ []) ys line l o (same ∙ sym (append_assoc later (x ∷ []) ys)))
    where
      by : (h : Happens n) (cancels : Bool) → MayCome shape pace e ys x h → Onwards shape all ys x.tick h → ((line : ℕ) → rows.newest (rows_from shape all ys) line ≡ newest (core ys) line)
          → Passes is_served (rows_from shape all ys) (row_with shape all h x.tick cancels) (rows_after shape all later)
      by (Core (Write row line bytes given answer)) cancels may on new =
          outcome-may x.tick line bytes given answer (ended x.tick (outcome_of shape all row)) (write_outcome shape pace e all ys x row line bytes given answer o may on)
      by (Core (Read row line (came.Forwarded bytes))) cancels may on new =
          ap (may_have x.tick (Reads line) (rows.newest (rows_from shape all ys) line)) (own_answer shape pace e all ys x (Core (Read row line (came.Forwarded bytes))) row (out.Forwarded x.tick bytes) on refl (λ is. absurd (cc)))
          ∙ and_from (x.tick == x.tick) _ (eq-eqb x.tick x.tick refl) (same_bytes-same bytes _ (forwarded-newest shape (core ys) line bytes may.may.1 ∙ sym (new line)))
      by (Core (Read row line came.Busy)) cancels may on new =
          ap (may_have x.tick (Reads line) (rows.newest (rows_from shape all ys) line)) (own_answer shape pace e all ys x (Core (Read row line came.Busy)) row (out.Busy x.tick) on refl (λ is. absurd (cc)))
          ∙ eq-eqb x.tick x.tick refl
      by (Core (Read row line came.Waiting)) cancels may on new =
          waited_may x.tick line row (rows.newest (rows_from shape all ys) line) (newest (core ys) line) none (sym (new line))
          (on.reads row (newest (core ys) line) (inl (awaits-new (waits shape (core ys)) (awaited row line (newest (core ys) line) (layer_of (queue shape (core ys)) line)))))
      by (Core (Cut tearing)) false may on new = eq-eqb x.tick x.tick refl
      by _ _ may on new = tt

pub served_law : ServedLaw
served_law n m e shape pace xs l still =
    walk shape xs is_served [] xs refl (served_at shape pace e xs l (opens shape pace e xs l) still.unawaited)

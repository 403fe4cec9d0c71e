-- A row that was stored has a sense of its place at its tick, which reads as the newest bytes of its line.
use Rattle.std.proofs.Common.{arith, ◌≡◌, ℕ, ◌==◌, ◌⊎◌, inl, inr, Bool, true, false, List, [], ◌∷◌, ◌++◌, Some, None, refl, sym, ap, ◌∙◌, subst, cond, eqb, eq-eqb, eqb-true}
use Rattle.std.{specs.Prelude.{All, map, unwrap_or}, proofs.lemmas.Bool.{and_from, or_left, or_right}, proofs.lemmas.List.Elements.All-head}
use Rattle.std.proofs.lemmas.List.Folds.{list_any-append}
use Rattle.cell_rows.specs.{declared.array.Sense.Sense, declared.row.Cells.Cells}
use Rattle.ecp_line.specs.Reading.{decode}
use Rattle.result_rows.specs.declared.Outcome.{Outcome}
use Rattle.result_rows.specs.declared.Outcome.TheVariants as out
use Rattle.row_rules.specs.{Answers.is_stored, Serving.same_bytes}
use Rattle.bank_shape.specs.{declared.BankShape.BankShape, declared.Work.Work, declared.Work.TheVariants.Store, declared.answer.WriteAnswer.WriteAnswer, declared.pace.Pace.Pace}
use Rattle.bank_shape.specs.declared.answer.WriteAnswer.TheVariants as wrote
use Rattle.bank_shape.specs.declared.answer.ReadAnswer.TheVariants as came
use Rattle.bank_shape.specs.declared.answer.Step.TheVariants as did
use Rattle.bank_model.specs.{Adding.senses_of, After.{array_line_after, slot_of_work, sources_of, target_after, work_after}, Answers.IsDone}
use Rattle.bank_model.specs.{Events.{BankEvent, Write, Read, Serve, Begin, Iterate, Cut, newest, up_to, line_of_row}, History.waits, Lawful.{Lawful, MayCome}}
use Rattle.bank_model.specs.{Sensing.{pulses_of, IsReadRight}, Timing.{Happens, Core, TimedEvent, core}}
use Rattle.right_runs.specs.Logs.{is_sensed}
use Rattle.bank_laws.{specs.Outcomes.{on_row, outcome_with, outcome_of}, specs.Standing.has_wait, proofs.Serves.same_bytes-same, proofs.Wears.{not_stored, lost_not_stored}}
use Rattle.log_laws.proofs.Outing.{line-in, up_to-in, unstored-first}

-- the senses of one line are one sense
pub one_sense : {n m : ℕ} (ss : List (Sense n m)) (at : ℕ) → map (λ s. s.line) ss ≡ at ∷ [] → (s : Sense n m) × (ss ≡ s ∷ []) × (s.line ≡ at)
one_sense (s ∷ []) at is = (s, refl, cc)
one_sense _ at is = absurd (cc)

-- a sense that the last event made
pub now-sensed : {n m : ℕ} (read_as : Cells n m → List ℕ) (xs : List (TimedEvent n m)) (y : TimedEvent n m) (s : Sense n m) (place tick : ℕ) (gives : List ℕ → Bool) → y.senses ≡ s ∷ [] → s.line ≡ place → s.tick ≡ tick → gives (read_as s.cells) ≡ true
    → is_sensed read_as (senses_of (y ∷ xs)) place tick gives ≡ true
now-sensed read_as xs y s place tick gives are line at reads =
    list_any-append _ (senses_of xs) y.senses
    ∙ or_right (is_sensed read_as (senses_of xs) place tick gives) _
    (subst (λ ss. is_sensed read_as ss place tick gives ≡ true) (sym are)
    (or_left _ false (and_from (s.line == place) _ (eq-eqb s.line place line) (and_from (s.tick == tick) _ (eq-eqb s.tick tick at) reads))))

-- or an earlier one
pub older-sensed : {n m : ℕ} (read_as : Cells n m → List ℕ) (xs : List (TimedEvent n m)) (y : TimedEvent n m) (place tick : ℕ) (gives : List ℕ → Bool) → is_sensed read_as (senses_of xs) place tick gives ≡ true
    → is_sensed read_as (senses_of (y ∷ xs)) place tick gives ≡ true
older-sensed read_as xs y place tick gives there = list_any-append _ (senses_of xs) y.senses ∙ or_left (is_sensed read_as (senses_of xs) place tick gives) _ there

module _ {n : ℕ} (shape : BankShape) (h : List (BankEvent n)) where
  -- a line write that ends with a store was a store, and has its target as place
  done-target : (work : Work) (row place : ℕ) → IsDone shape h work (did.Stored row place) → (sources_of shape h work ≡ []) × (place ≡ array_line_after shape h (slot_of_work shape h work))
  done-target (Store line slot) row place d = (refl, d.1)
  done-target _ row place d = absurd d

-- a store of a row, or an older outcome
stored_now : {n : ℕ} (at row tick place : ℕ) (o : Outcome n) (u p : ℕ) → unwrap_or (on_row at row (out.Stored tick place)) o ≡ out.Stored u p
    → ((at ≡ row) × (tick ≡ u) × (place ≡ p)) ⊎ (o ≡ out.Stored u p)
stored_now {n} at row tick place o u p s = by (eqb at row) refl s
  where
    by : (b : Bool) → eqb at row ≡ b → unwrap_or (cond b (Some (out.Stored tick place)) None) o ≡ out.Stored u p → ((at ≡ row) × (tick ≡ u) × (place ≡ p)) ⊎ (o ≡ out.Stored u p)
    by true is s = inl (eqb-true at row is, cc, cc)
    by false is s = inr s

module _ {n m : ℕ} (shape : BankShape) where
  -- the event stores the row, at its tick
  abbrev pub StoresNow : List (TimedEvent n m) → TimedEvent n m → Happens n → ℕ → ℕ → ℕ → Type 0
  StoresNow zs y (Core (Begin (did.Stored at place))) row u p = (at ≡ row) × (y.tick ≡ u) × (place ≡ p)
  StoresNow zs y (Core (Iterate (did.Stored at place))) row u p = (at ≡ row) × (y.tick ≡ u) × (place ≡ p)
  StoresNow zs y h row u p = ⊥

  stores-now : (zs : List (TimedEvent n m)) (y : TimedEvent n m) (h : Happens n) (row u p : ℕ) → unwrap_or (outcome_with shape zs h y.tick row) (outcome_of shape zs row) ≡ out.Stored u p
      → StoresNow zs y h row u p ⊎ (outcome_of shape zs row ≡ out.Stored u p)
  stores-now zs y (Core (Write at line bytes given (wrote.Merged old))) row u p s = inr (not_stored old row _ _ u p (λ is. absurd (cc)) s)
  stores-now zs y (Core (Write at line bytes given wrote.Full)) row u p s = inr (not_stored at row _ _ u p (λ is. absurd (cc)) s)
  stores-now zs y (Core (Write at line bytes given wrote.Exhausted)) row u p s = inr (not_stored at row _ _ u p (λ is. absurd (cc)) s)
  stores-now zs y (Core (Read at line came.Busy)) row u p s = inr (not_stored at row _ _ u p (λ is. absurd (cc)) s)
  stores-now zs y (Core (Read at line (came.Forwarded bytes))) row u p s = inr (not_stored at row _ _ u p (λ is. absurd (cc)) s)
  stores-now zs y (Core (Serve answer)) row u p s = inr (not_stored answer.row row _ _ u p (λ is. absurd (cc)) s)
  stores-now zs y (Core (Begin (did.Stored at place))) row u p s = stored_now at row y.tick place _ u p s
  stores-now zs y (Core (Iterate (did.Stored at place))) row u p s = stored_now at row y.tick place _ u p s
  stores-now zs y (Core (Cut tearing)) row u p s = inr (lost_not_stored (has_wait (waits shape (core zs)) row) y.tick _ u p s)
  stores-now zs y _ row u p s = inr s

module _ {n m : ℕ} (shape : BankShape) (pace : Pace) (e : ℕ) where
  -- what the event of a store sensed
  record StoredSense (zs : List (TimedEvent n m)) (y : TimedEvent n m) (row p : ℕ) : Type 0 where
    sense : Sense n m
    are : y.senses ≡ sense ∷ []
    line : sense.line ≡ p
    tick : sense.tick ≡ y.tick
    right : decode e sense.cells ≡ newest (up_to row (core zs)) (line_of_row row (core zs))

  the_sense : (zs : List (TimedEvent n m)) (y : TimedEvent n m) (row p : ℕ) → map (λ s. s.line) y.senses ≡ p ∷ [] → All (λ s. (s.tick ≡ y.tick) × (s.pulses ≡ pulses_of (y ∷ zs) s.line)) y.senses
      → ((s : Sense n m) → y.senses ≡ s ∷ [] → decode e s.cells ≡ newest (up_to row (core zs)) (line_of_row row (core zs))) → StoredSense zs y row p
  the_sense zs y row p lines all right =
      let k = one_sense y.senses p lines in
      record {
        sense = k.0;
        are = k.1;
        line = k.2;
        tick = (All-head (λ (s : Sense n m). (s.tick ≡ y.tick) × (s.pulses ≡ pulses_of (y ∷ zs) s.line)) k.0 [] (subst (λ (ss : List (Sense n m)). All (λ s. (s.tick ≡ y.tick) × (s.pulses ≡ pulses_of (y ∷ zs) s.line)) ss) k.1 all)).0;
        right = right k.0 k.1;
      }

  stored-sense : (zs : List (TimedEvent n m)) (y : TimedEvent n m) (h : Happens n) (row u p : ℕ) → MayCome shape pace e zs y h → StoresNow shape zs y h row u p → StoredSense zs y row p
  stored-sense zs y (Core (Begin (did.Stored at place))) row u p may s =
      let k = done-target shape (core zs) (work_after shape (core zs)) at place may.may.1 in
      the_sense zs y row p (may.lines ∙ ap (λ ls. ls ++ target_after shape (core zs) ∷ []) k.0 ∙ ap (λ l. l ∷ []) (sym k.1 ∙ s.2)) may.senses
      (λ sense are.
      subst (λ r. decode e sense.cells ≡ newest (up_to r (core zs)) (line_of_row r (core zs))) s.0
      (subst (λ ss. IsReadRight e shape zs (Begin (did.Stored at place)) ss) are may.right))
  stored-sense zs y (Core (Iterate (did.Stored at place))) row u p may s =
      let k = done-target shape (core zs) (work_after shape (core zs)) at place may.may.1 in
      the_sense zs y row p (may.lines ∙ ap (λ l. l ∷ []) (sym k.1 ∙ s.2)) may.senses
      (λ sense are.
      subst (λ r. decode e sense.cells ≡ newest (up_to r (core zs)) (line_of_row r (core zs))) s.0
      (subst (λ ss. IsReadRight e shape zs (Iterate (did.Stored at place)) ss) are may.right))
  stored-sense zs y _ row u p may s = absurd s

  stored-tick : (zs : List (TimedEvent n m)) (y : TimedEvent n m) (h : Happens n) (row u p : ℕ) → StoresNow shape zs y h row u p → y.tick ≡ u
  stored-tick zs y h row u p s = grind arith

  -- a write that was stored has its sense
  pub stored-sensed : (mid : List (TimedEvent n m)) (x : TimedEvent n m) (ys : List (TimedEvent n m)) (row line : ℕ) (bytes : List ℕ) (given : List Bool) (answer : WriteAnswer) → x.happens ≡ Core (Write row line bytes given answer)
      → Lawful shape pace e (mid ++ x ∷ ys) → (u p : ℕ) → outcome_of shape (mid ++ x ∷ ys) row ≡ out.Stored u p
      → is_sensed (decode e) (senses_of (mid ++ x ∷ ys)) p u (same_bytes (newest (Write row line bytes given answer ∷ core ys) line)) ≡ true
  stored-sensed [] x ys row line bytes given answer is l u p s =
      let first : is_stored (outcome_of shape (x ∷ ys) row) ≡ false = unstored-first shape pace e x ys row line bytes given answer is l in
      absurd (cc (sym (ap is_stored s) ∙ first))
  stored-sensed (y ∷ mid) x ys row line bytes given answer is l u p s =
      by (stores-now shape (mid ++ x ∷ ys) y y.happens row u p s) (stored-sensed mid x ys row line bytes given answer is l.1 u p)
    where
      by : StoresNow shape (mid ++ x ∷ ys) y y.happens row u p ⊎ (outcome_of shape (mid ++ x ∷ ys) row ≡ out.Stored u p)
          → (outcome_of shape (mid ++ x ∷ ys) row ≡ out.Stored u p → is_sensed (decode e) (senses_of (mid ++ x ∷ ys)) p u (same_bytes (newest (Write row line bytes given answer ∷ core ys) line)) ≡ true)
          → is_sensed (decode e) (senses_of (y ∷ mid ++ x ∷ ys)) p u (same_bytes (newest (Write row line bytes given answer ∷ core ys) line)) ≡ true
      by (inl now) rest =
          let k = stored-sense (mid ++ x ∷ ys) y y.happens row u p l.0 now in
          let reads : decode e k.sense.cells ≡ newest (Write row line bytes given answer ∷ core ys) line =
          k.right ∙ ap (λ h. newest h (line_of_row row (core (mid ++ x ∷ ys)))) (up_to-in shape pace e x ys row line bytes given answer is mid l.1)
          ∙ ap (λ at. newest (Write row line bytes given answer ∷ core ys) at) (line-in shape pace e x ys row line bytes given answer is mid l.1) in
          now-sensed (decode e) (mid ++ x ∷ ys) y k.sense p u (same_bytes (newest (Write row line bytes given answer ∷ core ys) line)) k.are k.line (k.tick ∙ stored-tick (mid ++ x ∷ ys) y y.happens row u p now)
          (same_bytes-same (newest (Write row line bytes given answer ∷ core ys) line) (decode e k.sense.cells) (sym reads))
      by (inr before) rest = older-sensed (decode e) (mid ++ x ∷ ys) y p u (same_bytes (newest (Write row line bytes given answer ∷ core ys) line)) (rest before)

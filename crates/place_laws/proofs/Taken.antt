-- What refused and queued writes say of worn lines, and when a write is taken.
use Rattle.std.proofs.Common.{◌≡◌, ℕ, ◌<◌, ◌==◌, ◌&&◌, ◌||◌, not, inl, inr, Bool, true, false, List, [], ◌∷◌, ◌++◌, Option, Some, None, length, refl, sym, ap, ◌∙◌, subst, append_assoc, arith}
use Rattle.std.{specs.Prelude.{nat_lt, IfSome}, proofs.lemmas.Bool.{ltb-true, lt-ltb, eqb-true, or_left, or_right, and_from}}
use Rattle.masked_bytes.proofs.Truth.{and_first, and_second, implied}
use Rattle.result_rows.specs.declared.Outcome.{Outcome}
use Rattle.result_rows.specs.declared.Outcome.TheVariants as out
use Rattle.cell_rows.specs.Device.{ArrayState}
use Rattle.row_rules.specs.{Answers.{accepts, is_worn, is_queued, is_full}, Queueing.pending, Rows.{RowTest, each_row}, Serving.{may_have, is_served}, declared.Asks.Asks}
use Rattle.row_rules.specs.{declared.Asks.TheVariants.Writes, declared.Row.Row}
use Rattle.bank_shape.specs.{Shape.{controls_of, control_line}, declared.BankShape.BankShape, declared.answer.WriteAnswer.WriteAnswer, declared.pace.Pace.Pace}
use Rattle.bank_shape.specs.declared.answer.WriteAnswer.TheVariants as wrote
use Rattle.bank_model.specs.{Changes.{change_after, halted_after}, Events.{Write, Read, Cut}, History.{queue, has_exhausted}, Lawful.{Lawful, IsIdle, MayCome}}
use Rattle.bank_model.specs.{Running.{over_by, is_over}, Timing.{Happens, Core, TimedEvent, core}}
use Rattle.bank_laws.specs.{Laws.{IsSized, LeavesArray}, Outcomes.{outcome_of, ended, row_with, rows_from, table_of}, Resting.EndsIn, RowLaws.is_room_fair}
use Rattle.bank_laws.proofs.{Answering.merged-there, Ending.{Onwards, IsOutcome, write_outcome}, Fates.{IsLeft, WriteFate, new-push, new-merged}, Pending.queue_law}
use Rattle.bank_laws.proofs.{Resting.ends-still, Serves.{may_at, onwards_at, served_law}, Settling.opens, Walking.{Passes, walk, rows_after}}
use Rattle.bank_laws.proofs.Wears.{worn_outcome, refused-exhausted, exhausted_later}
use Rattle.ecp_line.specs.ArrayLines.{is_worn_at}
use Rattle.right_runs.specs.{Banks.rules_of, WornLines.{is_worn_out, may_leave, is_wear_true_to, is_taken_to}}
use Rattle.place_laws.{specs.PlaceLaws.{WornLaw, TakenLaw}, proofs.WornOut.{worn_out, worn_control, change-within, idle-queued}}

taken_if : (writes count : ℕ) (left fine : Bool) → (left ≡ false → count < writes → fine ≡ true) → (not (nat_lt count writes && not left) || fine) ≡ true
taken_if writes count left fine h = by (nat_lt count writes) left refl refl
  where
    by : (b c : Bool) → nat_lt count writes ≡ b → left ≡ c → (not (b && not c) || fine) ≡ true
    by true false lt is = h is (ltb-true count writes lt)
    by _ _ lt is = refl

module _ {n : ℕ} where
  left-not_queued : (tick : ℕ) (o : Outcome n) → IsLeft o → is_queued (ended tick o) ≡ false
  left-not_queued tick o l = grind arith

  -- three tests that every row passes make a fourth
  each-of : (one two three test : RowTest n)
      → ((before : List (Row n)) (r : Row n) (after : List (Row n)) → one before r after ≡ true → two before r after ≡ true → three before r after ≡ true → test before r after ≡ true)
      → (rows after : List (Row n)) → each_row one rows after ≡ true → each_row two rows after ≡ true → each_row three rows after ≡ true → each_row test rows after ≡ true
  each-of one two three test pass [] after p q r = refl
  each-of one two three test pass (x ∷ rows) after p q r =
      and_from _ _ (pass rows x after (and_first _ _ p) (and_first _ _ q) (and_first _ _ r))
      (each-of one two three test pass rows (x ∷ after) (and_second _ _ p) (and_second _ _ q) (and_second _ _ r))

module _ {n m : ℕ} (shape : BankShape) (pace : Pace) (e : ℕ) (all : List (TimedEvent n m)) (array : ArrayState n m) (sized : IsSized shape pace) (l : Lawful shape pace e all) (leaves : LeavesArray e shape all array) where
  pub leaves_work : is_over shape all ≡ true → may_leave shape (is_worn_at e array) ≡ true
  leaves_work over = by (change_after shape all) (change-within shape pace e all sized.regions sized.lines l) over leaves.halted
    where
      by : (change : Option ℕ) → IfSome change (λ item. item < controls_of shape) → over_by change (halted_after all) (has_exhausted (core all)) ≡ true
          → (halted_after all ≡ true → IfSome change (λ item. is_worn_at e array (control_line shape item) ≡ true)) → may_leave shape (is_worn_at e array) ≡ true
      by None exists ex halts = or_left _ _ (worn_out shape pace e all array sized l leaves ex)
      by (Some item) exists halted halts = or_right _ _ (lt-ltb _ _ (worn_control shape pace e all array sized l leaves item exists (halts halted)))

  -- where the power isn't off, what is left tells that more lines are worn than there are spares
  pub left_off : (off : Bool) → EndsIn off shape pace all → (IsIdle shape pace all → is_over shape all ≡ true) → (off || may_leave shape (is_worn_at e array)) ≡ true
  left_off true ends over = refl
  left_off false ends over = leaves_work (over ends)

module _ {n m : ℕ} (shape : BankShape) (pace : Pace) (e : ℕ) (all : List (TimedEvent n m)) (array : ArrayState n m) (sized : IsSized shape pace) (l : Lawful shape pace e all) (leaves : LeavesArray e shape all array) (off : Bool) (ends : EndsIn off shape pace all) where
  -- an accepted write that is queued in the end
  fate_true : (tick row : ℕ) → WriteFate shape all row → is_queued (ended tick (outcome_of shape all row)) ≡ true → (off || may_leave shape (is_worn_at e array)) ≡ true
  fate_true tick row (inl there) queued = left_off shape pace e all array sized l leaves off ends (λ idle. idle-queued shape pace all row idle there)
  fate_true tick row (inr left) queued = absurd (cc (left-not_queued tick (outcome_of shape all row) left))

  queued_true : (ys : List (TimedEvent n m)) (x : TimedEvent n m) (row line : ℕ) (bytes : List ℕ) (given : List Bool) (answer : WriteAnswer) → MayCome shape pace e ys x (Core (Write row line bytes given answer))
      → Onwards shape all ys x.tick (Core (Write row line bytes given answer)) → IsOutcome x.tick answer (ended x.tick (outcome_of shape all row))
      → is_queued (ended x.tick (outcome_of shape all row)) ≡ true → (off || may_leave shape (is_worn_at e array)) ≡ true
  queued_true ys x row line bytes given wrote.Accepted may on is queued =
      fate_true x.tick row (on.writes row (inl (new-push (queue shape (core ys)) (record { row = row; line = line; bytes = bytes; given = given })))) queued
  queued_true ys x row line bytes given (wrote.Merged old) may on is queued =
      fate_true x.tick row (on.writes row (inl (new-merged old row bytes given (queue shape (core ys)) (merged-there shape (core ys) line old may.may.2)))) queued
  queued_true ys x row line bytes given _ may on is queued = absurd (cc (ap is_queued is))

  wear_at : (later : List (TimedEvent n m)) (x : TimedEvent n m) (ys : List (TimedEvent n m)) → all ≡ later ++ x ∷ ys
      → Passes (is_wear_true_to off shape (is_worn_at e array)) (rows_from shape all ys) (row_with shape all x.happens x.tick x.cancels) (rows_after shape all later)
  wear_at later x ys same =
      by x.happens x.cancels (may_at shape pace e all later x ys l same) (onwards_at shape pace e all later x ys l same)
      (λ ex. subst (λ (xs : List (TimedEvent n m)). has_exhausted (core xs) ≡ true) (append_assoc later (x ∷ []) ys ∙ sym same) (exhausted_later shape pace e (later ++ x ∷ []) ys ex))
    where
      by : (h : Happens n) (cancels : Bool) → MayCome shape pace e ys x h → Onwards shape all ys x.tick h → (has_exhausted (core ys) ≡ true → has_exhausted (core all) ≡ true)
          → Passes (is_wear_true_to off shape (is_worn_at e array)) (rows_from shape all ys) (row_with shape all h x.tick cancels) (rows_after shape all later)
      by (Core (Write row line bytes given answer)) cancels may on on_exhausted =
          let is : IsOutcome x.tick answer (ended x.tick (outcome_of shape all row)) = write_outcome shape pace e all ys x row line bytes given answer (opens shape pace e all l) may on in
          and_from _ _
          (implied (is_worn (ended x.tick (outcome_of shape all row))) _ (λ worn.
          worn_out shape pace e all array sized l leaves
          (on_exhausted (refused-exhausted shape (core ys) line (sym (worn_outcome x.tick answer (ended x.tick (outcome_of shape all row)) is worn) ∙ may.may.2)))))
          (implied (is_queued (ended x.tick (outcome_of shape all row))) _ (queued_true ys x row line bytes given answer may on is))
      by (Core (Read row line answer)) cancels may on on_exhausted = refl
      by (Core (Cut tearing)) false may on on_exhausted = refl
      by _ _ may on on_exhausted = tt

pub worn_law : WornLaw
worn_law off n m e shape pace xs array sized l ends leaves =
    walk shape xs (is_wear_true_to off shape (is_worn_at e array)) [] xs refl (wear_at shape pace e xs array sized l leaves off ends)

or-true : (off : Bool) → (off || true) ≡ true
or-true off = grind arith

module _ {n : ℕ} (shape : BankShape) (worn : ℕ → Bool) where
  -- a write that finds room in a bank that is not worn out, by its outcome
  taken_outcome : (off : Bool) (tick line : ℕ) (bytes : List ℕ) (given : List Bool) (count : ℕ) (out_worn left : Bool) (o : Outcome n) → may_have tick (Writes line bytes given) [] o ≡ true
      → (not (is_full o) || count == shape.writes) ≡ true → (not (is_worn o) || out_worn) ≡ true → (not (is_queued o) || (off || left)) ≡ true → (out_worn ≡ true → left ≡ true)
      → left ≡ false → count < shape.writes → (accepts o && (off || not (is_queued o))) ≡ true
  taken_outcome off tick line bytes given count out_worn left out.Unset may full wear queued on none lt = absurd (cc)
  taken_outcome off tick line bytes given count out_worn left (out.Stored at place) may full wear queued on none lt = or-true off
  taken_outcome off tick line bytes given count out_worn left (out.Merged at) may full wear queued on none lt = or-true off
  taken_outcome true tick line bytes given count out_worn left (out.Queued at) may full wear queued on none lt = refl
  taken_outcome false tick line bytes given count out_worn left (out.Queued at) may full wear queued on none lt = absurd (cc)
  taken_outcome off tick line bytes given count out_worn left (out.Full at) may full wear queued on none lt = absurd (omega (arith, eqb-true count shape.writes full, lt))
  taken_outcome off tick line bytes given count out_worn left (out.Worn at) may full wear queued on none lt = absurd (cc (on wear))
  taken_outcome off tick line bytes given count out_worn left (out.Read at place some) may full wear queued on none lt = absurd (cc)
  taken_outcome off tick line bytes given count out_worn left (out.Forwarded at some) may full wear queued on none lt = absurd (cc)
  taken_outcome off tick line bytes given count out_worn left (out.Busy at) may full wear queued on none lt = absurd (cc)
  taken_outcome off tick line bytes given count out_worn left (out.Lost at) may full wear queued on none lt = absurd (cc)
  taken_outcome off tick line bytes given count out_worn left (out.Cut at) may full wear queued on none lt = absurd (cc)

module _ {n : ℕ} (off : Bool) (e : ℕ) (shape : BankShape) (pace : Pace) (worn : ℕ → Bool) where
  taken_row : (tick : ℕ) (asks : Asks n) (o : Outcome n) (before after : List (Row n)) → is_served before (record { tick = tick; asks = asks; outcome = o }) after ≡ true
      → is_room_fair shape.writes before (record { tick = tick; asks = asks; outcome = o }) after ≡ true → is_wear_true_to off shape worn before (record { tick = tick; asks = asks; outcome = o }) after ≡ true
      → is_taken_to off (rules_of e shape pace) shape worn before (record { tick = tick; asks = asks; outcome = o }) after ≡ true
  taken_row tick (Writes line bytes given) o before after served room wear =
      taken_if shape.writes (length (pending tick [] before)) (may_leave shape worn) (accepts o && (off || not (is_queued o)))
      (taken_outcome shape worn off tick line bytes given (length (pending tick [] before)) (is_worn_out shape worn) (may_leave shape worn) o served (and_second _ _ room) (and_first _ _ wear) (and_second _ _ wear)
      (λ is. or_left _ _ is))
  taken_row tick _ o before after served room wear = refl

pub taken_law : TakenLaw
taken_law off n m e shape pace xs array sized l ends leaves =
    each-of is_served (is_room_fair shape.writes) (is_wear_true_to off shape (is_worn_at e array)) (is_taken_to off (rules_of e shape pace) shape (is_worn_at e array))
    (λ before r after served room wear. taken_row off e shape pace (is_worn_at e array) r.tick r.asks r.outcome before after served room wear)
    (table_of shape xs) [] (served_law n m e shape pace xs l (ends-still shape off pace xs ends)) (queue_law n m e shape pace xs sized l) (worn_law off n m e shape pace xs array sized l ends leaves)

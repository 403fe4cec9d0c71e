-- A bank that never accepted a write has nothing to do, and so the laws of worn rows.
use Rattle.std.proofs.Common.{◌≡◌, ℕ, ◌+◌, ◌*◌, ◌/◌, ◌<◌, ◌≤◌, ◌&&◌, not, Bool, true, false, List, [], ◌∷◌, ◌++◌, Option, Some, None, refl, sym, ap, ◌∙◌, arith, cond, append_assoc}
use Rattle.std.{specs.List.list_any, specs.Prelude.nat_le, proofs.lemmas.Bool.{lt-leb, and_from}}
use Rattle.masked_bytes.{specs.declared.entry.Entry.Entry, proofs.Truth.{neither_first, neither_second, implied}}
use Rattle.result_rows.specs.declared.Outcome.{Outcome}
use Rattle.result_rows.specs.declared.Outcome.TheVariants as out
use Rattle.row_rules.specs.{Answers.{is_worn, accepts}, Rows.accepted, Wearing.{worn_row, worn_by, store_fits, is_wear_final, is_wear_earned}, declared.Row.Row}
use Rattle.bank_shape.specs.{declared.BankShape.BankShape, declared.Work.TheVariants.Nothing, declared.answer.WriteAnswer.WriteAnswer, declared.pace.Pace.Pace}
use Rattle.bank_shape.specs.declared.answer.WriteAnswer.TheVariants as wrote
use Rattle.bank_model.specs.{After.{is_ready, due_work, may_begin_after}, Events.{BankEvent, Write, Read, Begin, Iterate, Cut}}
use Rattle.bank_model.specs.{History.{first_or, stores, stored_in, moved_in, due_after, queue, waits, has_exhausted, in_progress}, Lawful.{Lawful, MayCome}}
use Rattle.bank_model.specs.Timing.{Happens, Core, TimedEvent, core, core_of}
use Rattle.bank_laws.specs.{Outcomes.{outcome_of, ended, row_with, rows_from}, RowLaws.WearLaw, Settling.AreOpen}
use Rattle.bank_laws.proofs.{Ending.{Onwards, IsOutcome, accepting, write_outcome, outcome-accepts}, Entries.either, Serves.{may_at, onwards_at}, Settling.opens}
use Rattle.bank_laws.proofs.{Walking.{Passes, walk, rows_after}, Wears.{refused-exhausted, exhausted-refused, worn_outcome, worn_rows-exhausted, none_worn_before, none_worn_after}}

-- a bank with nothing in its queue, nothing stored, and no line write
record IsQuiet {n : ℕ} (shape : BankShape) (h : List (BankEvent n)) : Type 0 where
  queue : queue shape h ≡ []
  stored : (region : ℕ) → stored_in shape.lines h region ≡ 0
  exhausted : has_exhausted h ≡ false
  idle : in_progress h ≡ false

not_due : (psi moved stored : ℕ) → 1 ≤ psi → stored ≡ 0 → nat_le (psi * (moved + 1)) stored ≡ false
not_due psi moved stored some none = lt-leb (psi * (moved + 1)) stored (by psi some)
  where
    by : (psi : ℕ) → 1 ≤ psi → stored < psi * (moved + 1)
    by psi some = grind arith

module _ {n : ℕ} (shape : BankShape) (h : List (BankEvent n)) where
  quiet-not_due : 1 ≤ shape.psi → IsQuiet shape h → due_after shape h ≡ None
  quiet-not_due some q =
      let region : ℕ = first_or 0 (stores h) / shape.lines in
      ap (λ b. cond b (Some (first_or 0 (stores h) / shape.lines)) None)
      (not_due shape.psi (moved_in shape.lines h (first_or 0 (stores h) / shape.lines)) (stored_in shape.lines h (first_or 0 (stores h) / shape.lines)) some (q.stored (first_or 0 (stores h) / shape.lines)))

  -- such a bank begins nothing
  quiet-begins_none : 1 ≤ shape.psi → IsQuiet shape h → may_begin_after shape h ≡ true → ⊥
  quiet-begins_none some q may = by (in_progress h) (has_exhausted h) (due_after shape h) (queue shape h) q.exhausted (quiet-not_due some q) q.queue may
    where
      by : (b ex : Bool) (due : Option ℕ) (es : List (Entry n)) → ex ≡ false → due ≡ None → es ≡ []
          → (not b && is_ready (waits shape h) (cond ex Nothing (due_work shape h due es))) ≡ true → ⊥
      by b ex due es fine none empty m = grind arith

module _ {n : ℕ} where
  pub ended_stored : (tick : ℕ) (o : Outcome n) (u p : ℕ) → ended tick o ≡ out.Stored u p → o ≡ out.Stored u p
  ended_stored tick o u p s = grind arith

module _ {n m : ℕ} (shape : BankShape) (pace : Pace) (e : ℕ) (all : List (TimedEvent n m)) where
  -- where no row is an accepted write the bank is quiet
  quiet : (later ys : List (TimedEvent n m)) → 1 ≤ shape.psi → Lawful shape pace e all → AreOpen shape all → all ≡ later ++ ys → list_any accepted (rows_from shape all ys) ≡ false
      → IsQuiet shape (core ys)
  quiet later [] some l o same none = record { queue = refl; stored = λ region. refl; exhausted = refl; idle = refl }
  quiet later (x ∷ ys) some l o same none =
      by x.happens x.cancels (may_at shape pace e all later x ys l same) (onwards_at shape pace e all later x ys l same)
      (λ none. quiet (later ++ x ∷ []) ys some l o (same ∙ sym (append_assoc later (x ∷ []) ys)) none) none
    where
      refused : (row line : ℕ) (bytes : List ℕ) (given : List Bool) (answer : WriteAnswer) → accepting answer ≡ false → IsQuiet shape (core ys) → IsQuiet shape (Write row line bytes given answer ∷ core ys)
      refused row line bytes given wrote.Full isnt q = record { queue = q.queue; stored = q.stored; exhausted = q.exhausted; idle = q.idle }
      refused row line bytes given wrote.Exhausted isnt q = record { queue = q.queue; stored = q.stored; exhausted = q.exhausted; idle = q.idle }
      refused row line bytes given _ isnt q = absurd (cc)

      by : (h : Happens n) (cancels : Bool) → MayCome shape pace e ys x h → Onwards shape all ys x.tick h → (list_any accepted (rows_from shape all ys) ≡ false → IsQuiet shape (core ys))
          → list_any accepted (row_with shape all h x.tick cancels ++ rows_from shape all ys) ≡ false → IsQuiet shape (core_of h (core ys))
      by (Core (Write at line bytes given answer)) cancels may on rest none =
          let acc : accepts (ended x.tick (outcome_of shape all at)) ≡ accepting answer =
          outcome-accepts x.tick answer (ended x.tick (outcome_of shape all at)) (write_outcome shape pace e all ys x at line bytes given answer o may on) in
          refused at line bytes given answer (sym acc ∙ neither_first (accepts (ended x.tick (outcome_of shape all at))) _ none) (rest (neither_second (accepts (ended x.tick (outcome_of shape all at))) _ none))
      by (Core (Begin answer)) cancels may on rest none = absurd (quiet-begins_none shape (core ys) some (rest none) may.may.0)
      by (Core (Iterate answer)) cancels may on rest none = let is : in_progress (core ys) ≡ false = (rest none).idle in absurd (cc (may.may.0))
      by (Core (Cut tearing)) true may on rest none = let q = rest none in record { queue = q.queue; stored = q.stored; exhausted = q.exhausted; idle = refl }
      by (Core (Cut tearing)) false may on rest none = let q = rest none in record { queue = q.queue; stored = q.stored; exhausted = q.exhausted; idle = refl }
      by _ cancels may on rest none = let q = rest none in record { queue = q.queue; stored = q.stored; exhausted = q.exhausted; idle = q.idle }

  stores_fit : (o : Outcome n) (before after : List (Row n)) → ((u p : ℕ) → o ≡ out.Stored u p → (worn_by u before ≡ false) × (worn_by u after ≡ false)) → store_fits o before after ≡ true
  stores_fit (out.Stored at place) before after h = let f = h at place refl in by (worn_by at before) (worn_by at after) f.0 f.1
    where
      by : (a b : Bool) → a ≡ false → b ≡ false → (not a && not b) ≡ true
      by a b h k = grind arith
  stores_fit _ before after h = refl

  worn-is_worn : (tick : ℕ) (answer : WriteAnswer) (o : Outcome n) → IsOutcome tick answer o → answer ≡ wrote.Exhausted → is_worn o ≡ true
  worn-is_worn tick wrote.Exhausted o is ex = ap is_worn is
  worn-is_worn tick _ o is ex = absurd (cc)

  final_at : 1 ≤ pace.read → 1 ≤ pace.iter → Lawful shape pace e all → AreOpen shape all → (later : List (TimedEvent n m)) (x : TimedEvent n m) (ys : List (TimedEvent n m)) → all ≡ later ++ x ∷ ys
      → Passes is_wear_final (rows_from shape all ys) (row_with shape all x.happens x.tick x.cancels) (rows_after shape all later)
  final_at r i l o later x ys same =
      by x.happens x.cancels (may_at shape pace e all later x ys l same) (onwards_at shape pace e all later x ys l same)
      (worn_rows-exhausted shape pace e all (later ++ x ∷ []) ys l o (same ∙ sym (append_assoc later (x ∷ []) ys)))
    where
      by : (h : Happens n) (cancels : Bool) → MayCome shape pace e ys x h → Onwards shape all ys x.tick h → (list_any worn_row (rows_from shape all ys) ≡ true → has_exhausted (core ys) ≡ true)
          → Passes is_wear_final (rows_from shape all ys) (row_with shape all h x.tick cancels) (rows_after shape all later)
      by (Core (Write at line bytes given answer)) cancels may on worn =
          let is : IsOutcome x.tick answer (ended x.tick (outcome_of shape all at)) = write_outcome shape pace e all ys x at line bytes given answer o may on in
          and_from _ _
          (implied (list_any worn_row (rows_from shape all ys)) _
          (λ w. worn-is_worn x.tick answer (ended x.tick (outcome_of shape all at)) is (exhausted-refused shape (core ys) line answer may.may.2 (worn w))))
          (stores_fit (ended x.tick (outcome_of shape all at)) (rows_from shape all ys) (rows_after shape all later)
          (λ u p s.
          let stored : outcome_of shape all at ≡ out.Stored u p = ended_stored x.tick (outcome_of shape all at) u p s in (
            none_worn_before shape pace e all (later ++ x ∷ []) ys at u p r i l o (same ∙ sym (append_assoc later (x ∷ []) ys)) stored,
            none_worn_after shape pace e all [] later (x ∷ ys) at u p r i l o same stored,
          )))
      by (Core (Read at line answer)) cancels may on worn = refl
      by (Core (Cut tearing)) false may on worn = refl
      by _ _ may on worn = tt

  earned_at : 1 ≤ shape.psi → Lawful shape pace e all → AreOpen shape all → (later : List (TimedEvent n m)) (x : TimedEvent n m) (ys : List (TimedEvent n m)) → all ≡ later ++ x ∷ ys
      → Passes is_wear_earned (rows_from shape all ys) (row_with shape all x.happens x.tick x.cancels) (rows_after shape all later)
  earned_at some l o later x ys same =
      by x.happens x.cancels (may_at shape pace e all later x ys l same) (onwards_at shape pace e all later x ys l same)
      (quiet (later ++ x ∷ []) ys some l o (same ∙ sym (append_assoc later (x ∷ []) ys)))
    where
      by : (h : Happens n) (cancels : Bool) → MayCome shape pace e ys x h → Onwards shape all ys x.tick h → (list_any accepted (rows_from shape all ys) ≡ false → IsQuiet shape (core ys))
          → Passes is_wear_earned (rows_from shape all ys) (row_with shape all h x.tick cancels) (rows_after shape all later)
      by (Core (Write at line bytes given answer)) cancels may on calm =
          implied (is_worn (ended x.tick (outcome_of shape all at))) _ (λ worn.
          let ex : has_exhausted (core ys) ≡ true =
          refused-exhausted shape (core ys) line
          (sym (worn_outcome x.tick answer (ended x.tick (outcome_of shape all at)) (write_outcome shape pace e all ys x at line bytes given answer o may on) worn) ∙ may.may.2) in
          either (list_any accepted (rows_from shape all ys)) (λ is. is) (λ none. let fine : has_exhausted (core ys) ≡ false = (calm none).exhausted in absurd (cc)))
      by (Core (Read at line answer)) cancels may on calm = refl
      by (Core (Cut tearing)) false may on calm = refl
      by _ _ may on calm = tt

pub wear_law : WearLaw
wear_law n m e shape pace xs sized l = record {
  final = walk shape xs is_wear_final [] xs refl (final_at shape pace e xs sized.read sized.iter l (opens shape pace e xs l));
  earned = walk shape xs is_wear_earned [] xs refl (earned_at shape pace e xs sized.psi l (opens shape pace e xs l));
}

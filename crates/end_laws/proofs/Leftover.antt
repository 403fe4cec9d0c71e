-- Why a bank has work left: a write that was refused as worn came when it was exhausted, and where no line write is begun any more it is, or
-- a control line of it is worn.
use Rattle.std.proofs.Common.{◌≡◌, ℕ, ◌<◌, ◌||◌, ◌⊎◌, inl, inr, Option, Some, None, Bool, true, false, List, [], ◌∷◌, ◌++◌, refl, sym, ◌∙◌, subst, append_assoc}
use Rattle.std.specs.{List.list_any, Prelude.IfSome}
use Rattle.cell_rows.specs.Device.{ArrayState}
use Rattle.ecp_line.specs.ArrayLines.{is_worn_at}
use Rattle.row_rules.specs.{Answers.is_worn, Wearing.worn_row}
use Rattle.bank_shape.specs.{Shape.{controls_from, controls_of, control_line}, declared.BankShape.BankShape, declared.pace.Pace.Pace}
use Rattle.bank_model.specs.{Changes.{change_after, halted_after}, Events.{Write, Cut}, History.has_exhausted, Lawful.{Lawful, MayCome}, Running.{is_over, over_by}}
use Rattle.bank_model.specs.Timing.{Happens, Core, TimedEvent, core}
use Rattle.bank_laws.{specs.Laws.{IsSized, LeavesArray}, specs.Outcomes.{outcome_of, ended, row_with, rows_from}, proofs.Ending.{Onwards, write_outcome}}
use Rattle.bank_laws.proofs.{Serves.{may_at, onwards_at}, Settling.opens, Wears.{worn_outcome, refused-exhausted, exhausted_later}}
use Rattle.place_laws.proofs.WornOut.{worn_control, change-within}
use Rattle.right_runs.specs.WornLines.{worn_among}

module _ {n m : ℕ} (shape : BankShape) (pace : Pace) (e : ℕ) (all : List (TimedEvent n m)) (l : Lawful shape pace e all) where
  -- a write that was refused as worn came when the bank was exhausted
  pub refused : (later zs : List (TimedEvent n m)) → all ≡ later ++ zs → list_any worn_row (rows_from shape all zs) ≡ true → has_exhausted (core all) ≡ true
  refused later [] same is = absurd (cc)
  refused later (x ∷ zs) same is =
      by x.happens x.cancels (may_at shape pace e all later x zs l same) (onwards_at shape pace e all later x zs l same)
      (λ ex. subst (λ (xs : List (TimedEvent n m)). has_exhausted (core xs) ≡ true) (sym before) (exhausted_later shape pace e (later ++ x ∷ []) zs ex))
      (refused (later ++ x ∷ []) zs before) is
    where
      before : all ≡ (later ++ x ∷ []) ++ zs
      before = same ∙ sym (append_assoc later (x ∷ []) zs)

      by : (h : Happens n) (cancels : Bool) → MayCome shape pace e zs x h → Onwards shape all zs x.tick h → (has_exhausted (core zs) ≡ true → has_exhausted (core all) ≡ true)
          → (list_any worn_row (rows_from shape all zs) ≡ true → has_exhausted (core all) ≡ true)
          → list_any worn_row (row_with shape all h x.tick cancels ++ rows_from shape all zs) ≡ true → has_exhausted (core all) ≡ true
      by (Core (Write row line bytes given answer)) cancels may on now rest is = own (is_worn (ended x.tick (outcome_of shape all row))) refl is
        where
          own : (b : Bool) → is_worn (ended x.tick (outcome_of shape all row)) ≡ b → (b || list_any worn_row (rows_from shape all zs)) ≡ true → has_exhausted (core all) ≡ true
          own true worn is =
              now (refused-exhausted shape (core zs) line
              (sym (worn_outcome x.tick answer (ended x.tick (outcome_of shape all row)) (write_outcome shape pace e all zs x row line bytes given answer (opens shape pace e all l) may on) worn) ∙ may.may.2))
          own false worn is = rest is
      by (Core (Cut tearing)) true may on now rest is = rest is
      by _ _ may on now rest is = rest is

  -- where no line write is begun any more the bank is exhausted, or a control line of it is worn
  pub over-why : (array : ArrayState n m) → IsSized shape pace → LeavesArray e shape all array → is_over shape all ≡ true
      → (has_exhausted (core all) ≡ true) ⊎ (0 < worn_among (is_worn_at e array) (controls_from shape) (controls_of shape))
  over-why array sized leaves over = by (change_after shape all) (change-within shape pace e all sized.regions sized.lines l) over leaves.halted
    where
      by : (change : Option ℕ) → IfSome change (λ item. item < controls_of shape) → over_by change (halted_after all) (has_exhausted (core all)) ≡ true
          → (halted_after all ≡ true → IfSome change (λ item. is_worn_at e array (control_line shape item) ≡ true))
          → (has_exhausted (core all) ≡ true) ⊎ (0 < worn_among (is_worn_at e array) (controls_from shape) (controls_of shape))
      by None exists ex halts = inl ex
      by (Some item) exists halted halts = inr (worn_control shape pace e all array sized l leaves item exists (halts halted))

-- The moves of a region in the end, by the rows.
use Rattle.std.proofs.Common.{◌≡◌, ℕ, ◌+◌, ◌*◌, ◌/◌, ◌%◌, ◌≤◌, ◌==◌, inl, inr, ◌||◌, List, Option, Some, None, refl, sym, ap, ◌∙◌, arith, true}
use Rattle.std.proofs.lemmas.Bool.{eq-eqb, cases_lt, and_from, or_left, or_right}
use Rattle.row_rules.specs.Answers.{is_stored}
use Rattle.bank_shape.specs.{declared.BankShape.BankShape, declared.pace.Pace.Pace}
use Rattle.bank_model.specs.{History.{moved_in, stored_in, due_after}, Lawful.Lawful, Sensing.most_steps, Timing.{TimedEvent, core}}
use Rattle.ecp_line.specs.ArrayLines.{is_worn_at}
use Rattle.bank_laws.{specs.Outcomes.table_of, proofs.Waiting.may_all}
use Rattle.right_runs.specs.{Places.region_stores, WornLines.may_leave}
use Rattle.place_laws.{specs.PlaceLaws.MovedLaw, proofs.Moves.{KeepsMoves, keeps, none-due}, proofs.Placed.{between_products, at_product}}
use Rattle.place_laws.proofs.{Storing.{stored-counted, region-stored}, Tables.region-all, Taken.left_off, WornOut.idle-due}

-- the stores of a region by the rows are those by the events
pub region_stores-counted : {n m : ℕ} (shape : BankShape) (pace : Pace) (e : ℕ) (xs : List (TimedEvent n m)) (region : ℕ) → Lawful shape pace e xs
    → region_stores is_stored shape region (table_of shape xs) ≡ stored_in shape.lines (core xs) region
region_stores-counted shape pace e xs region l =
    region-all shape xs region ∙ stored-counted shape pace e (λ line. line / shape.lines == region) xs l ∙ region-stored shape.lines (core xs) region

pub moved_law : MovedLaw
moved_law off n m e shape pace xs array region sized l ends leaves =
    elim (cases_lt (stored_in shape.lines (core xs) region) (shape.psi * (moved_in shape.lines (core xs) region + 1))) [
      | inl lt ↦
          or_left _ _ (eq-eqb (moved_in shape.lines (core xs) region) (region_stores is_stored shape region (table_of shape xs) / shape.psi)
          (sym (ap (λ k. k / shape.psi) count ∙ between_products shape.psi _ _ (moves.few region) lt)))
      | inr ge ↦
          let at : region_stores is_stored shape region (table_of shape xs) ≡ shape.psi * (moved_in shape.lines (core xs) region + 1) = omega (arith, count, moves.near region, ge) in
          let parts = at_product shape.psi (moved_in shape.lines (core xs) region) sized.psi in
          or_right _ _ (and_from _ _ (eq-eqb (moved_in shape.lines (core xs) region + 1) (region_stores is_stored shape region (table_of shape xs) / shape.psi) (sym (ap (λ k. k / shape.psi) at ∙ parts.1)))
          (and_from _ _ (eq-eqb (region_stores is_stored shape region (table_of shape xs) % shape.psi) 0 (ap (λ k. k % shape.psi) at ∙ parts.0))
          (due (due_after shape (core xs)) refl ge)))
    ]
  where
    moves : KeepsMoves shape (core xs)
    moves = keeps shape (most_steps e) (core xs) sized.psi (may_all shape pace e xs l)

    count : region_stores is_stored shape region (table_of shape xs) ≡ stored_in shape.lines (core xs) region
    count = region_stores-counted shape pace e xs region l

    due : (d : Option ℕ) → due_after shape (core xs) ≡ d → shape.psi * (moved_in shape.lines (core xs) region + 1) ≤ stored_in shape.lines (core xs) region → (off || may_leave shape (is_worn_at e array)) ≡ true
    due None is ge = absurd (omega (arith, none-due shape (core xs) moves is region, ge))
    due (Some at) is ge = left_off shape pace e xs array sized l leaves off ends (λ idle. idle-due shape pace xs at idle is)

-- A history's writes and stores are of lines of its bank, and at most one gap move is due.
use Rattle.std.proofs.Common.{ℕ, ◌*◌, ◌<◌, ◌≤◌, ◌==◌, cond, arith, Bool, true, false, List, [], ◌∷◌, Option, Some, None}
use Rattle.bank_shape.specs.declared.BankShape.{BankShape}
use Rattle.bank_shape.specs.declared.answer.Step.TheVariants as did
use Rattle.bank_model.specs.{After.due_moves, Answers.MayAll, Events.{BankEvent, Write, Read, Serve, Begin, Iterate, Cut, line_of_row}, History.{stores, first_or}}

module _ {n : ℕ} (shape : BankShape) (most : ℕ) (some : 0 < shape.regions * shape.lines) where
  -- each write is of a line of the bank
  pub line_of_row-known : (h : List (BankEvent n)) (row : ℕ) → MayAll shape most h → line_of_row row h < shape.regions * shape.lines
  line_of_row-known [] row may = some
  line_of_row-known (Write at line bytes given answer ∷ h) row may =
      by (at == row) may.0.0 (line_of_row-known h row may.1)
    where
      by : (b : Bool) → line < shape.regions * shape.lines → line_of_row row h < shape.regions * shape.lines → cond b line (line_of_row row h) < shape.regions * shape.lines
      by true own older = own
      by false own older = older
  line_of_row-known (Read at line answer ∷ h) row may = line_of_row-known h row may.1
  line_of_row-known (Serve answer ∷ h) row may = line_of_row-known h row may.1
  line_of_row-known (Begin answer ∷ h) row may = line_of_row-known h row may.1
  line_of_row-known (Iterate answer ∷ h) row may = line_of_row-known h row may.1
  line_of_row-known (Cut tearing ∷ h) row may = line_of_row-known h row may.1

  -- and so is each store
  pub last_store-known : (h : List (BankEvent n)) → MayAll shape most h → first_or 0 (stores h) < shape.regions * shape.lines
  last_store-known [] may = some
  last_store-known (Write at line bytes given answer ∷ h) may = last_store-known h may.1
  last_store-known (Read at line answer ∷ h) may = last_store-known h may.1
  last_store-known (Serve answer ∷ h) may = last_store-known h may.1
  last_store-known (Begin (did.Stored row place) ∷ h) may = line_of_row-known h row may.1
  last_store-known (Begin did.More ∷ h) may = last_store-known h may.1
  last_store-known (Begin (did.Moved step) ∷ h) may = last_store-known h may.1
  last_store-known (Begin (did.Retired slot line) ∷ h) may = last_store-known h may.1
  last_store-known (Begin did.Exhausted ∷ h) may = last_store-known h may.1
  last_store-known (Iterate (did.Stored row place) ∷ h) may = line_of_row-known h row may.1
  last_store-known (Iterate did.More ∷ h) may = last_store-known h may.1
  last_store-known (Iterate (did.Moved step) ∷ h) may = last_store-known h may.1
  last_store-known (Iterate (did.Retired slot line) ∷ h) may = last_store-known h may.1
  last_store-known (Iterate did.Exhausted ∷ h) may = last_store-known h may.1
  last_store-known (Cut tearing ∷ h) may = last_store-known h may.1

pub due_moves-few : (due : Option ℕ) → due_moves due ≤ 1
due_moves-few None = omega arith
due_moves-few (Some region) = omega arith

-- What a line write that ends says of the bank's work.
use Rattle.std.proofs.Common.{◌≡◌, ℕ, inl, Bool, false, List, [], ◌∷◌, Option, Some, None, refl, sym, ap, ◌∙◌, subst, cond}
use Rattle.masked_bytes.specs.{Entries.head_row, declared.entry.Entry.Entry}
use Rattle.bank_shape.specs.{declared.BankShape.BankShape, declared.Work.TheVariants.Nothing}
use Rattle.bank_shape.specs.declared.answer.Step.TheVariants as did
use Rattle.start_gap.specs.declared.Move.{Move}
use Rattle.bank_model.specs.{After.{work_after, due_work, stands_at_after}, Answers.IsDone, Events.BankEvent, History.{queue, due_after, has_exhausted}}
use Rattle.bank_laws.proofs.Lines.{Stands}

module _ {n : ℕ} (shape : BankShape) (h : List (BankEvent n)) where
  -- a store of a row at a place: its line stands in the queue, no move is due, and the place is the line's
  pub record IsStoreOf (row place : ℕ) : Type 0 where
    pub line : ℕ
    pub stands : Stands (queue shape h) row line
    pub due : due_after shape h ≡ None
    pub fine : has_exhausted h ≡ false
    pub place_is : place ≡ stands_at_after shape h line

  pub done-store : (row place : ℕ) → IsDone shape h (work_after shape h) (did.Stored row place) → IsStoreOf row place
  done-store row place d = by (has_exhausted h) (due_after shape h) (queue shape h) refl refl refl d
    where
      by : (ex : Bool) (due : Option ℕ) (q : List (Entry n)) → has_exhausted h ≡ ex → due_after shape h ≡ due → queue shape h ≡ q
          → IsDone shape h (cond ex Nothing (due_work shape h due q)) (did.Stored row place) → IsStoreOf row place
      by false None (e ∷ es) fine none is d = record {
        line = e.line;
        stands = subst (λ (q : List (Entry n)). Stands q row e.line) (sym is) (inl (sym (d.0 ∙ ap head_row is), refl));
        due = none;
        fine = fine;
        place_is = d.1;
      }
      by _ _ _ fine none is d = absurd d

  -- a move is of the region that is due
  pub record IsMoveOf : Type 0 where
    pub region : ℕ
    pub due : due_after shape h ≡ Some region
    pub fine : has_exhausted h ≡ false

  pub done-move : (step : Move) → IsDone shape h (work_after shape h) (did.Moved step) → IsMoveOf
  done-move step d = by (has_exhausted h) (due_after shape h) (queue shape h) refl refl d
    where
      by : (ex : Bool) (due : Option ℕ) (q : List (Entry n)) → has_exhausted h ≡ ex → due_after shape h ≡ due
          → IsDone shape h (cond ex Nothing (due_work shape h due q)) (did.Moved step) → IsMoveOf
      by false (Some region) q fine is d = record { region = region; due = is; fine = fine }
      by false None [] fine is d = absurd d
      by _ _ _ fine is d = absurd d

-- A bank with nothing left to do is still, and so is one behind a power cut.
use Rattle.std.proofs.Common.{arith, ◌≡◌, ℕ, ◌&&◌, not, Bool, true, false, List, [], ◌∷◌, Option, Some, None, ap, ◌∙◌, cond}
use Rattle.bank_shape.specs.{Acting.{Choice, chosen_by}, Pausing.gives_way, declared.BankShape.BankShape, declared.pace.Pace.Pace}
use Rattle.bank_shape.specs.declared.clock.Doing.TheVariants as doing
use Rattle.bank_model.specs.{Changes.{change_after, keeping_after, change_by, keeping_by}, History.{waits, in_progress}, Lawful.IsIdle, Running.{busy_by, choice_after}}
use Rattle.bank_model.specs.Timing.{Happens, TimedEvent, core, core_of, is_empty}
use Rattle.bank_laws.{specs.Resting.{IsStill, IsCutOff, EndsIn}, proofs.Serves.idle-waits}

none-busy : (way reads : Bool) (c : Choice) → chosen_by way reads c ≡ None → c.busy ≡ false
none-busy way reads c is = by way reads c.busy c.ready is
  where
    by : (way reads busy ready : Bool) → cond (way && reads) (Some doing.Serving) (cond busy (Some c.going_on) (cond reads (Some doing.Serving) (cond ready (Some c.beginning) None))) ≡ None → busy ≡ false
    by way reads busy ready is = grind arith

none-goes : (change : Option ℕ) → busy_by change false false ≡ false
none-goes change = grind arith

module _ {n m : ℕ} (shape : BankShape) where
  pub idle-still : (pace : Pace) (xs : List (TimedEvent n m)) → IsIdle shape pace xs → IsStill shape xs
  idle-still pace xs idle = record {
    unawaited = idle-waits shape pace xs idle;
    rests = none-busy (gives_way pace.policy) (not (is_empty (waits shape (core xs)))) (choice_after shape pace xs) idle.chosen;
  }

  pub cut-still : (xs : List (TimedEvent n m)) → IsCutOff xs → IsStill shape xs
  cut-still [] off = absurd off
  cut-still (x ∷ xs) off = record {
    unawaited = ap (λ (h : Happens n). waits shape (core_of h (core xs))) off.1;
    rests =
        ap (λ (h : Happens n). busy_by (change_by shape (core xs) h (change_after shape xs)) (keeping_by h (keeping_after xs)) (in_progress (core_of h (core xs)))) off.1
        ∙ none-goes (change_after shape xs);
  }

  pub ends-still : (off : Bool) (pace : Pace) (xs : List (TimedEvent n m)) → EndsIn off shape pace xs → IsStill shape xs
  ends-still false pace xs ends = idle-still pace xs ends
  ends-still true pace xs ends = cut-still xs ends

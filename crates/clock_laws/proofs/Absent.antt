-- Rows that stand nowhere: a row comes into a bank by its own event alone.
use Rattle.std.proofs.Common.{arith, ◌≡◌, ℕ, false, List, [], ◌∷◌, Option, refl}
use Rattle.masked_bytes.{specs.Entries.has_row, specs.declared.entry.Entry.Entry, proofs.Rows.{lacks-push, lacks-drop, lacks-merged}}
use Rattle.bank_shape.specs.declared.BankShape.{BankShape}
use Rattle.bank_shape.specs.declared.answer.WriteAnswer.TheVariants as wrote
use Rattle.bank_shape.specs.declared.answer.ReadAnswer.TheVariants as came
use Rattle.bank_shape.specs.declared.answer.Step.TheVariants as did
use Rattle.bank_model.specs.{Events.{BankEvent, Write, Read, Serve, Begin, Iterate, Cut, newest}, History.{queue, waits, begun, due_after}, Timing.Core}
use Rattle.bank_laws.{specs.Standing.has_wait, proofs.Entries.{no_wait-push, no_wait-drop}}
use Rattle.clock_laws.specs.Standing.{is_arrival_of}

module _ {n : ℕ} where
  lacks-begun : (due : Option ℕ) (newest_of : ℕ → List ℕ) (es : List (Entry n)) (row : ℕ) → has_row es row ≡ false → has_row (begun due newest_of es) row ≡ false
  lacks-begun due newest_of es row none = grind arith

  -- a row comes into the queue by its own write alone, and begins to wait by its own read alone
  module _ (shape : BankShape) (h : List (BankEvent n)) (row : ℕ) where
    module _ (none : has_row (queue shape h) row ≡ false) where
      pub queue-lacks : (event : BankEvent n) → is_arrival_of (Core event) row ≡ false → has_row (queue shape (event ∷ h)) row ≡ false
      queue-lacks (Write at line bytes given wrote.Accepted) off = lacks-push (queue shape h) _ row none off
      queue-lacks (Write at line bytes given (wrote.Merged old)) off = lacks-merged old at bytes given (queue shape h) row none off
      queue-lacks (Begin (did.Stored at place)) off = lacks-drop (queue shape h) row none
      queue-lacks (Begin _) off = lacks-begun (due_after shape h) (newest h) (queue shape h) row none
      queue-lacks (Iterate (did.Stored at place)) off = lacks-drop (queue shape h) row none
      queue-lacks _ off = none

    module _ (waits_not : has_wait (waits shape h) row ≡ false) where
      pub waits-lack : (event : BankEvent n) → is_arrival_of (Core event) row ≡ false → has_wait (waits shape (event ∷ h)) row ≡ false
      waits-lack (Read at line came.Waiting) off = no_wait-push (waits shape h) _ row waits_not off
      waits-lack (Serve answer) off = no_wait-drop (waits shape h) row waits_not
      waits-lack (Cut tearing) off = refl
      waits-lack _ off = waits_not

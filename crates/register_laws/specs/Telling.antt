-- That the change that stands, and how far its writing has come, are those that a timed history leaves.
use Rattle.std.specs.Prelude.{◌≡◌, ℕ, ◌+◌, ◌<◌, ◌≤◌, List, ◌∷◌, Option, Some, None, IfSome, IsTrue, is_some}
use Rattle.cell_rows.specs.Device.{ArrayState}
use Rattle.bank_shape.specs.{declared.BankShape.BankShape, declared.answer.Keep.Keep, declared.answer.Step.Step}
use Rattle.line_writer.specs.Writing.{steps_left, most_steps}
use Rattle.bank_model.specs.{Changes.{change_after, changed_by, keeping_after, rounds_after, halted_after}, Events.{Write, Read, Serve, Begin, Iterate, Cut}}
use Rattle.bank_model.specs.Timing.{TimedEvent, Happens, Core, Regs, KeepBegin, KeepIterate, KeepCut, core}
use Rattle.reg_lines.specs.{Keeping.{with_change, broken_off, IsBegin, IsIteration}, Regs.{RegsState, AreHeld}, declared.Change.Change}

-- the item of a change, if one stands
abbrev pub item_of : Option Change → Option ℕ
item_of None = None
item_of (Some change) = Some change.item

-- the change, and how far its writing has come, are those that a timed history leaves, with enough steps left
pub record AreTold {n m e : ℕ} (shape : BankShape) (xs : List (TimedEvent n m)) (regs : RegsState n m e) : Type 0 where
  pub change : item_of regs.change ≡ change_after shape xs
  pub writing : is_some regs.writer ≡ keeping_after xs
  pub halted : regs.halted ≡ halted_after xs
  pub steps : IfSome regs.writer (λ writer. rounds_after xs + steps_left writer ≤ most_steps e)

-- each step of the writing makes it go on so
abbrev pub ToldBegunLaw : Type 0
ToldBegunLaw =
    (n m e : ℕ) (shape : BankShape) (xs : List (TimedEvent n m)) (x : TimedEvent n m) (regs new : RegsState n m e) (answer : Keep) (after : ArrayState n m)
    → AreTold shape xs regs → x.happens ≡ Regs (KeepBegin answer) → IsBegin regs new answer after
    → AreTold shape (x ∷ xs) new

abbrev pub ToldIteratedLaw : Type 0
ToldIteratedLaw =
    (n m e tick : ℕ) (shape : BankShape) (xs : List (TimedEvent n m)) (x : TimedEvent n m) (regs new : RegsState n m e) (answer : Keep) (before after : ArrayState n m)
    → AreTold shape xs regs → x.happens ≡ Regs (KeepIterate answer) → IsIteration tick regs new answer before after
    → AreTold shape (x ∷ xs) new

-- a change that is being written has iterations left
abbrev pub ToldLeftLaw : Type 0
ToldLeftLaw =
    (n m e : ℕ) (shape : BankShape) (xs : List (TimedEvent n m)) (regs : RegsState n m e) (array : ArrayState n m)
    → AreTold shape xs regs → AreHeld regs array → IsTrue (is_some regs.writer) → rounds_after xs < most_steps e

-- a cut of the bank or of the change ends its writing
abbrev pub IsCutting : {n : ℕ} → Happens n → Type 0
IsCutting (Core (Cut tearing)) = Unit {0}
IsCutting (Regs (KeepCut tearing)) = Unit {0}
IsCutting happens = ⊥

abbrev pub ToldBrokenLaw : Type 0
ToldBrokenLaw =
    (n m e : ℕ) (shape : BankShape) (xs : List (TimedEvent n m)) (x : TimedEvent n m) (regs : RegsState n m e)
    → AreTold shape xs regs → IsCutting x.happens → AreTold shape (x ∷ xs) (broken_off regs)

-- a step of the bank's line write answers so
abbrev pub IsStep : {n : ℕ} → Happens n → Step → Type 0
IsStep (Core (Begin answer)) step = step ≡ answer
IsStep (Core (Iterate answer)) step = step ≡ answer
IsStep happens step = ⊥

-- such a step, which comes only while no change stands, has its change put, or brings none
abbrev pub ToldPutLaw : Type 0
ToldPutLaw =
    (n m e : ℕ) (shape : BankShape) (xs : List (TimedEvent n m)) (x : TimedEvent n m) (regs : RegsState n m e) (answer : Step) (change : Change)
    → AreTold shape xs regs → IsStep x.happens answer → regs.change ≡ None → regs.writer ≡ None → changed_by shape (core xs) answer None ≡ Some change.item
    → AreTold shape (x ∷ xs) (with_change change regs)

abbrev pub ToldStillLaw : Type 0
ToldStillLaw =
    (n m e : ℕ) (shape : BankShape) (xs : List (TimedEvent n m)) (x : TimedEvent n m) (regs : RegsState n m e) (answer : Step)
    → AreTold shape xs regs → IsStep x.happens answer → regs.change ≡ None → regs.writer ≡ None → changed_by shape (core xs) answer None ≡ None
    → AreTold shape (x ∷ xs) regs

-- arrivals and serves leave the change and its writing
abbrev pub IsAside : {n : ℕ} → Happens n → Type 0
IsAside (Core (Write row line bytes given answer)) = Unit {0}
IsAside (Core (Read row line answer)) = Unit {0}
IsAside (Core (Serve answer)) = Unit {0}
IsAside happens = ⊥

abbrev pub ToldAsideLaw : Type 0
ToldAsideLaw =
    (n m e : ℕ) (shape : BankShape) (xs : List (TimedEvent n m)) (x : TimedEvent n m) (regs : RegsState n m e)
    → AreTold shape xs regs → IsAside x.happens → AreTold shape (x ∷ xs) regs

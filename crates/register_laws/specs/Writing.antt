-- That the writing of the change that stands goes on to hold what the bank keeps. Each premise is a clause of the call.
use Rattle.std.specs.Prelude.{◌≡◌, ℕ, ◌+◌, Bool, false, [], None, IfSome}
use Rattle.cell_rows.specs.Device.{ArrayState}
use Rattle.ecp_line.specs.Reading.{decode}
use Rattle.bank_shape.specs.declared.answer.Keep.{Keep}
use Rattle.bank_shape.specs.declared.answer.Keep.TheVariants as keep
use Rattle.bank_model.specs.Touching.{Touches}
use Rattle.power_recovery.specs.Kept.{KeptState, IsKept}
use Rattle.reg_lines.specs.{Keeping.{line_of, target_of, torn_line, broken_off, IsBegin, IsIteration}, Regs.{RegsState, AreHeld}, Values.encoded}
use Rattle.register_laws.specs.Control.{Control}

module _ {n m e : ℕ} where
  -- where a step of the writing is done, its control line holds the values of the change
  abbrev pub IsWrittenWhole : RegsState n m e → ArrayState n m → Keep → Type 0
  IsWrittenWhole regs array answer =
      answer ≡ keep.Done → IfSome regs.change (λ change. decode e (array.line (regs.base + change.item)).held ≡ encoded n change.values)

-- after a begin
abbrev pub BegunLaw : Type 0
BegunLaw =
    (n m e tick : ℕ) (kept : KeptState n) (regs new : RegsState n m e) (before after : ArrayState n m) (answer : Keep)
    → IsKept kept → Control kept regs before → IsBegin regs new answer after
    → Touches tick (line_of regs regs.change) None false before after → IsWrittenWhole regs after answer → AreHeld new after
    → Control kept new after

-- after an iteration
abbrev pub IteratedLaw : Type 0
IteratedLaw =
    (n m e tick : ℕ) (kept : KeptState n) (regs new : RegsState n m e) (before after : ArrayState n m) (answer : Keep)
    → IsKept kept → Control kept regs before → IsIteration tick regs new answer before after
    → Touches tick (line_of regs regs.change) (target_of regs regs.change) false before after → IsWrittenWhole regs after answer → AreHeld new after
    → Control kept new after

-- after a cut, also one that tears the control line: its item has the values of the change
abbrev pub BrokenLaw : Type 0
BrokenLaw =
    (n m e tick : ℕ) (tearing : Bool) (kept : KeptState n) (regs : RegsState n m e) (before after : ArrayState n m)
    → Control kept regs before
    → Touches tick [] (torn_line tearing regs) tearing before after → AreHeld (broken_off regs) after
    → Control kept (broken_off regs) after

-- What an action needs of its bank and its control lines, whatever its history was.
use Rattle.std.specs.Prelude.{◌≡◌, ◌⊎◌, ℕ, ◌<◌, false, IsTrue, [], length, Option, None, IfSome, is_some}
use Rattle.bank_shape.specs.{declared.Work.TheVariants.Nothing, declared.clock.Action.Action, declared.clock.Doing.Doing}
use Rattle.bank_shape.specs.declared.clock.Doing.TheVariants.{Serving, Beginning, Iterating}
use Rattle.bank_shape.specs.declared.answer.ReadAnswer.TheVariants as came
use Rattle.power_recovery.specs.Kept.{next_work}
use Rattle.masked_bytes.specs.declared.entry.Entry.{Entry}
use Rattle.reg_lines.specs.Regs.{RegsState}
use Rattle.bank_invariant.specs.{Serving.waits_too, State.{BankState, may_begin, is_storing}, Writes.taken}
use Rattle.clock_laws.specs.{Arriving.action_after_read, State.{ClockState, is_busy, may_start, next_action}}

module _ {n m e : ℕ} where
  -- a read waits, a line write may be begun, or one is in progress. While a change stands it is the change's
  abbrev pub Fits : BankState n m e → RegsState n m e → Doing → Type 0
  Fits bank regs Serving = 0 < length bank.waiting
  Fits bank regs Beginning = IsTrue (may_start bank regs)
  Fits bank regs Iterating = IsTrue (is_busy bank regs)

  -- the action that runs, if any, has what it needs
  abbrev pub IsFit : BankState n m e → RegsState n m e → Option Action → Type 0
  IsFit bank regs action = IfSome action (λ a. Fits bank regs a.doing)

  -- no work is left, or a change stands whose writing has halted
  abbrev pub HasEnded : BankState n m e → RegsState n m e → Type 0
  HasEnded bank regs =
      ((regs.change ≡ None) × (bank.running ≡ None) × (next_work bank.kept ≡ Nothing))
      ⊎ (IsTrue (is_some regs.change) × IsTrue regs.halted × (regs.writer ≡ None))

-- what is needed of the bank where no change stands, and of the change where one does
pub record NeedsOf {n m e : ℕ} (bank : BankState n m e) (regs : RegsState n m e) : Type 0 where
  pub begins : regs.change ≡ None → Fits bank regs Beginning → IsTrue (may_begin bank)
  pub iterates : regs.change ≡ None → Fits bank regs Iterating → IsTrue (is_some bank.running)
  pub begins_change : IsTrue (is_some regs.change) → Fits bank regs Beginning → (regs.writer ≡ None) × (regs.halted ≡ false)
  pub iterates_change : IsTrue (is_some regs.change) → Fits bank regs Iterating → IsTrue (is_some regs.writer)

abbrev pub NeedsLaw : Type 0
NeedsLaw = (n m e : ℕ) (bank : BankState n m e) (regs : RegsState n m e) → NeedsOf bank regs

-- an action that is chosen has what it needs
abbrev pub ChosenLaw : Type 0
ChosenLaw = (n m e : ℕ) (clock : ClockState n m e) → IsFit clock.bank clock.regs clock.action → IsFit clock.bank clock.regs (next_action clock)

-- and still has it after a write that the queue takes
abbrev pub FitWriteLaw : Type 0
FitWriteLaw =
    (n m e : ℕ) (entry : Entry n) (action : Option Action) (bank : BankState n m e) (regs : RegsState n m e)
    → IsFit bank regs action → IsFit (taken (is_storing bank.running) entry bank) regs action

-- and after a read that begins to wait, if that doesn't drop it
abbrev pub FitReadLaw : Type 0
FitReadLaw =
    (n m e row line : ℕ) (action : Option Action) (bank : BankState n m e) (regs : RegsState n m e)
    → IsFit bank regs action → IsFit (waits_too bank row line) regs (action_after_read bank.kept regs.change line came.Waiting action)

-- where no action runs from now on, no read waits, and no line write is in progress or to be begun
abbrev pub RestLaw : Type 0
RestLaw =
    (n m e : ℕ) (clock : ClockState n m e) → next_action clock ≡ None
    → (clock.action ≡ None) × (clock.bank.waiting ≡ []) × HasEnded clock.bank clock.regs

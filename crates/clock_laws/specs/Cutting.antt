-- The laws of a power cut and of a cancel.
use Rattle.std.specs.Prelude.{◌≡◌, ℕ, ◌+◌, Bool, true, IsTrue, List, [], ◌∷◌, Option, None, is_some}
use Rattle.cell_rows.specs.Device.{ArrayState}
use Rattle.bank_shape.specs.declared.clock.Doing.TheVariants.{Iterating}
use Rattle.bank_shape.specs.declared.answer.ReadAnswer.TheVariants as came
use Rattle.bank_model.specs.{Changes.all_controls, Events.{Read, Cut, RowsBelow}, Running.tears_bank, Sensing.{pulsed_by, torn_control, kept_pulsed}}
use Rattle.bank_model.specs.{Timing.{TimedEvent, Core, Regs, KeepCut, core, is_doing}, Touching.{Touches, AreStruck, shown}}
use Rattle.reg_lines.specs.{Keeping.broken_off, Regs.RegsState}
use Rattle.register_laws.specs.{Control.Control, Telling.item_of}
use Rattle.bank_invariant.specs.{Holds.Holds, State.BankState}
use Rattle.clock_laws.specs.{Arriving.{KeepsWork, arrival, after_read, cancels_for}, Completing.{completion, line_kept}, Fitting.IsFit, Leads.{Leads, Reaches}, State.ClockState}
use Rattle.clock_laws.specs.Tearing.{TearsControl}

module _ {n m e : ℕ} where
  -- whether a cut now tears the bank's own line write; and the line that it tears, which may be that of the change
  abbrev pub tears_now : ClockState n m e → Bool
  tears_now clock = tears_bank (item_of clock.regs.change) clock.action

  abbrev pub torn_now : List (TimedEvent n m) → ClockState n m e → Option ℕ
  torn_now xs clock =
      pulsed_by clock.bank.kept.shape (core xs) (torn_control clock.bank.kept.shape (item_of clock.regs.change) clock.action) (Cut (tears_now clock))

  -- a power cut at a tick, with the line that it tears, and behind it the senses of all control lines
  abbrev pub cut : List (TimedEvent n m) → ClockState n m e → ArrayState n m → TimedEvent n m
  cut xs clock array =
      completion clock.tick clock.tick (Core (Cut (tears_now clock))) (shown clock.tick (all_controls clock.bank.kept.shape) array) (torn_now xs clock)

  -- the clock after it, with this bank: no action runs, and no change is being written
  abbrev pub after_cut : ClockState n m e → BankState n m e → ClockState n m e
  after_cut clock bank =
      record { bank = bank; regs = broken_off clock.regs; pace = clock.pace; tick = clock.tick; action = None; arrivals = clock.arrivals; cancels = 0; drained = clock.drained }

-- a cut, which tears exactly where an iteration runs, and after which the control lines are read again, extends the history by its event
abbrev pub PowerCutLaw : Type 0
PowerCutLaw =
    (n m e : ℕ) (xs : List (TimedEvent n m)) (clock : ClockState n m e) (bank : BankState n m e) (old new : ArrayState n m)
    → Leads xs clock old → IsFit clock.bank clock.regs clock.action
    → Holds (Cut (tears_now clock) ∷ core xs) bank new → bank.kept.shape ≡ clock.bank.kept.shape → bank.running ≡ None → bank.lost ≡ []
    → Control bank.kept (broken_off clock.regs) new
    → Touches clock.tick (all_controls clock.bank.kept.shape) (torn_now xs clock) (is_doing Iterating clock.action) old new
    → AreStruck clock.bank.kept.shape (core xs) (Cut (tears_now clock)) (torn_now xs clock) old new
    → TearsControl clock.regs (torn_now xs clock) old new
    → Leads (cut xs clock new ∷ xs) (after_cut clock bank) new

module _ {n m e : ℕ} where
  -- a cut of the bank's line write that a read makes
  abbrev pub cancel : List (TimedEvent n m) → ClockState n m e → TimedEvent n m
  cancel xs clock =
      record { happens = Core (Cut (is_doing Iterating clock.action)); tick = clock.tick; first = clock.tick; senses = []; pulsed = pulsed_by clock.bank.kept.shape (core xs) None (Cut (is_doing Iterating clock.action)); cancels = true }

  -- one of the writing of the change that stands
  abbrev pub keep_cancel : ClockState n m e → TimedEvent n m
  keep_cancel clock =
      record { happens = Regs (KeepCut (is_doing Iterating clock.action)); tick = clock.tick; first = clock.tick; senses = []; pulsed = kept_pulsed (line_kept clock) (KeepCut (is_doing Iterating clock.action)); cancels = true }

  -- the clock after it, with this bank and these control lines: no action runs, and it is counted
  abbrev pub after_cancel : ClockState n m e → BankState n m e → RegsState n m e → ClockState n m e
  after_cancel clock bank regs =
      record { bank = bank; regs = regs; pace = clock.pace; tick = clock.tick; action = None; arrivals = clock.arrivals; cancels = clock.cancels + 1; drained = clock.drained }

-- a cancel extends the history where a read of this line would cancel, and no change stands; its read is still to come
abbrev pub CancelLaw : Type 0
CancelLaw =
    (n m e line : ℕ) (xs : List (TimedEvent n m)) (clock : ClockState n m e) (bank : BankState n m e) (old new : ArrayState n m)
    → Leads xs clock old → IsTrue (cancels_for clock line) → clock.regs.change ≡ None
    → Holds (Cut (is_doing Iterating clock.action) ∷ core xs) bank new → bank.kept.shape ≡ clock.bank.kept.shape → bank.running ≡ None → bank.lost ≡ []
    → Control bank.kept clock.regs new
    → Touches clock.tick [] (pulsed_by clock.bank.kept.shape (core xs) None (Cut (is_doing Iterating clock.action))) (is_doing Iterating clock.action) old new
    → AreStruck clock.bank.kept.shape (core xs) (Cut (is_doing Iterating clock.action))
    (pulsed_by clock.bank.kept.shape (core xs) None (Cut (is_doing Iterating clock.action))) old new
    → Reaches (cancel xs clock ∷ xs) (after_cancel clock bank clock.regs) new

-- while a change stands it is one of the change's writing, and leaves the bank as it was
abbrev pub KeepCancelLaw : Type 0
KeepCancelLaw =
    (n m e line : ℕ) (xs : List (TimedEvent n m)) (clock : ClockState n m e) (old new : ArrayState n m)
    → Leads xs clock old → IsTrue (cancels_for clock line) → IsTrue (is_some clock.regs.change) → IsFit clock.bank clock.regs clock.action
    → Control clock.bank.kept (broken_off clock.regs) new
    → Touches clock.tick [] (kept_pulsed (line_kept clock) (KeepCut (is_doing Iterating clock.action))) (is_doing Iterating clock.action) old new
    → TearsControl clock.regs (kept_pulsed (line_kept clock) (KeepCut (is_doing Iterating clock.action))) old new
    → Reaches (keep_cancel clock ∷ xs) (after_cancel clock clock.bank (broken_off clock.regs)) new

-- the read that made a cancel, which then waits, makes the history whole
abbrev pub CancelledReadLaw : Type 0
CancelledReadLaw =
    (n m e row line : ℕ) (x : TimedEvent n m) (xs : List (TimedEvent n m)) (clock : ClockState n m e) (bank : BankState n m e) (array : ArrayState n m)
    → Reaches (x ∷ xs) clock array → clock.action ≡ None → clock.tick ≡ x.tick → RowsBelow (core (x ∷ xs)) row → KeepsWork clock.bank bank
    → Holds (Read row line came.Waiting ∷ core (x ∷ xs)) bank array
    → Leads (arrival clock.tick (Read row line came.Waiting) ∷ x ∷ xs) (after_read clock bank line came.Waiting) array

-- The cancel that a read makes before it arrives.
use Rattle.std.specs.Prelude.{ℕ, if◌then◌else◌, List, [], ◌∷◌, Option, Some, None}
use Rattle.reg_lines.specs.{Keeping.broken_off, declared.Change.Change}
use Rattle.bank_model.specs.Timing.{TimedEvent}
use Rattle.bank_invariant.specs.Steps.{cut_off}
use Rattle.clock_laws.specs.{Arriving.cancels_for, Cutting.{cancel, keep_cancel, after_cancel}, State.ClockState}

module _ {n m e : ℕ} where
  -- the event: of the bank's line write, or while a change stands of the change's
  abbrev pub cancel_by : Option Change → List (TimedEvent n m) → ClockState n m e → TimedEvent n m
  cancel_by None xs clock = cancel xs clock
  cancel_by (Some change) xs clock = keep_cancel clock

  -- the clock after it
  abbrev pub cancelled_by : Option Change → ClockState n m e → ClockState n m e
  cancelled_by None clock = after_cancel clock (cut_off clock.bank) clock.regs
  cancelled_by (Some change) clock = after_cancel clock clock.bank (broken_off clock.regs)

  -- the events that a read of a line makes before it arrives, and the clock behind them
  abbrev pub cancel_first : List (TimedEvent n m) → ClockState n m e → ℕ → List (TimedEvent n m)
  cancel_first xs clock line = if cancels_for clock line then cancel_by clock.regs.change xs clock ∷ [] else []

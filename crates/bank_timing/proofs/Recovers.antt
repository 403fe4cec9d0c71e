-- A bank is stripped, and read back from its control lines.
use Rattle.std.proofs.Common.{◌≡◌, ℕ, Option, None, refl, sym, ap, subst, ◌∙◌}
use Rattle.std.specs.Prelude.{IfSome}
use Rattle.cell_rows.specs.Device.{ArrayState}
use Rattle.bank_shape.specs.{declared.Home.Home, declared.Home.TheVariants.{Array, Guarded}, declared.clock.Action.Action, declared.pace.Pace.Pace}
use Rattle.power_recovery.specs.{Kept.{KeptState, IsKept}, Restoring.stripped_kept}
use Rattle.reg_lines.specs.Regs.{RegsState}
use Rattle.register_laws.specs.{Control.Control, Recovering.IsReadable}
use Rattle.bank_invariant.specs.State.{BankState}
use Rattle.bank_core.specs.Stepping.{with_kept}
use Rattle.clock_laws.specs.{Fitting.Fits, State.ClockState}
use Rattle.bank_timing.specs.{Clock.IsClock, Reading.keeping}

module _ {n m e : ℕ} where
  -- a bank that rests is one with its clock whatever it is read back as
  pub clock-back : (bank : BankState n m e) (kept : KeptState n) (regs : RegsState n m e) (pace : Pace) (tick capacity : ℕ) (action : Option Action)
      → IsClock bank regs pace tick action capacity → action ≡ None → stripped_kept bank.kept ≡ stripped_kept kept
      → IsClock (with_kept bank kept) regs pace tick action capacity
  clock-back bank kept regs pace tick capacity action is rests same = record {
    layout = is.layout;
    paced = is.paced;
    room = is.room ∙ ap (λ (k : KeptState n). k.shape.writes) same;
    begun = is.begun;
    fit = subst (λ (a : Option Action). IfSome a (λ a. Fits (with_kept bank kept) regs a.doing)) (sym rests) tt;
    idle = is.idle;
  }

  -- what a bank keeps is what its control lines and its change hold, where they are those of a history
  pub record IsHeld (clock : ClockState n m e) (array : ArrayState n m) : Type 0 where
    pub idle : clock.regs.writer ≡ None
    pub in_range : IsKept clock.bank.kept
    pub control : Control clock.bank.kept clock.regs array

  pub held-readable : (clock : ClockState n m e) (array : ArrayState n m) → IsHeld clock array → clock.bank.kept.shape.home ≡ Array
      → IsReadable clock.bank.kept (stripped_kept clock.bank.kept) clock.regs array
  held-readable clock array held home = record {
    stripped = refl;
    idle = held.idle;
    lines = record { home = home; in_range = held.in_range; own = held.control.own; exist = held.control.held.exist; values = held.control.values };
  }

  -- so it is read back as it was
  pub same-back : (clock now : ClockState n m e) (array : ArrayState n m) → IsHeld clock array
      → (clock.bank.kept.shape.home ≡ Guarded → now ≡ clock)
      → (clock.bank.kept.shape.home ≡ Array → (kept : KeptState n) → IsReadable kept (stripped_kept clock.bank.kept) clock.regs array → now ≡ keeping kept clock)
      → now ≡ clock
  same-back clock now array held guarded back = by clock.bank.kept.shape.home refl
    where
      by : (home : Home) → clock.bank.kept.shape.home ≡ home → now ≡ clock
      by Guarded is = guarded is
      by Array is = back is clock.bank.kept (held-readable clock array held is)

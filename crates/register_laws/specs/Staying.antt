-- What changes no item: events that leave all but the queue, and what becomes of the array's other lines.
use Rattle.std.specs.Prelude.{ℕ, ◌+◌, ◌<◌, ◌≤◌, Bool, false, List, Option, None, IfSome}
use Rattle.masked_bytes.specs.declared.entry.Entry.{Entry}
use Rattle.cell_rows.specs.Device.{ArrayState, IsBlank}
use Rattle.bank_shape.specs.{Shape.{controls_of, controls_from, control_line, lines_in}, declared.BankShape.BankShape}
use Rattle.bank_model.specs.Touching.{Touches}
use Rattle.power_recovery.specs.{Events.{first_kept, with_entries, accepted_kept, completed_kept}, Kept.KeptState}
use Rattle.reg_lines.specs.Regs.{RegsState}
use Rattle.register_laws.specs.Control.{Control, LeavesControls}

-- a bank that keeps another queue and else the same, over an array whose control lines are as they were: so after an arrival, after the
-- head was completed, and after a line was sensed
abbrev pub QueueLaw : Type 0
QueueLaw =
    (n m e : ℕ) (kept : KeptState n) (entries : List (Entry n)) (regs : RegsState n m e) (before after : ArrayState n m)
    → Control kept regs before → LeavesControls regs before after → Control (with_entries kept entries) regs after

-- the same, by the events: an arrival leaves the array, a begin completes the head
pub record StaysOf {n m e : ℕ} (kept : KeptState n) (regs : RegsState n m e) (before after : ArrayState n m) : Type 0 where
  pub same : Control kept regs after
  pub accepted : (busy : Bool) (entry : Entry n) → Control (accepted_kept busy entry kept) regs after
  pub completed : (under : List ℕ) → Control (completed_kept under kept) regs after

abbrev pub StaysLaw : Type 0
StaysLaw =
    (n m e : ℕ) (kept : KeptState n) (regs : RegsState n m e) (before after : ArrayState n m)
    → Control kept regs before → LeavesControls regs before after → StaysOf kept regs before after

-- an event that pulses or tears a slot or a spare, or nothing, leaves the control lines
abbrev pub SlotsLaw : Type 0
SlotsLaw =
    (n m e tick : ℕ) (sensed : List ℕ) (pulsed : Option ℕ) (tearing : Bool) (kept : KeptState n) (regs : RegsState n m e) (before after : ArrayState n m)
    → Control kept regs before → IfSome pulsed (λ line. line < controls_from kept.shape) → Touches tick sensed pulsed tearing before after
    → LeavesControls regs before after

-- control lines that were just powered up hold what a bank keeps at first
abbrev pub StartLaw : Type 0
StartLaw =
    (n m e : ℕ) (shape : BankShape) (array : ArrayState n m)
    → (0 < controls_of shape → 16 ≤ n)
    → shape.base + lines_in shape ≤ array.lines
    → ((item : ℕ) → item < controls_of shape → IsBlank (array.line (control_line shape item)))
    → Control {n = n} {m = m} {e = e} (first_kept shape)
    (record { base = controls_from shape; items = controls_of shape; change = None; halted = false; writer = None }) array

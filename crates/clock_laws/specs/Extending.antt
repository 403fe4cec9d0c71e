-- How the events of several calls add up, and what a bank does not touch.
use Rattle.std.specs.Prelude.{◌≡◌, ℕ, ◌+◌, ◌<◌, ◌≤◌, Bool, false, List, [], ◌∷◌, ◌++◌, Option, Some, None, IfSome, is_some}
use Rattle.cell_rows.specs.Device.{ArrayState}
use Rattle.bank_shape.specs.{Shape.{lines_in, controls_of, control_line}, declared.BankShape.BankShape}
use Rattle.bank_model.specs.{Adding.Adds, Events.{BankEvent, Cut}, Timing.{TimedEvent, Happens, Core, Regs, KeepCut}, Touching.{Touches, shown}}
use Rattle.bank_invariant.specs.{Holds.Holds, State.{BankState, Operation}}
use Rattle.clock_laws.specs.{Arriving.arrival, Leads.Leads, State.ClockState}

-- no event leaves an array as it was
abbrev pub NothingAddedLaw : Type 0
NothingAddedLaw = (n m : ℕ) (shape : BankShape) (array : ArrayState n m) → Adds {n = n} {m = m} shape [] array array

-- what happens tears where it is a cut that pulsed a line
abbrev pub is_tear : {n : ℕ} → Happens n → Option ℕ → Bool
is_tear (Core (Cut tearing)) pulsed = is_some pulsed
is_tear (Regs (KeepCut tearing)) pulsed = is_some pulsed
is_tear happens pulsed = false

-- one event adds what it touches, where it pulses a line of the bank or none
abbrev pub OneAddedLaw : Type 0
OneAddedLaw =
    (n m : ℕ) (shape : BankShape) (x : TimedEvent n m) (sensed : List ℕ) (tearing : Bool) (old new : ArrayState n m)
    → x.senses ≡ shown x.tick sensed new
    → IfSome x.pulsed (λ line. (shape.base ≤ line) × (line < shape.base + lines_in shape))
    → tearing ≡ is_tear x.happens x.pulsed
    → Touches x.tick sensed x.pulsed tearing old new → Adds shape (x ∷ []) old new

-- an arrival adds nothing
abbrev pub ArrivalAddedLaw : Type 0
ArrivalAddedLaw = (n m tick : ℕ) (shape : BankShape) (event : BankEvent n) (array : ArrayState n m) → Adds shape (arrival tick event ∷ []) array array

-- the events of two calls add up
abbrev pub BothAddedLaw : Type 0
BothAddedLaw =
    (n m : ℕ) (shape : BankShape) (newer older : List (TimedEvent n m)) (first between last : ArrayState n m)
    → Adds shape older first between → Adds shape newer between last → Adds shape (newer ++ older) first last

-- a history leads to a bank over any other array in which each line of the bank is the same, of as many lines whose cells keep to the
-- same bounds
abbrev pub ElsewhereLaw : Type 0
ElsewhereLaw =
    (n m e : ℕ) (xs : List (TimedEvent n m)) (clock : ClockState n m e) (old new : ArrayState n m)
    → Leads xs clock old → new.lines ≡ old.lines → new.bounds ≡ old.bounds
    → ((line : ℕ) → clock.bank.kept.shape.base ≤ line → line < clock.bank.kept.shape.base + lines_in clock.bank.kept.shape → new.line line ≡ old.line line)
    → Leads xs clock new

-- an event that pulses no line, and senses none, before another, adds nothing to what that touches
abbrev pub BeforeLaw : Type 0
BeforeLaw =
    (n m tick : ℕ) (sensed : List ℕ) (pulsed : Option ℕ) (tearing : Bool) (old between new : ArrayState n m)
    → Touches tick [] None false old between → Touches tick sensed pulsed tearing between new → Touches tick sensed pulsed tearing old new

-- one that pulses no line behind another that senses none adds what it senses
abbrev pub BehindLaw : Type 0
BehindLaw =
    (n m tick : ℕ) (sensed : List ℕ) (pulsed : Option ℕ) (tearing : Bool) (old between new : ArrayState n m)
    → Touches tick [] pulsed tearing old between → Touches tick sensed None false between new → Touches tick sensed pulsed tearing old new

-- a step of the bank's line write, or its cut, leaves the control lines as they were
abbrev pub ControlsStayLaw : Type 0
ControlsStayLaw =
    (n m e tick item : ℕ) (sensed : List ℕ) (tearing : Bool) (op : Operation n m e) (xs : List (TimedEvent n m)) (clock : ClockState n m e) (old new : ArrayState n m)
    → Leads xs clock old → clock.bank.running ≡ Some op → item < controls_of clock.bank.kept.shape → Touches tick sensed (Some op.target) tearing old new
    → new.line (clock.regs.base + item) ≡ old.line (clock.regs.base + item)

-- and a history leads to the bank over an array in which a control line was pulsed or torn
abbrev pub BankStaysLaw : Type 0
BankStaysLaw =
    (n m e tick item : ℕ) (sensed : List ℕ) (tearing : Bool) (h : List (BankEvent n)) (bank : BankState n m e) (old new : ArrayState n m)
    → Holds h bank old → Touches tick sensed (Some (control_line bank.kept.shape item)) tearing old new → Holds h bank new

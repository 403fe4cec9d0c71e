-- What one event does to an array, besides what the cells that it pulses then hold.
use Rattle.std.specs.Prelude.{◌≡◌, ℕ, ◌+◌, ◌<◌, ◌≤◌, ◌⊎◌, ◌++◌, Bool, true, false, if◌then◌else◌, IsTrue, IsFalse, List, map, Option, Some}
use Rattle.cell_rows.specs.{Device.{CellBounds, LineState, ArrayState, counted, sense_of}, declared.array.Sense.Sense}
use Rattle.bank_shape.specs.{Shape.slots_of, declared.BankShape.BankShape}
use Rattle.bank_model.specs.{Events.{BankEvent, Cut}, History.iterated, Sensing.is_at}

-- what senses of these lines, in this order, show at a tick
abbrev pub shown : {n m : ℕ} → ℕ → List ℕ → ArrayState n m → List (Sense n m)
shown tick sensed array = map (λ line. sense_of line tick (array.line line)) sensed

-- what a pulse or a tear makes of the stuck cells of a line: one that was stuck is, and one that newly sticks does so only as its line
-- has had as many pulses as cells endure
pub record Sticks {n m : ℕ} (bounds : CellBounds) (old new : LineState n m) : Type 0 where
  pub stays : (c : ℕ) → IsTrue (old.stuck c) → IsTrue (new.stuck c)
  pub late : (c : ℕ) → IsFalse (old.stuck c) → IsTrue (new.stuck c) → bounds.endures ≤ new.pulses

-- what a pulse or a tear makes of a line of which no cell is stuck, where each cell that it is of has missed so often at least since it
-- changed: one that is live then was spared or missed, or it is of those and changed; and one that sticks is of those, in the last of the
-- changes that cells endure
pub record Strikes {n m : ℕ} (bounds : CellBounds) (missed : ℕ) (tearing : Bool) (old new : LineState n m) : Type 0 where
  pub live : (c : ℕ) → IsFalse (new.stuck c)
      → ((new.spent c ≤ old.spent c) × (new.misses c ≤ old.misses c + 1))
      ⊎ ((missed ≤ old.misses c) × (new.spent c ≤ old.spent c + 1) × (IsFalse tearing → new.misses c ≡ 0))
  pub stuck : (c : ℕ) → IsTrue (new.stuck c) → (missed ≤ old.misses c) × (bounds.endures ≤ old.spent c + 1)

-- whether an event may break a pulse off
abbrev pub breaks_off : {n : ℕ} → BankEvent n → Bool
breaks_off (Cut tearing) = true
breaks_off _ = false

-- the line of a slot or a spare that an event pulses or tears, if no cell of it is stuck, is struck in cells that have each missed in every
-- iteration of the line write in progress
abbrev pub AreStruck : {n m : ℕ} → BankShape → List (BankEvent n) → BankEvent n → Option ℕ → ArrayState n m → ArrayState n m → Type 0
AreStruck shape h event pulsed old new =
    (line : ℕ) → line < slots_of shape + shape.spares → IsTrue (is_at pulsed (shape.base + line))
    → ((c : ℕ) → IsFalse ((old.line (shape.base + line)).stuck c))
    → Strikes old.bounds (iterated h) (breaks_off event) (old.line (shape.base + line)) (new.line (shape.base + line))

-- an event pulses or tears one line or none, and then senses these lines, in this order: every other line, the wear and the bounds of
-- cells stay as they were, a pulse and a tear are counted, cells stick no earlier than they endure, and a log that is told has gained
-- the senses, which show the lines as the event leaves them
pub record Touches {n m : ℕ} (tick : ℕ) (sensed : List ℕ) (pulsed : Option ℕ) (tearing : Bool) (old new : ArrayState n m) : Type 0 where
  pub lines : new.lines ≡ old.lines
  pub others : (line : ℕ) → is_at pulsed line ≡ false → new.line line ≡ old.line line
  pub pulses : (line : ℕ) → is_at pulsed line ≡ true → (new.line line).pulses ≡ counted (old.line line).pulses
  pub sticks : (line : ℕ) → is_at pulsed line ≡ true → Sticks old.bounds (old.line line) (new.line line)
  pub tears : new.tears ≡ (if tearing then counted old.tears else old.tears)
  pub log : (after : List (Sense n m)) → new.log ≡ Some after
      → (before : List (Sense n m)) × (old.log ≡ Some before) × (after ≡ before ++ shown tick sensed new)
  pub wear : new.wear ≡ old.wear
  pub bounds : new.bounds ≡ old.bounds

-- How the lines of an array age, whose cells keep to bounds: what the changes of their cells are to the line writes on them.
use Rattle.std.specs.Prelude.{ℕ, ◌+◌, ◌<◌, ◌≤◌, min, IsTrue, IsFalse, List}
use Rattle.cell_rows.specs.Device.{CellBounds, LineState, ArrayState}
use Rattle.bank_shape.specs.{Shape.{slots_of, lines_in, controls_of, control_line}, declared.BankShape.BankShape}
use Rattle.bank_model.specs.{Events.BankEvent, Timing.TimedEvent, Works.{works_on, held_on, written_on, rounds_on}}

-- no cell of a line changed more often than so as its first one stuck: with no cell stuck none has spent more changes, and where one is,
-- cells endure no more
pub record Ages {n m : ℕ} (bounds : CellBounds) (most : ℕ) (line : LineState n m) : Type 0 where
  pub live : ((c : ℕ) → IsFalse (line.stuck c)) → (c : ℕ) → line.spent c ≤ most
  pub stuck : (c : ℕ) → IsTrue (line.stuck c) → bounds.endures ≤ most

-- a line endures: where a cell of it is stuck, it has had as many pulses as cells endure
abbrev pub Endures : {n m : ℕ} → CellBounds → LineState n m → Type 0
Endures bounds line = (c : ℕ) → IsTrue (line.stuck c) → bounds.endures ≤ line.pulses

-- with no cell of a line stuck, one that has missed so often since it changed has spent no more changes than so
abbrev pub MissesUnspent : {n m : ℕ} → ℕ → ℕ → LineState n m → Type 0
MissesUnspent missed most line = ((c : ℕ) → IsFalse (line.stuck c)) → (c : ℕ) → missed ≤ line.misses c → line.spent c ≤ most

-- the most changes of a cell of an array line with no cell stuck: one for each line write that ended on it, and one for that in progress
-- once it was iterated
abbrev pub most_aged : {n : ℕ} → BankShape → ℕ → List (BankEvent n) → ℕ
most_aged shape at h = works_on shape at h + min (held_on shape at h) 1

-- how the lines of a bank have aged by its events: each of them endures, and those of slots and spares by the line writes on them, in
-- which a cell that missed in every iteration of the one in progress has not changed yet
pub record AreAged {n m : ℕ} (shape : BankShape) (h : List (BankEvent n)) (array : ArrayState n m) : Type 0 where
  pub endure : (line : ℕ) → line < lines_in shape → Endures array.bounds (array.line (shape.base + line))
  pub age : (line : ℕ) → line < slots_of shape + shape.spares
      → Ages array.bounds (most_aged shape (shape.base + line) h) (array.line (shape.base + line))
  pub missed : (line : ℕ) → line < slots_of shape + shape.spares
      → MissesUnspent (held_on shape (shape.base + line) h) (works_on shape (shape.base + line) h) (array.line (shape.base + line))

-- the most changes of a cell of a control line with no cell stuck, by the line writes on it in the same way
abbrev pub most_written : {n m : ℕ} → BankShape → ℕ → List (TimedEvent n m) → ℕ
most_written shape at xs = written_on shape at xs + min (rounds_on shape at xs) 1

-- how the control lines of a bank have aged: by the line writes on each of them, in the same way
pub record AreControlsAged {n m : ℕ} (shape : BankShape) (xs : List (TimedEvent n m)) (array : ArrayState n m) : Type 0 where
  pub age : (item : ℕ) → item < controls_of shape
      → Ages array.bounds (most_written shape (control_line shape item) xs) (array.line (control_line shape item))
  pub missed : (item : ℕ) → item < controls_of shape
      → MissesUnspent (rounds_on shape (control_line shape item) xs) (written_on shape (control_line shape item) xs)
      (array.line (control_line shape item))

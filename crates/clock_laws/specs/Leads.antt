-- That a timed history leads to a bank with its clock, over an array.
use Rattle.std.specs.Prelude.{◌≡◌, ℕ, ◌+◌, ◌<◌, ◌≤◌, IsTrue, List, [], map, Some, IfSome, IsSomeAnd}
use Rattle.cell_rows.specs.Device.{ArrayState}
use Rattle.ecp_line.specs.Reading.{decode}
use Rattle.line_writer.specs.{Orderly.{IsLive, AreOrderly}, declared.writer.LineWriter.LineWriter}
use Rattle.bank_shape.specs.{Kinds.is_copy, Shape.{lines_in, controls_from, controls_of}, declared.BankShape.BankShape}
use Rattle.bank_model.specs.{Aging.{AreAged, AreControlsAged}, Changes.rounds_after, History.queue, Lawful.Lawful, Running.{running_at, cancels_after}, Sensing.{pulses_of, copied}}
use Rattle.bank_model.specs.{Timing.{TimedEvent, ends, core, last_tick}, Told.{IsTold, tick_of_row}}
use Rattle.bank_invariant.specs.{Holds.Holds, State.Operation}
use Rattle.reg_lines.specs.{Regs.RegsState, declared.Change.Change}
use Rattle.register_laws.specs.{Control.Control, Telling.AreTold}
use Rattle.clock_laws.specs.State.{ClockState}

-- a gap move in progress writes what the line that it copies was read as when its begin sensed it
abbrev pub CopiesWhatItSensed : {n m e : ℕ} → List (TimedEvent n m) → Operation n m e → Type 0
CopiesWhatItSensed {e = e} xs op = IsTrue (is_copy op.work) → IsSomeAnd (copied xs) (λ source. op.writer.bytes ≡ decode e source)

-- how the lines of a bank have aged: those of slots and spares, and the control lines. These are orderly; and with no cell of the line
-- stuck, each iteration of the writing of the change that stands was a round of the same programming
pub record HasAged {n m e : ℕ} (shape : BankShape) (xs : List (TimedEvent n m)) (regs : RegsState n m e) (array : ArrayState n m) : Type 0 where
  pub lines : AreAged shape (core xs) array
  pub controls : AreControlsAged shape xs array
  pub orderly : AreOrderly array (controls_from shape) (controls_of shape)
  pub rounds : (writer : LineWriter n m e) (change : Change) → regs.writer ≡ Some writer → regs.change ≡ Some change
      → IsLive (array.line (regs.base + change.item)) → rounds_after xs ≤ writer.prog.rounds

-- the history is one that the bank may have, what the bank, its control lines and its clock keep is what the history leaves, the
-- control lines hold what the bank keeps, each line of the bank has the pulses that the history counts and has aged by its line writes,
-- and no row that a cut took away is left to take
pub record Leads {n m e : ℕ} (xs : List (TimedEvent n m)) (clock : ClockState n m e) (array : ArrayState n m) : Type 0 where
  pub lawful : Lawful clock.bank.kept.shape clock.pace e xs
  pub holds : Holds (core xs) clock.bank array
  pub told : IsTold clock.bank.kept.shape clock.pace xs clock.tick clock.action clock.arrivals clock.cancels
  pub regs : AreTold clock.bank.kept.shape xs clock.regs
  pub control : Control clock.bank.kept clock.regs array
  pub pulses : (line : ℕ) → line < lines_in clock.bank.kept.shape
      → (array.line (clock.bank.kept.shape.base + line)).pulses ≡ pulses_of xs (clock.bank.kept.shape.base + line)
  pub aged : HasAged clock.bank.kept.shape xs clock.regs array
  pub copying : IfSome clock.bank.running (CopiesWhatItSensed xs)
  pub taken : clock.bank.lost ≡ []

-- the same but that the last event may be a cancel, whose read is still to come
pub record Reaches {n m e : ℕ} (xs : List (TimedEvent n m)) (clock : ClockState n m e) (array : ArrayState n m) : Type 0 where
  pub lawful : Lawful clock.bank.kept.shape clock.pace e xs
  pub holds : Holds (core xs) clock.bank array
  pub now : last_tick xs ≤ clock.tick
  pub runs : clock.action ≡ running_at clock.bank.kept.shape clock.pace xs clock.tick
  pub to_come : IfSome clock.action (λ a. clock.tick < ends clock.pace a)
  pub arrived : clock.arrivals ≡ map (λ entry. tick_of_row entry.row xs) (queue clock.bank.kept.shape (core xs))
  pub cancels : clock.cancels ≡ cancels_after xs
  pub regs : AreTold clock.bank.kept.shape xs clock.regs
  pub control : Control clock.bank.kept clock.regs array
  pub pulses : (line : ℕ) → line < lines_in clock.bank.kept.shape
      → (array.line (clock.bank.kept.shape.base + line)).pulses ≡ pulses_of xs (clock.bank.kept.shape.base + line)
  pub aged : HasAged clock.bank.kept.shape xs clock.regs array
  pub copying : IfSome clock.bank.running (CopiesWhatItSensed xs)
  pub taken : clock.bank.lost ≡ []

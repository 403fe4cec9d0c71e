-- The laws of a bank, over a lawful history at whose end the bank has no work.
use Rattle.std.specs.Prelude.{◌≡◌, ◌≢◌, ◌&&◌, nat_le, nat_lt, length, ℕ, ◌+◌, ◌<◌, ◌≤◌, Bool, IsTrue, List, [], filter, ◌++◌, All, IfSome}
use Rattle.cell_rows.specs.{Device.ArrayState, declared.array.Sense.Sense}
use Rattle.row_rules.specs.Table.{KeepsRows}
use Rattle.bank_shape.specs.{Shape.{slots_of, control_line, lines_in}, declared.BankShape.BankShape, declared.pace.Pace.Pace}
use Rattle.spare_pool.specs.Table.{line_from}
use Rattle.bank_model.specs.{Adding.senses_of, After.{array_line_after, slot_of_work, due_work}, Changes.{change_after, halted_after}}
use Rattle.bank_model.specs.{History.{retired, has_exhausted, due_after, queue}, Lawful.Lawful, Sensing.pulses_of, Timing.{TimedEvent, core}}
use Rattle.bank_laws.specs.{Outcomes.table_of, Resting.{IsStill, EndsIn}}
use Rattle.ecp_line.specs.ArrayLines.{is_worn_at}
use Rattle.right_runs.specs.{Banks.rules_of, KeepsLog.KeepsLogTo, KeepsPlaces.KeepsPlacesTo}

-- what holds of the array in the end: each line has the pulses of the history; the lines that were retired, the target that found no
-- spare, and the control line at which the writing of a change has halted, are worn
pub record LeavesArray {n m : ℕ} (e : ℕ) (shape : BankShape) (xs : List (TimedEvent n m)) (array : ArrayState n m) : Type 0 where
  pub pulses : (line : ℕ) → line < lines_in shape → (array.line (shape.base + line)).pulses ≡ pulses_of xs (shape.base + line)
  pub retired : (line : ℕ) → line < slots_of shape + length (retired (core xs))
      → ((slot : ℕ) → slot < slots_of shape → line_from (slots_of shape) slot (retired (core xs)) slot ≢ line)
      → IsTrue (is_worn_at e array (shape.base + line))
  pub halted : IsTrue (halted_after xs) → IfSome (change_after shape xs) (λ item. IsTrue (is_worn_at e array (control_line shape item)))
  pub exhausted : IsTrue (has_exhausted (core xs))
      → IsTrue (is_worn_at e array (array_line_after shape (core xs) (slot_of_work shape (core xs) (due_work shape (core xs) (due_after shape (core xs)) (queue shape (core xs))))))

-- the sizes of a bank, and its times
pub record IsSized (shape : BankShape) (pace : Pace) : Type 0 where
  pub regions : 1 ≤ shape.regions
  pub lines : 1 ≤ shape.lines
  pub writes : 1 ≤ shape.writes
  pub reads : 1 ≤ shape.reads
  pub psi : 1 ≤ shape.psi
  pub read : 1 ≤ pace.read
  pub iter : 1 ≤ pace.iter

-- the law of the rows
abbrev pub TableLaw : (n m : ℕ) → Type 0
TableLaw n m =
    (e : ℕ) (shape : BankShape) (pace : Pace) (xs : List (TimedEvent n m))
    → IsSized shape pace → Lawful shape pace e xs → IsStill shape xs → KeepsRows (rules_of e shape pace) (table_of shape xs)

-- the law of the places and of wear
abbrev pub PlaceLaw : (n m : ℕ) → Type 0
PlaceLaw n m =
    (off : Bool) (e : ℕ) (shape : BankShape) (pace : Pace) (xs : List (TimedEvent n m)) (array : ArrayState n m)
    → IsSized shape pace → Lawful shape pace e xs → EndsIn off shape pace xs → LeavesArray e shape xs array
    → KeepsPlacesTo e shape array off (rules_of e shape pace) (table_of shape xs)

-- the senses of a bank's lines in a log
abbrev pub log_of : {n m : ℕ} → BankShape → List (Sense n m) → List (Sense n m)
log_of shape log = filter (λ s. nat_le shape.base s.line && nat_lt s.line (shape.base + lines_in shape)) log

-- the law of the log, to which senses may have been added in the end
abbrev pub LogLaw : (n m : ℕ) → Type 0
LogLaw n m =
    (off : Bool) (e : ℕ) (shape : BankShape) (pace : Pace) (xs : List (TimedEvent n m)) (array : ArrayState n m) (log extra : List (Sense n m))
    → IsSized shape pace → Lawful shape pace e xs → EndsIn off shape pace xs → LeavesArray e shape xs array → log_of shape log ≡ senses_of xs ++ extra → All (λ s. s.pulses ≡ (array.line s.line).pulses) extra
    → KeepsLogTo e shape array off (rules_of e shape pace) (table_of shape xs) log

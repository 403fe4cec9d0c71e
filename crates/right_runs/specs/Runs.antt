-- The headline: what a completed run of a module leaves, over its array in the end. The rows are the module's table, the newest row
-- first; the seed is that of the static randomiser.
use Rattle.std.specs.Prelude.{ℕ, ◌<◌, Bool, IsTrue, List, [], false, ◌≡◌, Some, ◌*◌, true}
use Rattle.cell_rows.specs.{Device.ArrayState, declared.array.Sense.Sense}
use Rattle.row_rules.specs.{Rows.each_row, Serving.is_served, Table.KeepsRows, declared.Row.Row}
use Rattle.module_shape.specs.{Addresses.{module_of, bank_shape, array_lines_of}, declared.raw.RawShape.RawShape}
use Rattle.right_runs.specs.{Banks.{bank_of_line, line_in_bank, rules_in}, Ends.{BankEnd, EndsWithTo}, KeepsLines.KeepsLines, KeepsLog.KeepsLogTo, KeepsPlaces.KeepsPlacesTo}
use Rattle.right_runs.specs.Tables.{finds_room_in, table_in}
use Rattle.ecp_line.specs.{ArrayLines.{is_worn_at, decoded}, Untouched.HasUntouched}

module _ {n m : ℕ} (e : ℕ) (raw : RawShape) (seed : ℕ) where
  -- each row has an outcome of its own, an answered read has its line's newest bytes, and each bank keeps its laws
  pub record ServesTo (off : Bool) (rows : List (Row n)) (array : ArrayState n m) : Type 0 where
    pub served : IsTrue (each_row is_served rows [])
    pub banks : (bank : ℕ) → bank < raw.banks → KeepsRows (rules_in e raw bank) (table_in raw seed bank rows)
    pub room : (bank : ℕ) → bank < raw.banks
        → IsTrue (each_row (finds_room_in (bank_of_line raw seed) (line_in_bank raw seed) (rules_in e raw bank) bank) rows [])
    pub places : (bank : ℕ) → bank < raw.banks
        → KeepsPlacesTo e (bank_shape (module_of raw) bank) array off (rules_in e raw bank) (table_in raw seed bank rows)
    pub lines : (bank : ℕ) → bank < raw.banks
        → KeepsLines (bank_shape (module_of raw) bank) array (rules_in e raw bank) (table_in raw seed bank rows)

  -- the same where the power isn't off
  abbrev pub Serves : List (Row n) → ArrayState n m → Type 0
  Serves = ServesTo false

  -- where the array tells its log, each answer and each line shows in it
  abbrev pub SensedTo : Bool → List (Row n) → ArrayState n m → Type 0
  SensedTo off rows array =
      (log : List (Sense n m)) → array.log ≡ Some log → (bank : ℕ) → bank < raw.banks
      → KeepsLogTo e (bank_shape (module_of raw) bank) array off (rules_in e raw bank) (table_in raw seed bank rows) log

  -- each bank has a table of lines and moves of its regions by which each line's newest bytes are there
  abbrev pub EndsTo : Bool → List (Row n) → ArrayState n m → (ℕ → BankEnd) → Type 0
  EndsTo off rows array ends =
      (bank : ℕ) → bank < raw.banks
      → EndsWithTo off (bank_shape (module_of raw) bank) (is_worn_at e array) (decoded e array) (table_in raw seed bank rows) (ends bank)

  -- each unused check cell of every array line is untouched
  abbrev pub Unused : ArrayState n m → Type 0
  Unused array = (line : ℕ) → line < array.lines → HasUntouched e (array.line line)

  -- the headline: what a completed run leaves, or one whose last row is a power cut behind which the power stays off
  pub record RunsRightTo (off : Bool) (rows : List (Row n)) (array : ArrayState n m) (ends : ℕ → BankEnd) : Type 0 where
    pub size : array.lines ≡ raw.banks * array_lines_of (module_of raw)
    pub serves : ServesTo off rows array
    pub sensed : SensedTo off rows array
    pub end : EndsTo off rows array ends
    pub unused : Unused array

  -- what a completed run leaves
  abbrev pub RunsRight : List (Row n) → ArrayState n m → (ℕ → BankEnd) → Type 0
  RunsRight = RunsRightTo false

  -- what one leaves behind whose last row the power stays off
  abbrev pub StopsRight : List (Row n) → ArrayState n m → (ℕ → BankEnd) → Type 0
  StopsRight = RunsRightTo true

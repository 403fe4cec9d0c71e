-- That at any moment a bank stands as one does behind whose last row the power stays off.
use Rattle.std.specs.Prelude.{ℕ, List, true}
use Rattle.cell_rows.specs.Device.{ArrayState}
use Rattle.ecp_line.specs.ArrayLines.{decoded, is_worn_at}
use Rattle.bank_shape.specs.declared.pace.Pace.{Pace}
use Rattle.bank_model.specs.{Lawful.Lawful, Timing.{TimedEvent, core}}
use Rattle.bank_invariant.specs.{Holds.Holds, State.BankState}
use Rattle.bank_laws.specs.{Laws.IsSized, Outcomes.table_of}
use Rattle.end_laws.specs.EndLaws.{IsHaltedWorn, end_of}
use Rattle.right_runs.specs.Ends.{EndsWithTo}

-- wherever a lawful history stands, reads waiting and a line write in progress or not: by the rows so far, of which a write without an outcome counts as queued,
-- each line's newest bytes are where what the bank keeps says, and its queue is what its queued writes give
abbrev pub MeanwhileLaw : Type 0
MeanwhileLaw =
    (n m e : ℕ) (pace : Pace) (xs : List (TimedEvent n m)) (bank : BankState n m e) (array : ArrayState n m)
    → IsSized bank.kept.shape pace → Lawful bank.kept.shape pace e xs → Holds (core xs) bank array → IsHaltedWorn e bank.kept.shape xs array
    → EndsWithTo true bank.kept.shape (is_worn_at e array) (decoded e array) (table_of bank.kept.shape xs) (end_of bank.kept (core xs))

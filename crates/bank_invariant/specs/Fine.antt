-- A line write on a line of which no cell is stuck takes few pulses.
use Rattle.std.specs.Prelude.{◌≡◌, ℕ, ◌≤◌, List, Some}
use Rattle.cell_rows.specs.Device.{ArrayState}
use Rattle.line_writer.specs.Orderly.{IsLive}
use Rattle.bank_model.specs.{Events.BankEvent, History.iterated}
use Rattle.bank_invariant.specs.{Holds.Holds, State.{BankState, Operation}}

-- a line write in progress on a line of which no cell is stuck has had at most as many iterations as the cells of its array may miss:
-- so with its last one it takes at most one more
abbrev pub FineWriteLaw : Type 0
FineWriteLaw =
    (n m e : ℕ) (h : List (BankEvent n)) (bank : BankState n m e) (array : ArrayState n m) (op : Operation n m e)
    → Holds h bank array → bank.running ≡ Some op → IsLive (array.line op.target)
    → iterated h ≤ array.bounds.misses

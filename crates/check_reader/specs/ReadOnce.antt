-- Bytes are read in one way.
use Rattle.std.specs.Prelude.{◌≡◌, ℕ, ◌^◌, ◌<◌, ◌≤◌, List, length, Some, slice_get}
use Rattle.result_rows.specs.{declared.Op.Op, declared.Outcome.Outcome}
use Rattle.check_reader.specs.{ResultRows.{AreResults, IsFault}, declared.fault.ResultFault.ResultFault}

-- the operations and lines of so few rows that each has a number, and each line one of 32 bits
pub record AreAsks (asks : List (Op × ℕ)) : Type 0 where
  pub few : length asks < 2 ^ 32
  pub lines : (i : ℕ) (ask : Op × ℕ) → slice_get asks i ≡ Some ask → ask.1 < 2 ^ 32

-- two tables whose text the bytes are are one, so are two faults of the bytes, and no bytes have a table and a fault
pub record IsReadOnce (n : ℕ) (asks : List (Op × ℕ)) (bytes : List ℕ) : Type 0 where
  pub results : (one other : List (Outcome n)) → AreResults asks bytes one → AreResults asks bytes other → one ≡ other
  pub fault : (one other : ResultFault) → IsFault n asks bytes one → IsFault n asks bytes other → one ≡ other
  pub apart : (outcomes : List (Outcome n)) (one : ResultFault) → AreResults asks bytes outcomes → ¬ IsFault n asks bytes one

abbrev pub ReadOnceLaw : Type 0
ReadOnceLaw = (n : ℕ) (asks : List (Op × ℕ)) (bytes : List ℕ) → 1 ≤ n → AreAsks asks → IsReadOnce n asks bytes

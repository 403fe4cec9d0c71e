-- What the code finds for a write, with the rows that say so.
use Rattle.std.specs.Prelude.{◌≡◌, ℕ, ◌+◌, ◌*◌, ◌==◌, List, [], filter, length, reverse}
use Rattle.row_rules.specs.{Queueing.{pending, is_refused}, Rows.{accepted_of, write_of}, Ticking.longest, Wearing.worn_row, declared.Row.Row, declared.Rules.Rules}
use Rattle.check_judging.specs.Distances.{last_end, ends_above, waits_above}
use Rattle.check_verdict.specs.{Judged.beside, Verdicts.bank_in}
use Rattle.check_telling.specs.{Standing.{first_at, mates_of, rows_of, AreNumbered}, declared.facts.StoreBound.StoreBound, declared.mates.Numbered.Numbered}
use Rattle.check_telling.specs.declared.writes.WriteGrounds.{WriteGrounds}

-- the longest time until a write is stored in which w further writes are stored, s reads are read and c cuts come
abbrev pub by_bound : StoreBound → ℕ → ℕ → ℕ → ℕ
by_bound bound w s c = bound.alone + w * bound.a_store + s * bound.a_read + c * bound.a_cut

abbrev pub IsBound : Rules → StoreBound → Type 0
IsBound rules bound = (w s c : ℕ) → longest rules (1 + w) s c ≡ by_bound bound w s c

-- what a write of a line finds by its bank's rows, those before it the newest first
pub record FindsWrite {n : ℕ} (rules : Rules) (tick line : ℕ) (past : List (Row n)) (g : WriteGrounds n) : Type 0 where
  pub stand : rows_of g.standing.items ≡ reverse (pending tick [] past)
  pub full_is : g.full ≡ (length (pending tick [] past) == rules.writes)
  pub alone_is : g.alone ≡ is_refused tick (pending tick [] past) (filter (write_of line) (pending tick [] past))
  pub last_is : g.last_store ≡ last_end tick past
  pub stores_are : g.stores.items ≡ reverse (ends_above tick past)
  pub reads_are : g.reads.items ≡ reverse (waits_above tick past)
  pub bound_is : IsBound rules g.bound

-- of a write of a line among a bank's rows
pub record IsWriteOfBank {n : ℕ} (rules : Rules) (tick line : ℕ) (past later : List (Numbered n)) (g : WriteGrounds n) : Type 0 where
  pub finds : FindsWrite rules tick line (reverse (rows_of past)) g
  pub stand_numbers : (above : ℕ) (table : List (Row n)) → AreNumbered above table past → AreNumbered above table g.standing.items
  pub before_is : g.worn_before ≡ first_at worn_row past
  pub behind_is : g.worn_behind ≡ first_at worn_row later
  pub next_is : g.next ≡ first_at (accepted_of line) later

-- of one in a whole table, the oldest row first: each row that is told is one of the table, by its number
pub record TellsWrite {n : ℕ} (rules : Rules) (banks : List ℕ) (tick line : ℕ) (before after : List (Row n)) (g : WriteGrounds n) : Type 0 where
  pub finds : FindsWrite rules tick line (beside banks line (reverse before)) g
  pub stand_numbers : AreNumbered 0 before g.standing.items
  pub before_is : g.worn_before ≡ first_at worn_row (mates_of (bank_in banks) (bank_in banks line) 0 before)
  pub behind_is : g.worn_behind ≡ first_at worn_row (mates_of (bank_in banks) (bank_in banks line) (length before + 1) after)
  pub next_is : g.next ≡ first_at (accepted_of line) (mates_of (bank_in banks) (bank_in banks line) (length before + 1) after)
